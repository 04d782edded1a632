pub mod Chosen
pub mod Filing
pub mod Forms
pub mod Stores
