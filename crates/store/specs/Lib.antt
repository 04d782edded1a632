pub mod Pairs
pub mod Faults
pub mod Stores
pub mod Laws
