pub mod Chain
pub mod Raising
pub mod Taking
pub mod Halving
