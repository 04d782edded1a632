pub mod Order
pub mod Bounds
pub mod Raising
pub mod Taking
pub mod Counts
pub mod Halving
pub mod Parts
pub mod Range
