pub mod Scale
pub mod Order
pub mod Digits
pub mod Largest
pub mod Shape
pub mod Fraction
