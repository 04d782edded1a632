pub mod Tables
pub mod Bounds
pub mod Factor
pub mod Faults
pub mod Laws
pub mod Layout
