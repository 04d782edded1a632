pub mod Spans
pub mod Faults
pub mod Writing
pub mod Reading
pub mod Readers
pub mod Laws
