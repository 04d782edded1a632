pub mod Kept
pub mod Places
pub mod Steps
pub mod Rooms
pub mod Raising
pub mod Moves
pub mod Joins
