pub mod Window
pub mod Runs
pub mod Windows
pub mod Listings
pub mod Circle
pub mod Rooms
