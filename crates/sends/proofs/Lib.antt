pub mod Rooms
pub mod Copies
