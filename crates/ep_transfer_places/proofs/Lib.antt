pub mod RunSpots
pub mod Rooms
pub mod Moving
