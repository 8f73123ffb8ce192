pub mod Found
pub mod Stops
pub mod Leaving
pub mod Pieces
