pub mod Taken
pub mod Moves
