pub mod Places
pub mod Loads
pub mod Truths
pub mod Moves
pub mod Elements
