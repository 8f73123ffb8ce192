pub mod Pieces
pub mod Puts
pub mod Walked
pub mod Rows
pub mod Several
