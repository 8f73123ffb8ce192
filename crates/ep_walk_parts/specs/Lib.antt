pub mod Pieces
pub mod Typed
