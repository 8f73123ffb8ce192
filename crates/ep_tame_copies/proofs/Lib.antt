pub mod Sources
pub mod Pieces
pub mod Moves
pub mod EmptyMoves
pub mod Statements
