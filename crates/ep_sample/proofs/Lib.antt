pub mod LastLine
pub mod Lengths
pub mod Pieces
pub mod Rows
