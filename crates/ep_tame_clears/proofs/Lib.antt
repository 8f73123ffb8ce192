pub mod Objects
pub mod Clears
pub mod Empty
pub mod Edges
pub mod Statements
