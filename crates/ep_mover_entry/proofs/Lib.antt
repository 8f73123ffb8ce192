pub mod Symbols
pub mod Grids
pub mod Cells
pub mod Begins
