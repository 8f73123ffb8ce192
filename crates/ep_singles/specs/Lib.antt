pub mod Numbers
pub mod Cells
pub mod Laws
pub mod CellLaws
pub mod WriteLaws
