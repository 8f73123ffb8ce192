pub mod Cells
pub mod Stays
pub mod Refused
