pub mod TameRows
