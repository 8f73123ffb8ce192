pub mod Refinement
pub mod Sides
