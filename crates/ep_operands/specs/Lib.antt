pub mod Refinement
pub mod View
pub mod Numbers
