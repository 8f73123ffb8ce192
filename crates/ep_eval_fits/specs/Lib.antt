pub mod Fitting
pub mod Likeness
