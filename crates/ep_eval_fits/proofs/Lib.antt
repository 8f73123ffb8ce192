pub mod Fitting
pub mod Likeness
pub mod Wide
