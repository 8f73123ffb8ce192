pub mod Numbers
pub mod Truths
pub mod Sides
