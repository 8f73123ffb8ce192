pub mod Exactly
pub mod Passes
