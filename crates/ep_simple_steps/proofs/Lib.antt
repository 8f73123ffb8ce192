pub mod Inputs
pub mod Clears
pub mod Waiting
pub mod Solid
