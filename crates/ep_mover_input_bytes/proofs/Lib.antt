pub mod Cuts
pub mod Bytes
pub mod NewCell
pub mod Inputs
