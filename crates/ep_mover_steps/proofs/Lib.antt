pub mod Stepping
pub mod Alones
