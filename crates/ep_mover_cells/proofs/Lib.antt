pub mod Loaded
pub mod Bytewise
