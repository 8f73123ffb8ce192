pub mod Types
pub mod Encoding
pub mod Memory
pub mod Arith
