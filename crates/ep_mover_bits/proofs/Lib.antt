pub mod Bytes
pub mod Operators
pub mod Forms
