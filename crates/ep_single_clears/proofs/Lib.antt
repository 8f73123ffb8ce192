pub mod Running
pub mod Undefined
pub mod Cleared
pub mod Statements
