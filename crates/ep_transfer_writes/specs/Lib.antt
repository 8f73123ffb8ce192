pub mod Waiting
pub mod Running
