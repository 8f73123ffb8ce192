pub mod Steps
pub mod Modes
pub mod Places
pub mod Located
