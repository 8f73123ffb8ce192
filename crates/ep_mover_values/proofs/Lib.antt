pub mod Constants
pub mod Places
pub mod Loads
pub mod Bits
pub mod Values
