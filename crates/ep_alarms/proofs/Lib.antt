pub mod Order
pub mod Places
pub mod Ranges
pub mod Decimals
pub mod Lines
pub mod Gathered
pub mod Others
