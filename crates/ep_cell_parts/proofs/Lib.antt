pub mod Allowed
pub mod Together
pub mod Staying
pub mod Valuing
pub mod Equal
pub mod Abouts
mod Beside
