pub mod Given
pub mod Loads
