pub mod Least
pub mod Given
pub mod Yes
pub mod Headless
