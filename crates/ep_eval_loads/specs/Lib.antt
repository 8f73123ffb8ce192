pub mod Running
pub mod Loads
pub mod After
pub mod Near
