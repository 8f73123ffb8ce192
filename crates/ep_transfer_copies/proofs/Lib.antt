pub mod Moving
pub mod Choosing
