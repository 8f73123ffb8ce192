pub mod Due
pub mod Rests
