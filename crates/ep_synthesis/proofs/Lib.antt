pub mod Crossing
pub mod Splitting
pub mod Sized
