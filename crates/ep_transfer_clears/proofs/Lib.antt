pub mod Stepping
pub mod Zeros
pub mod Tiles
pub mod AtOnce
