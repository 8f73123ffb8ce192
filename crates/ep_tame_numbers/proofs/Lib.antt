pub mod Parts
pub mod Pairs
pub mod Intervals
pub mod Classes
