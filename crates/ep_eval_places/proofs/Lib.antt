pub mod Held
pub mod Odd
pub mod Hulls
pub mod ElementSums
