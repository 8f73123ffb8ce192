pub mod Products
pub mod Pairs
pub mod BitPairs
