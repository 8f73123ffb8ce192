pub mod Results
pub mod Conversions
pub mod Pairs
