pub mod Exact
pub mod Samples
pub mod Unknown
