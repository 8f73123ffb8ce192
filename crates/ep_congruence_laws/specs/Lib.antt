pub mod Multiples
pub mod Classes
pub mod Results
