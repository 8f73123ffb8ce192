pub mod Bits
pub mod Patterns
pub mod Edges
pub mod Results
