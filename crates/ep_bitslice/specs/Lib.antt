pub mod Bits
pub mod Segments
