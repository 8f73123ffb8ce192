pub mod KnownBits
pub mod Domain
pub mod Exact
