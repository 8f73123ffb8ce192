pub mod Wrapping
pub mod Places
pub mod Encodings
pub mod Arithmetic
pub mod Memories
mod Worked
mod MemoryRows
pub mod Basics
