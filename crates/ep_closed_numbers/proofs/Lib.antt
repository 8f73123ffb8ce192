pub mod Heads
pub mod Exact
