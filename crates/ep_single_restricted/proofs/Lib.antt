pub mod Bytes
pub mod Values
pub mod Changes
pub mod Runs
