pub mod Zeros
pub mod Found
