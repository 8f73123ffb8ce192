pub mod Tokens
pub mod Step
pub mod Shorts
