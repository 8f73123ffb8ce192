pub mod Spreading
pub mod Halving
pub mod Steps
pub mod Adding
pub mod Mentioning
pub mod Planning
