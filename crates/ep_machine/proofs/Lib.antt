pub mod Answers
pub mod Kills
pub mod Parts
pub mod Writes
