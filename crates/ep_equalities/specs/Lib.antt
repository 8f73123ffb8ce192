pub mod Same
pub mod Pairs
