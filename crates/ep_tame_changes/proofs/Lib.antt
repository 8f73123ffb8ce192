pub mod Killed
