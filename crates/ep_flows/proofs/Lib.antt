pub mod Telling
pub mod Combined
pub mod Counting
pub mod Gathering
pub mod Circles
pub mod Bounds
pub mod Basics
