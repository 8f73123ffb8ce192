pub mod Basics
mod Expressions
mod Fields
pub mod Programs
pub mod Depths
