pub mod Operators
pub mod Filters
pub mod Blocks
pub mod Reshares
