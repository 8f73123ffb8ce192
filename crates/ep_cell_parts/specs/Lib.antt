pub mod Alike
pub mod Valued
pub mod Orders
pub mod About
