pub mod Names
pub mod Tokens
pub mod Tree
pub mod Laws
