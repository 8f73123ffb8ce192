pub mod Apart
pub mod Copied
pub mod Statements
