pub mod Apart
pub mod Copied
pub mod Copies
pub mod Statements
