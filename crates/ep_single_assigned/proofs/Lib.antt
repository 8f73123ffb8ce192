pub mod Kept
pub mod Machines
pub mod Puts
pub mod Statements
