pub mod Taken
pub mod Assigned
