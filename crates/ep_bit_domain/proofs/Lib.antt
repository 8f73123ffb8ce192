pub mod Formed
pub mod Stored
pub mod Simple
pub mod Outcomes
pub mod Lawful
pub mod Exact
pub mod Members
