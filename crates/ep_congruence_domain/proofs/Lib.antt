pub mod Formed
pub mod Stored
pub mod Simple
pub mod Outcomes
pub mod Strides
pub mod Lawful
