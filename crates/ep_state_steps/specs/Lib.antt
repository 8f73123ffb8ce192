pub mod Ones
pub mod Met
pub mod Rounds
