pub mod Turns
pub mod Entries
pub mod Together
pub mod Checked
pub mod Beginnings
