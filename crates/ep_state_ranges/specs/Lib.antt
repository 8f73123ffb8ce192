pub mod HeldForms
pub mod InRow
pub mod Merged
pub mod Taken
