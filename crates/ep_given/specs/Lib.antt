pub mod View
pub mod Appended
