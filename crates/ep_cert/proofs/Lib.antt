pub mod Undoing
pub mod CellLaws
pub mod CertLaws
pub mod Written
pub mod Turns
pub mod Writable
pub mod Sizes
