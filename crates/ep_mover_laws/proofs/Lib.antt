pub mod Sides
pub mod Along
pub mod Passes
pub mod Reports
