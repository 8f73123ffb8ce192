pub mod Forms
pub mod Sides
