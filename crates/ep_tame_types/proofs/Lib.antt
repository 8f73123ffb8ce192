pub mod Types
pub mod Once
