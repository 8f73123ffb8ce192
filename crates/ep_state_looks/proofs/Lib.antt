pub mod Windows
pub mod Walking
