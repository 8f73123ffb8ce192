pub mod Alone
pub mod Lines
pub mod Points
pub mod Targets
