pub mod PartsInvariant
pub mod Writes
pub mod Weakened
pub mod Killed
pub mod Left
pub mod Planned
pub mod Opened
