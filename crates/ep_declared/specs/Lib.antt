pub mod Refinement
pub mod View
pub mod Open
pub mod Counts
pub mod Stopped
pub mod Entries
