pub mod Meetings
pub mod Narrowed
pub mod Assumed
pub mod Counted
pub mod Gathered
