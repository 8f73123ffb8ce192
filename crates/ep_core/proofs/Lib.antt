mod Rows
mod TypedRows
pub mod Views
pub mod Prefixes
pub mod Grows
pub mod Shifts
pub mod Around
pub mod Reached
pub mod Whole
pub mod WaysTaken
pub mod Bodies
pub mod Bytes
pub mod Sorts
pub mod Typing
pub mod Operands
pub mod Fitting
pub mod Basics
pub mod Tables
