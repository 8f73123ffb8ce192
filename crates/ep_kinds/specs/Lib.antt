pub mod Tame
pub mod Rows
pub mod InOut
pub mod Closed
pub mod Steady
