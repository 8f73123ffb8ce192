pub mod Written
pub mod Kept
pub mod Uncut
pub mod Writes
pub mod Others
