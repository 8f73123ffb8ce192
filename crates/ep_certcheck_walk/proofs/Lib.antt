pub mod First
pub mod Combined
pub mod Alone
pub mod Rows
pub mod Arms
pub mod Turning
pub mod Kept
pub mod Ends
