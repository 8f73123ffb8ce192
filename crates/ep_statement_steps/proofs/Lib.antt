pub mod Arms
pub mod Begins
