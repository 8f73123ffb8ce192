pub mod Covered
pub mod Firsts
pub mod Begins
