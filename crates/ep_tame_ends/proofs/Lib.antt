pub mod Begun
pub mod Firsts
pub mod Entry
pub mod Ended
pub mod Gathered
