pub mod Firsts
pub mod Starts
pub mod Ends
pub mod Texts
