mod Walks
pub mod Texts
