pub mod View
pub mod Known
pub mod Comes
pub mod Words
