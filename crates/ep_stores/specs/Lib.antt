pub mod View
pub mod Passing
pub mod Stores
