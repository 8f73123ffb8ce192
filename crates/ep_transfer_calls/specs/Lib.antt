pub mod Typed
pub mod Waiting
