pub mod View
pub mod Typed
pub mod Rounds
