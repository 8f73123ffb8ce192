pub mod Both
pub mod States
pub mod Steps
pub mod Typed
