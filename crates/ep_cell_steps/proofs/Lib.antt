pub mod Making
pub mod Local
pub mod Writing
pub mod Weakening
pub mod Killing
pub mod Blurring
pub mod Changing
pub mod Standing
mod Cutting
