pub mod CallKinds
pub mod Own
pub mod Bound
pub mod Received
pub mod Gathered
