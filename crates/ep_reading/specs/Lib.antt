pub mod Names
pub mod Look
pub mod Measured
pub mod Answer
