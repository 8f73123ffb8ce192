pub mod Look
pub mod Pending
pub mod Parsed
pub mod Answer
