pub mod Look
pub mod Answer
