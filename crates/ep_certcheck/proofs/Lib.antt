pub mod Answered
pub mod Failing
pub mod HeadsOf
