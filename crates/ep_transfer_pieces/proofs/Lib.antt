pub mod Walking
pub mod Sorts
pub mod Planning
pub mod Turns
pub mod Beside
pub mod Holding
pub mod AtEach
pub mod Looking
