pub mod Spread
pub mod Mentions
pub mod Plans
pub mod Walks
