pub mod Piles
pub mod Rounds
pub mod Entering
pub mod Binds
pub mod Bytewise
