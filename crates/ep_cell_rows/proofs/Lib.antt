pub mod Same
pub mod Renaming
pub mod Settled
pub mod Order
