pub mod Loops
pub mod Stepwise
pub mod Both
pub mod Liken
pub mod Cuts
pub mod Adjoining
pub mod ByTurns
pub mod Reshares
