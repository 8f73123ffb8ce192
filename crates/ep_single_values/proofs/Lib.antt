mod Given
mod Operands
mod Moves
pub mod Assuming
mod Later
mod Idle
pub mod Short
mod Conditional
pub mod Final
