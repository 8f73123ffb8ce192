pub mod LoadSteps
pub mod Sorts
pub mod Taken
mod Covered
mod AtHand
