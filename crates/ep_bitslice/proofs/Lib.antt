pub mod Joining
pub mod NormalForm
pub mod Appending
pub mod Numbers
pub mod Operations
pub mod Pieces
pub mod Cuts
pub mod Walks
pub mod Parts
mod Worked
pub mod Equality
