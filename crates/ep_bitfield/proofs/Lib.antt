mod Masks
mod Numbers
mod Runs
mod Writes
mod Sets
pub mod Fits
pub mod Packs
mod Worked
