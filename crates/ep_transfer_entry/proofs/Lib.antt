mod Begins
mod Blocks
mod Lookups
mod Starts
mod Together
mod Turns
