pub mod Symbols
pub mod Forms
pub mod Movers
