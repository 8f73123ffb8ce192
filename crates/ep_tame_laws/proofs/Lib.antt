pub mod Laid
pub mod Found
pub mod Along
pub mod LeavesIn
pub mod Parts
pub mod Listed
pub mod Main
pub mod Tame
