pub mod Alone
pub mod Arms
pub mod Lefts
pub mod Narrowings
pub mod Nexts
pub mod Parts
