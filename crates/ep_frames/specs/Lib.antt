pub mod Arguments
pub mod Stack
pub mod Heft
