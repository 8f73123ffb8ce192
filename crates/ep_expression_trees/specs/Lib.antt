pub mod BoundedTrees
pub mod Measured
