pub mod Unparted
pub mod Over
pub mod Falls
pub mod LeafCells
pub mod Shapes
pub mod Entered
pub mod Exact
pub mod Heads
