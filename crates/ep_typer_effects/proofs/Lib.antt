pub mod Shapes
pub mod Others
