pub mod Value
pub mod Sum
pub mod Compare
pub mod Parts
pub mod Laws
