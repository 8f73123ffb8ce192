pub mod Machine
pub mod Products
