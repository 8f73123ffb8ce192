pub mod Restricted
pub mod Laws
