pub mod Naturals
pub mod Laws
