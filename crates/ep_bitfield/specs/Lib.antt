pub mod Bits
pub mod Units
pub mod Accesses
pub mod Laws
