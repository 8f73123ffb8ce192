pub mod Congruence
pub mod Domain
