pub use Rattle.ep_range_laws.specs.Ranges
pub use Rattle.ep_range_laws.specs.Faults
pub mod Domain
pub mod Common
pub mod Pairs
pub mod PairDomain
pub mod Laws
