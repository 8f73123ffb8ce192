pub use Rattle.ep_bit_domain.specs.KnownBits
pub use Rattle.ep_bit_domain.specs.Domain
pub use Rattle.ep_bit_domain.specs.Exact
