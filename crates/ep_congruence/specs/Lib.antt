pub use Rattle.ep_congruence_domain.specs.Congruence
pub use Rattle.ep_congruence_domain.specs.Domain
