-- A congruence is stored as its remainder and its modulus.
use Rattle.std.specs.Prelude.{ℕ, ℤ, refl}
use Rattle.std.specs.Option.{unwrap_or}
use Rattle.std.specs.Coded.{Coded, code_by, coded×, coded_ℤ, coded_ℕ}
use Rattle.std.proofs.Common.{ap}
use Rattle.ep_congruence_laws.specs.Classes.{class, everything}
use Rattle.ep_congruence_domain.specs.Congruence.{Congruence, class_of, made, formed}
use Rattle.ep_congruence_domain.proofs.Formed.{formed_some}

abbrev pub congruence_code : Coded Congruence
congruence_code = code_by (ℤ × ℕ) (coded× coded_ℤ coded_ℕ) (λ c. (c.remainder, c.modulus))
    (λ e. unwrap_or (formed (class e.0 e.1)) (made everything refl))
    (λ c. ap (λ o. unwrap_or o (made everything refl)) (formed_some (class_of c) c.valid))
