-- A value is stored as its two masks.
use Rattle.std.specs.Prelude.{ℕ, refl}
use Rattle.std.specs.Option.{unwrap_or}
use Rattle.std.specs.Coded.{Coded, code_by, coded×, coded_ℕ}
use Rattle.std.proofs.Common.{ap}
use Rattle.ep_int.specs.declared.types.IntType.TheVariants.{I64}
use Rattle.ep_bit_laws.specs.Patterns.{pattern, is_pattern}
use Rattle.ep_bit_domain.specs.KnownBits.{KnownBits, pattern_of, made_if, top_of}
use Rattle.ep_bit_domain.proofs.Formed.{made_some}

abbrev pub bits_code : Coded KnownBits
bits_code = code_by (ℕ × ℕ) (coded× coded_ℕ coded_ℕ) (λ c. (c.zeros, c.ones))
    (λ e. unwrap_or (made_if (pattern e.0 e.1) (is_pattern e.0 e.1) refl) (top_of I64))
    (λ c. ap (λ o. unwrap_or o (top_of I64)) (made_some (pattern_of c) (is_pattern c.zeros c.ones) refl c.valid))
