-- An interval is stored as its two ends.
use Rattle.std.specs.Prelude.{ℤ, pos}
use Rattle.std.specs.Option.{unwrap_or}
use Rattle.std.specs.Coded.{Coded, code_by, coded×, coded_ℤ}
use Rattle.std.proofs.Common.{ap}
use Rattle.ep_interval_laws.specs.Interval.{Interval, between, single_of}
use Rattle.ep_interval_laws.proofs.Between.{between_some}

abbrev pub interval_code : Coded Interval
interval_code = code_by (ℤ × ℤ) (coded× coded_ℤ coded_ℤ) (λ a. (a.lo, a.hi))
    (λ e. unwrap_or (between e.0 e.1) (single_of (pos 0)))
    (λ a. ap (λ o. unwrap_or o (single_of (pos 0))) (between_some a.lo a.hi a.ends))
