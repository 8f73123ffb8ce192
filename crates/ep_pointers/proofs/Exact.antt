-- The exact result of a number of units fits, and lies between those of the ends of ranges.
use Rattle.std.proofs.Common.{◌≡◌, ℕ, ◌<◌, ℤ, pos, negsuc, ◌+ℤ◌, ◌-ℤ◌, ◌*ℤ◌, ◌≤ℤ◌, sym, subst, FitsSigned, arith}
use Rattle.ep_range_laws.proofs.Comparisons.{le_trans}
use Rattle.std.specs.Int.{w128}
use Rattle.std.proofs.lemmas.Int.{ints}
use Rattle.ep_int.specs.Arith.{IsOfSomeType}
use Rattle.ep_range_laws.specs.Ranges.{IsRange}
use Rattle.ep_range_laws.proofs.Corners.{product_up}

pub record Fits (o y : ℤ) (u : ℕ) : Type 0 where
  pub product : FitsSigned w128 (y *ℤ pos u)
  pub sum : FitsSigned w128 (o +ℤ (y *ℤ pos u))
  pub difference : FitsSigned w128 (o -ℤ (y *ℤ pos u))

low_product : (u : ℕ) → u < 4294967296 → negsuc 39614081257132168796771975167 ≤ℤ (negsuc 9223372036854775807 *ℤ pos u)
low_product u h = omega (arith, ints)

high_product : (u : ℕ) → u < 4294967296 → (pos 18446744073709551615 *ℤ pos u) ≤ℤ pos 79228162514264337593543950336
high_product u h = omega (arith, ints)

fits_at : (o p : ℤ) → negsuc 9223372036854775807 ≤ℤ o → o ≤ℤ pos 18446744073709551615
    → negsuc 39614081257132168796771975167 ≤ℤ p → p ≤ℤ pos 79228162514264337593543950336
    → FitsSigned w128 p × FitsSigned w128 (o +ℤ p) × FitsSigned w128 (o -ℤ p)
fits_at o p a b c e = (omega (arith, ints), omega (arith, ints), omega (arith, ints))

pub fits : (o y : ℤ) (u : ℕ) → IsOfSomeType o → IsOfSomeType y → u < 4294967296 → Fits o y u
fits o y u a b h =
    let low = le_trans _ _ _ (low_product u h) (product_up (negsuc 9223372036854775807) y u b.low) in
    let high = le_trans _ _ _ (product_up y (pos 18446744073709551615) u b.high) (high_product u h) in
    let all = fits_at o (y *ℤ pos u) a.low a.high low high in
    record { product = all.0; sum = all.1; difference = all.2 }

-- the ends of a range are numbers of some type
pub record Ends (r : ℤ × ℤ) : Type 0 where
  pub low : IsOfSomeType r.0
  pub high : IsOfSomeType r.1

pub ends : (r s : ℤ × ℤ) → r ≡ s → IsRange s.0 s.1 → Ends r
ends r s e i = subst Ends (sym e) (record {
  low = record { low = i.above; high = le_trans _ _ _ i.ordered i.below };
  high = record { low = le_trans _ _ _ i.above i.ordered; high = i.below };
})
