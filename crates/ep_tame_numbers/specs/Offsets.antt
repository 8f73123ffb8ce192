-- What a domain of numbers keeps of offsets in tame programs, beside the laws of every domain (this project's rules).
use Rattle.std.specs.Prelude.{◌≡◌, ℕ, ℤ, pos, ◌+ℤ◌, ◌*ℤ◌, true, IfSome}
use Rattle.ep_int.specs.declared.types.IntType.TheVariants.{I64}
use Rattle.ep_int.specs.declared.types.BinOp.TheVariants.{Add, Mul}
use Rattle.ep_int.specs.Arith.{IsOfSomeType}
use Rattle.ep_domain.specs.Domain.{Ops, IsSingle}
use Rattle.ep_range_laws.specs.Ranges.{Encloses}

pub record KeepsOffsets {N : Type 0} (d : Ops N) : Type 0 where
  pub strides : d.keeps_strides ≡ true
  -- the range of a part is in that of the whole, and between the ends
  pub cut_range : (a : N) (lo hi : ℤ) → IfSome (d.cut a lo hi)
      (λ c. Encloses (lo, hi) (d.range c) × Encloses (d.range a) (d.range c))
  -- that of a sum lies between the sums of the ends, and of a product by a number that isn't negative so
  pub sum_range : (a b : N) → IfSome (d.op Add I64 a b).value
      (λ c. Encloses ((d.range a).0 +ℤ (d.range b).0, (d.range a).1 +ℤ (d.range b).1) (d.range c))
  pub product_range : (a b : N) (k : ℕ) → IsSingle d b (pos k) → IfSome (d.op Mul I64 a b).value
      (λ c. Encloses ((d.range a).0 *ℤ pos k, (d.range a).1 *ℤ pos k) (d.range c))
  -- one number alone stays that number
  pub join_single : (v : ℤ) → IsOfSomeType v → d.join (d.single v) (d.single v) ≡ d.single v
  pub widen_single : (v : ℤ) → IsOfSomeType v → d.widen (d.single v) (d.single v) ≡ d.single v
