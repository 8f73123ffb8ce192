-- What each part of a pair keeps.
use Rattle.std.specs.Prelude.{◌≡◌, ℕ, ℤ, pos, ◌+ℤ◌, ◌*ℤ◌, IfSome}
use Rattle.ep_int.specs.declared.types.IntType.TheVariants.{I64}
use Rattle.ep_int.specs.declared.types.BinOp.TheVariants.{Add, Mul}
use Rattle.ep_int.specs.Arith.{IsOfSomeType}
use Rattle.ep_domain.specs.Domain.{Ops, IsSingle}
use Rattle.ep_range_laws.specs.Ranges.{Encloses}

pub record KeepsRanges {N : Type 0} (d : Ops N) : Type 0 where
  pub cut : (a : N) (lo hi : ℤ) → IfSome (d.cut a lo hi)
      (λ c. Encloses (lo, hi) (d.range c) × Encloses (d.range a) (d.range c))
  pub sum : (a b : N) → IfSome (d.op Add I64 a b).value
      (λ c. Encloses ((d.range a).0 +ℤ (d.range b).0, (d.range a).1 +ℤ (d.range b).1) (d.range c))
  pub product : (a b : N) (k : ℕ) → IsSingle d b (pos k) → IfSome (d.op Mul I64 a b).value
      (λ c. Encloses ((d.range a).0 *ℤ pos k, (d.range a).1 *ℤ pos k) (d.range c))

-- what is one number, and parts of it
pub record KeepsSingles {N : Type 0} (d : Ops N) : Type 0 where
  pub cut : (v lo hi : ℤ) → IsOfSomeType v → IfSome (d.cut (d.single v) lo hi) (λ c. c ≡ d.single v)
  pub join : (v : ℤ) → IsOfSomeType v → d.join (d.single v) (d.single v) ≡ d.single v
  pub widen : (v : ℤ) → IsOfSomeType v → d.widen (d.single v) (d.single v) ≡ d.single v
