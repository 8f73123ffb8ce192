-- What a domain keeps of single numbers beyond the laws of every domain (this project's rules).
use Rattle.std.specs.Prelude.{◌≡◌, ℤ, true, IfSome}
use Rattle.ep_int.specs.declared.types.Cmp.{Cmp}
use Rattle.ep_int.specs.Arith.{compares}
use Rattle.ep_domain.specs.Domain.{Ops, IsSingle}

-- What two values that are the same single number have in common is single too; and of two single numbers that compare
-- so a filter leaves each as it is.
pub record KeepsSingles {N : Type 0} (D : Ops N) : Type 0 where
  pub meet : (a b : N) (v : ℤ) → IsSingle D a v → IsSingle D b v → IfSome (D.meet a b) (λ c. IsSingle D c v)
  pub filter : (c : Cmp) (a b : N) (x y : ℤ) → compares c x y ≡ true → IsSingle D a x → IsSingle D b y
      → IfSome (D.filter c a b) (λ r. IsSingle D r.0 x × IsSingle D r.1 y)
