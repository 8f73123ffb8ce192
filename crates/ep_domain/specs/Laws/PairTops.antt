-- Narrowing keeps the ranges of types and single numbers.
use Rattle.std.specs.Prelude.{◌≡◌, ℤ, pos, Option, Some, IsSomeAnd}
use Rattle.ep_int.proofs.Arithmetic.{zero_in_range}
use Rattle.std.proofs.Common.{sym, subst}
use Rattle.ep_int.specs.declared.types.IntType.{IntType}
use Rattle.ep_int.specs.Arith.{IsOfSomeType}
use Rattle.ep_range_laws.specs.Ranges.{nearest_number}
use Rattle.ep_domain.specs.Domain.{Lawful}
use Rattle.ep_domain.specs.declared.num.Num.{Ghosts}
use Rattle.ep_domain.specs.declared.pair.Pair.{Pair}
use Rattle.ep_domain.specs.Pairs.{narrowed, singles, single_of}
use Rattle.ep_domain.specs.Laws.Shared.{nearest_of_some_type, nearest_same}
use Rattle.ep_range_laws.proofs.Options.{unwrapped}
use Rattle.ep_domain.specs.Laws.Narrowed.{HoldsPair, BothSingle, narrowed_holds, singles_narrowed}

module _ {A B : Type 0} (f : Ghosts A) (g : Ghosts B) (law : Lawful f.ops) (too : Lawful g.ops) where
  pub top_is_there : (t : IntType) →
      IsSomeAnd (narrowed {f = f} {g = g} (f.ops.top t) (g.ops.top t)) (HoldsPair f g law too (pos 0))
  top_is_there t = narrowed_holds f g law too _ _ (pos 0) (law.top_holds t (pos 0) (zero_in_range t))
      (too.top_holds t (pos 0) (zero_in_range t))

  pub single_is_there : (v : ℤ) → IsOfSomeType v →
      IsSomeAnd (narrowed {f = f} {g = g} (f.ops.single v) (g.ops.single v)) (BothSingle f g law too v)
  single_is_there v h = singles_narrowed f g law too _ _ v (law.single_range v h) (too.single_range v h)

  -- the code's value is the definition's
  pub single_value : (v : ℤ) → IsOfSomeType v → (n : Option (Pair A B f g)) (x : Pair A B f g) → n
      ≡ narrowed (f.ops.single v) (g.ops.single v) → n ≡ Some x → x ≡ single_of {f = f} {g = g} v
  single_value v h n x e d =
      unwrapped (narrowed (f.ops.single (nearest_number v)) (g.ops.single (nearest_number v))) n
      (singles (nearest_number v) (nearest_of_some_type v)) x
      (subst (λ w. n ≡ narrowed (f.ops.single w) (g.ops.single w)) (sym (nearest_same v h)) e) d
