-- A cell that is at hand is of the state.
use Rattle.std.proofs.Common.{◌≡◌, ℕ, zero, suc, ◌<◌, List, [], ◌∷◌, map, length, get_or, Option, Some, None, sym}
use Rattle.std.proofs.Common.{subst, arith}
use Rattle.std.specs.Prelude.{IfSome}
use Rattle.std.specs.Option.{MatchOption}
use Rattle.ep_cells.specs.declared.cell.Cell.{Cell}
use Rattle.ep_cells.specs.Cells.{IsIn, first, later}
use Rattle.ep_eval_loads.specs.Near.{AreOf}

module _ {N R : Type 0} (now : R → Cell N) where
  in_map : (rs : List R) (i : ℕ) (d : R) → i < length rs → IsIn (now (get_or rs i d)) (map now rs)
  in_map [] i d h = absurd (omega (arith, h))
  in_map (q ∷ rs) zero d h = first (map now rs)
  in_map (q ∷ rs) (suc i) d h = later (now q) (map now rs) (in_map rs i d (omega (arith, h)))

  pub at_hand : {B : Type 0} (shown : B → R) (rs : List R) (i : ℕ) (cs : List (Cell N)) (o : Option B) (A : Type 0)
      (P : B → Type 0) → IfSome o (λ x. shown x ≡ get_or rs i (shown x))
      → MatchOption o A (λ x. (i < length rs) × P x) → AreOf (map now rs) cs → IfSome o (λ x. IsIn (now (shown x)) cs)
  at_hand shown rs i cs None A P e b h = tt
  at_hand shown rs i cs (Some x) A P e b h =
      h (now (shown x)) (subst (λ r. IsIn (now r) (map now rs)) (sym e) (in_map rs i (shown x) b.0))
