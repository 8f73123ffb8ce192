-- Which rule a copy goes by.
use Rattle.std.proofs.Common.{◌≡◌, ℕ, Bool, true, false, ◌&&◌, ◌||◌, not, cond, List, [], ◌∷◌, Option, Some, None}
use Rattle.std.proofs.Common.{IfOk, is_some, refl, sym, ap, ◌∙◌}
use Rattle.std.proofs.lemmas.Result.{IfOk-weaker}
use Rattle.std.specs.declared.result.Result.{Result}
use Rattle.ep_bitslice.specs.declared.cell.Side.{Side as CellSide}
use Rattle.ep_domain.specs.Domain.{Ops}
use Rattle.ep_cells.specs.States.{Known}
use Rattle.ep_cell_ranges.specs.Moves.{place_at, blurred_each}
use Rattle.ep_cell_ranges.specs.Ranges.{blurred_at}
use Rattle.ep_cell_ranges.specs.Spots.{Spot, is_same_spot}
use Rattle.ep_core.specs.Runs.{left, right}
use Rattle.ep_transfers.specs.Copies as spec
use Rattle.ep_transfers.specs.Places.{Places}
use Rattle.ep_transfer_writes.specs.Waiting.{one_spot}
use Rattle.ep_transfer_copies.specs.Chosen.{both_of}

pub blurred_model : {N : Type 0} → (D : Ops N) (s : CellSide) (n : ℕ) (qs : List Spot) (k : Known N)
    → (blurred_each D s n qs k).model ≡ k.model
blurred_model D s n [] k = refl
blurred_model D s n (q ∷ qs) k = blurred_model D s n qs (blurred_at D (place_at s q n) k)

no_source : (o : Option Spot) → both_of o None ≡ None
no_source None = refl
no_source (Some q) = refl

module _ {N : Type 0} (D : Ops N) (n : ℕ) (k : Known N) where
  apart : (ls : spec.Leaves) (to from : Places)
      → spec.copy_pieces D ls false to from n k ≡ spec.copy_sides D ls to from n k
  apart None to from = refl
  apart (Some l) to from = refl

  module _ (ls : spec.Leaves) where
    abbrev places : (left right : List Spot) → Places
    places qs rs = record { left = qs; right = rs }

    abbrev rest : (to from : Places) → Known N
    rest to from =
        spec.copy_pieces D ls
        (not (spec.is_one_to_one D to from left || spec.is_one_to_one D to from right)
        && spec.write_alike D to.left to.right) to from n k

    abbrev by_move : (to from : Places) → Option (Spot × Spot) → Known N
    by_move to from None = rest to from
    by_move to from (Some m) = spec.moved_both D (is_some ls) m.0 m.1 n k

    by_tests : (q r p o : Spot) (a b : Bool)
        → by_move (places (q ∷ []) (r ∷ [])) (places (p ∷ []) (o ∷ []))
        (both_of (cond a (Some q) None) (cond b (Some p) None))
        ≡ cond (a && b) (spec.moved_both D (is_some ls) q p n k)
        (spec.copy_sides D ls (places (q ∷ []) (r ∷ [])) (places (p ∷ []) (o ∷ [])) n k)
    by_tests q r p o true true = refl
    by_tests q r p o true false = apart ls (places (q ∷ []) (r ∷ [])) (places (p ∷ []) (o ∷ []))
    by_tests q r p o false b = apart ls (places (q ∷ []) (r ∷ [])) (places (p ∷ []) (o ∷ []))

    none_read : (q r : Spot) (ps os : List Spot) (o : Option Spot)
        → by_move (places (q ∷ []) (r ∷ [])) (places ps os) (both_of o None)
        ≡ rest (places (q ∷ []) (r ∷ [])) (places ps os)
    none_read q r ps os o = ap (by_move (places (q ∷ []) (r ∷ [])) (places ps os)) (no_source o)

    moved_by : (qs rs ps os : List Spot)
        → by_move (places qs rs) (places ps os) (both_of (one_spot qs rs) (one_spot ps os))
        ≡ spec.copy_moved D ls (places qs rs) (places ps os) n qs rs ps os k
    moved_by [] rs ps os = refl
    moved_by (q ∷ p ∷ qs) rs ps os = refl
    moved_by (q ∷ []) [] ps os = refl
    moved_by (q ∷ []) (r ∷ s ∷ rs) ps os = refl
    moved_by (q ∷ []) (r ∷ []) [] os = none_read q r [] os (one_spot (q ∷ []) (r ∷ []))
    moved_by (q ∷ []) (r ∷ []) (p ∷ t ∷ ps) os = none_read q r (p ∷ t ∷ ps) os (one_spot (q ∷ []) (r ∷ []))
    moved_by (q ∷ []) (r ∷ []) (p ∷ []) [] = none_read q r (p ∷ []) [] (one_spot (q ∷ []) (r ∷ []))
    moved_by (q ∷ []) (r ∷ []) (p ∷ []) (o ∷ t ∷ os) =
        none_read q r (p ∷ []) (o ∷ t ∷ os) (one_spot (q ∷ []) (r ∷ []))
    moved_by (q ∷ []) (r ∷ []) (p ∷ []) (o ∷ []) = by_tests q r p o (is_same_spot q r) (is_same_spot p o)

    chosen : (to from : Places) (m : Option (Spot × Spot))
        → both_of (one_spot to.left to.right) (one_spot from.left from.right) ≡ m
        → by_move to from m
        ≡ spec.copy_moved D ls to from n to.left to.right from.left from.right k
    chosen to from m e = sym (ap (by_move to from) e) ∙ moved_by to.left to.right from.left from.right

    module _ {E : Type 0} (r : Result (Known N) E) (to from : Places) (o : Option (Spot × Spot)) where
      abbrev IsMoved : Known N → Type 0
      IsMoved s = s ≡ spec.copy_moved D ls to from n to.left to.right from.left from.right k

      pub rest_is : (t : Bool) → o ≡ both_of (one_spot to.left to.right) (one_spot from.left from.right) → o ≡ None
          → t ≡ (not (spec.is_one_to_one D to from left || spec.is_one_to_one D to from right)
          && spec.write_alike D to.left to.right)
          → IfOk r (λ s. s ≡ spec.copy_pieces D ls t to from n k) → IfOk r IsMoved
      rest_is t e f g h =
          IfOk-weaker r (λ s. s ≡ spec.copy_pieces D ls t to from n k) IsMoved
          (λ s i. i ∙ ap (λ u. spec.copy_pieces D ls u to from n k) g ∙ chosen to from None (sym e ∙ f)) h

      pub move_is : (m : Spot × Spot) (a : Bool)
          → o ≡ both_of (one_spot to.left to.right) (one_spot from.left from.right) → o ≡ Some m → a ≡ is_some ls
          → IfOk r (λ s. s ≡ spec.moved_both D a m.0 m.1 n k) → IfOk r IsMoved
      move_is m a e f g h =
          IfOk-weaker r (λ s. s ≡ spec.moved_both D a m.0 m.1 n k) IsMoved
          (λ s i. i ∙ ap (λ u. spec.moved_both D u m.0 m.1 n k) g ∙ chosen to from (Some m) (sym e ∙ f)) h
