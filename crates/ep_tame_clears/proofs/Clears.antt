-- Clears: 0 or null at each leaf, and every other byte undefined.
use Rattle.std.proofs.Common.{◌≡◌, zero, suc, ◌+◌, ◌<◌, ◌≤◌, pos, Bool, true, false, List, Option, Some, None, ℕ}
use Rattle.std.proofs.Common.{refl, sym, ap, ◌∙◌, arith}
use Rattle.ep_int.proofs.Arithmetic.{zero_in_range}
use Rattle.ep_int.specs.declared.types.IntType.TheVariants.{U8}
use Rattle.ep_int.specs.declared.types.Order.{Order}
use Rattle.ep_int.specs.declared.types.Scalar.{Scalar}
use Rattle.ep_int.specs.declared.types.Scalar.TheVariants.{Int as Number, Pointer}
use Rattle.ep_int.specs.Memory.{int, has}
use Rattle.ep_layout.specs.Table.{IsBuilt, size, leaves}
use Rattle.ep_domain.specs.Domain.{Ops, Lawful}
use Rattle.ep_cells.specs.Kill.{leaf_at, is_in_leaf}
use Rattle.ep_cells.specs.States.{Known}
use Rattle.ep_core.specs.Program.{Program}
use Rattle.ep_core.specs.Runs.{Side, left}
use Rattle.ep_core.specs.WellFormed.{blocks_fit}
use Rattle.ep_equalities.specs.declared.pair.Mode.TheVariants.{Both}
use Rattle.ep_evaluation.proofs.Conversions.{constant_sound}
use Rattle.ep_evaluation.specs.Laws.{SideFits}
use Rattle.ep_kinds.specs.Tame.{are_tame_types}
use Rattle.ep_transfers.specs.Places.{Places, moved_places}
use Rattle.ep_transfers.specs.Transfers.{sizes, undefined_item, zero_item, cleared_here, cleared_from, cleared_bytes}
use Rattle.ep_transfers.specs.Writes.{write_now}
use Rattle.ep_tame_places.specs.Laws.{PlaceLaws}
use Rattle.ep_tame_accesses.specs.Laws.{HasObject, EachSpot}
use Rattle.ep_tame_cells.specs.Shape.{or_outside}
use Rattle.ep_tame_states.specs.States.{IsGood}
use Rattle.ep_tame_writes.specs.Stands.{CanStay}
use Rattle.ep_tame_clears.proofs.Objects.{StandAt, offset_good}

module _ {N : Type 0} (D : Ops N) (law : Lawful D) (p : Program) (built : IsBuilt p.types)
    (tame : are_tame_types p.types ≡ true) (fit : blocks_fit p.types p.blocks ≡ true) (places : PlaceLaws D p)
    (ord : Side → Order) (h : Known N) (live res : List ℕ) (ty n : ℕ) (sz : size p.types ty ≡ Some n) (pl : Places)
    (to_left : EachSpot (HasObject p live ty) pl.left) (to_right : EachSpot (HasObject p live ty) pl.right)
    (same_to : Bool) (equal : same_to ≡ true) where
  abbrev Good : Known N → Type 0
  Good k = IsGood D p ord h live res k

  -- ---- what is written

  zero_left : (k : Known N) → Good k → (w : Scalar) → CanStay D p k w (zero_item D w).pair.left
  zero_left k g (Number t) =
      let f : SideFits D p ord k (Number t) (zero_item D (Number t)).pair.left =
      (constant_sound D law p ord t (pos 0) (zero_in_range t) (λ s m. has (int (pos 0))) (λ s m. refl)).fits k g.state
      Both left in
      record { of_cells = record { sort = tt; rising = tt; inside = tt }; form = f.form }
  zero_left k g Pointer = record { of_cells = record { sort = tt; rising = tt; inside = tt }; form = tt }

  zero_right : (k : Known N) → Good k → (w : Scalar) → CanStay D p k w (zero_item D w).pair.right
  zero_right k g (Number t) = zero_left k g (Number t)
  zero_right k g Pointer = zero_left k g Pointer

  zero_same : (w : Scalar) → (zero_item D w).same ≡ true
  zero_same (Number t) = refl
  zero_same Pointer = refl

  zero_stands : (w : Scalar) (x : ℕ) → StandAt D law p built tame fit places ord h live res ty n sz pl to_left to_right x (zero_item D w)
  zero_stands (Number t) x q o = (λ b there pt u at target. tt, λ b there pt u at target. tt)
  zero_stands Pointer x q o = (λ b there pt u at target. tt, λ b there pt u at target. tt)

  zero_good : (k : Known N) → Good k → (x : ℕ) → x < n → (w : Scalar) → leaf_at (leaves p.types ty) x ≡ Some w
      → Good (write_now D Both same_to w (moved_places x pl) (zero_item D w) k)
  zero_good k g x l w at =
      offset_good D law p built tame fit places ord h live res ty n sz pl to_left to_right same_to equal k g x l w
      (ap (λ a. or_outside a (is_in_leaf p.types.model (leaves p.types ty) x)) at) (zero_item D w) (zero_left k g w)
      (zero_right k g w) (zero_same w) (zero_stands w x)

  undefined_good : (k : Known N) → Good k → (x : ℕ) → x < n → leaf_at (leaves p.types ty) x ≡ None
      → is_in_leaf k.model (leaves p.types ty) x ≡ false
      → Good (write_now D Both same_to (Number U8) (moved_places x pl) (undefined_item D) k)
  undefined_good k g x l at inside =
      offset_good D law p built tame fit places ord h live res ty n sz pl to_left to_right same_to equal k g x l
      (Number U8)
      (ap (λ a. or_outside a (is_in_leaf p.types.model (leaves p.types ty) x)) at
      ∙ ap (or_outside None) (ap (λ d. is_in_leaf d (leaves p.types ty) x) (sym g.state.model) ∙ inside))
      (undefined_item D) nothing nothing refl (λ q o. (λ b there pt u a target. tt, λ b there pt u a target. tt))
    where
      nothing : CanStay D p k (Number U8) (undefined_item D).pair.left
      nothing = record { of_cells = record { sort = tt; rising = tt; inside = tt }; form = tt }

  -- ---- offset by offset

  here_good : (k : Known N) → Good k → (x : ℕ) → x < n → (a : Option Scalar) (b : Bool)
      → leaf_at (leaves p.types ty) x ≡ a → is_in_leaf k.model (leaves p.types ty) x ≡ b
      → Good (cleared_here D (sizes D p) Both n (leaves p.types ty) same_to pl x a b k)
  here_good k g x l (Some w) b at inside = zero_good k g x l w at
  here_good k g x l None true at inside = g
  here_good k g x l None false at inside = undefined_good k g x l at inside

  from_good : (x count : ℕ) → x + count ≤ n → (k : Known N) → Good k
      → Good (cleared_from D (sizes D p) Both n (leaves p.types ty) same_to pl x count k)
  from_good x zero l k g = g
  from_good x (suc c) l k g =
      from_good (x + 1) c (omega (arith, l))
      (cleared_here D (sizes D p) Both n (leaves p.types ty) same_to pl x (leaf_at (leaves p.types ty) x)
      (is_in_leaf k.model (leaves p.types ty) x) k)
      (here_good k g x (omega (arith, l)) (leaf_at (leaves p.types ty) x) (is_in_leaf k.model (leaves p.types ty) x)
      refl refl)

  pub cleared_good : (m : ℕ) → m ≡ n → 0 < m → (k : Known N) → Good k
      → Good (cleared_bytes D (sizes D p) Both n (leaves p.types ty) same_to pl m k)
  cleared_good zero e some k g = absurd (omega (arith, some))
  cleared_good (suc m) e some k g = from_good 0 (suc m) (omega (arith, e)) k g
