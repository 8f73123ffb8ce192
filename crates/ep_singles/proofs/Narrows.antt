-- Where a cell gets another single value, a state stands for one pair of memories still.
use Rattle.std.proofs.Common.{◌≡◌, ℕ, Bool, true, false, cond, Some, refl, sym, subst}
use Rattle.ep_int.specs.declared.types.Model.{Model}
use Rattle.ep_int.specs.Memory.{Memory, Value as Datum}
use Rattle.ep_bitslice.specs.declared.cell.Side.{Side}
use Rattle.ep_bitslice.specs.declared.cell.Side.TheVariants.{Left, Right}
use Rattle.ep_domain.specs.Domain.{Ops}
use Rattle.ep_cells.specs.declared.cell.Cell.{Cell}
use Rattle.ep_cells.specs.declared.cell.Value.{Value}
use Rattle.ep_cells.specs.Cells.{IsIn, is_same_cell}
use Rattle.ep_cells.specs.Look.{covers}
use Rattle.ep_cells.specs.States.{Known, IsOfSort, HasRisingBlocks}
use Rattle.ep_cells.specs.Meaning.{Memories, Allows, StandsAt}
use Rattle.ep_cells.proofs.Both.{alike_same, only_one}
use Rattle.ep_cells.proofs.Lists.{in_map, map_in}
use Rattle.ep_cell_ranges.specs.Narrow.{set_in, with_value}
use Rattle.ep_cell_ranges.proofs.Narrowing.{of_narrow}
use Rattle.ep_singles.specs.Cells.{IsOneValue, IsOneCell, one_value, IsOne}
use Rattle.ep_singles.proofs.Covers.{IsByteAfter, stays, empty_after}

set_covers : {N : Type 0} (d : Model) (s : Side) (b p : ℕ) (c : Cell N) (v : Value N) (x : Cell N)
    → covers d s b p x ≡ true → covers d s b p (set_in c v x) ≡ true
set_covers d s b p c v x h = by_test (is_same_cell x c)
  where
    by_test : (t : Bool) → covers d s b p (cond t (record x { value = Some v }) x) ≡ true
    by_test true = h
    by_test false = h

module _ {N : Type 0} (D : Ops N) (k : Known N) (m : Memories) (one : IsOne D k m) (c : Cell N) (i : IsIn c k.cells)
    (sure : c.maybe ≡ false) (v : Value N) (single : IsOneValue D (Some v)) where
  set_step : (s : Side) (n : Memory) (b p : ℕ) → IsByteAfter k.model s k.cells (with_value c v k).cells n n b p
  set_step s n b p =
      stays (λ h. h)
      (λ x j h. (set_in c v x, map_in (set_in c v) x k.cells j, set_covers k.model s b p c v x h))

  set_each : (x : Cell N) → IsIn x k.cells → IsOneCell D (set_in c v x)
  set_each x j = by_test (is_same_cell x c) refl
    where
      by_test : (t : Bool) → is_same_cell x c ≡ t → IsOneCell D (cond t (record x { value = Some v }) x)
      by_test true e =
          let z : x ≡ c = only_one k.model x c k.cells one.cells.pairs j i (alike_same x c e) in
          one_value (subst (λ (y : Cell N). y.maybe ≡ false) (sym z) sure) single
      by_test false e = one.each x j

pub narrows_keep_one : {N : Type 0} (D : Ops N) (k : Known N) (m : Memories) → IsOne D k m → (c : Cell N)
    → IsIn c k.cells → c.maybe ≡ false → (v : Value N) → IsOfSort c.what (Some v) → HasRisingBlocks (Some v)
    → IsOneValue D (Some v) → (u : Datum) → StandsAt k.orders k.model m c (Some u)
    → Allows D c.what (Some v) false (Some u) → IsOne D (with_value c v k) m
narrows_keep_one D k m one c i sure v sort rising single u stands a = record {
  cells = (of_narrow D).cells k.model k.cells c v one.cells i sort rising;
  each = λ y j.
      let t = in_map (set_in c v) y k.cells j in
      subst (IsOneCell D) (sym t.is) (set_each D k m one c i sure v single t.origin t.is_in);
  left_outside = empty_after k.model Left k.cells (with_value c v k).cells m.left m.left one.left_outside
      (set_step D k m one c i sure v single Left m.left);
  right_outside = empty_after k.model Right k.cells (with_value c v k).cells m.right m.right one.right_outside
      (set_step D k m one c i sure v single Right m.right);
  holds = (of_narrow D).holds k c v one.cells i sure m u one.holds stands a;
}
