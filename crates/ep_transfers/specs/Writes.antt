-- A pair of values is written at the places of an access: at one place in place of what was there, at several it may
-- stand there (this project's rules, after Miné 2006).
use Rattle.std.specs.Prelude.{ℕ, zero, suc, ◌+◌, Bool, true, false, ◌&&◌, ◌||◌, not, if◌then◌else◌, List, [], ◌∷◌}
use Rattle.std.specs.Prelude.{Option, Some, None, is_some}
use Rattle.ep_int.specs.declared.types.Scalar.{Scalar}
use Rattle.ep_bitslice.specs.declared.cell.Side.{Side as CellSide}
use Rattle.ep_bitslice.specs.declared.cell.Side.TheVariants.{Shared}
use Rattle.ep_domain.specs.Domain.{Ops}
use Rattle.ep_cells.specs.declared.cell.Cell.{Cell}
use Rattle.ep_cells.specs.declared.cell.Value.{Value}
use Rattle.ep_cells.specs.Cells.{place_of}
use Rattle.ep_cells.specs.Forms.{form_after, common_form}
use Rattle.ep_cells.specs.Reshare.{met_value}
use Rattle.ep_cells.specs.Weaken.{weakened, fate_by_weak_write}
use Rattle.ep_cells.specs.States.{Known}
use Rattle.ep_core.specs.Runs.{Side, left, right}
use Rattle.ep_equalities.specs.declared.pair.Mode.{Mode}
use Rattle.ep_equalities.specs.declared.pair.Mode.TheVariants.{Both, Left, Right}
use Rattle.ep_equalities.specs.declared.pair.PairValue.{PairValue}
use Rattle.ep_equalities.specs.declared.pair.SideValue.{SideValue}
use Rattle.ep_equalities.specs.Same.{is_same}
use Rattle.ep_evaluation.specs.Given.{cells_of, on, pair}
use Rattle.ep_cell_ranges.specs.Spots.{Spot, is_same_spot, all_spots}
use Rattle.ep_evaluation.specs.Operators.{Form}
use Rattle.ep_transfers.specs.Places.{Places, moved_places}
use Rattle.ep_cell_ranges.specs.Ranges.{with_cells, Reform, replaced, form_by_replace, blurred_at}
use Rattle.ep_cell_ranges.specs.Moves.{place_at}

-- What is to be written: the values and forms of both sides, whether each may be undefined, and whether both surely are
-- the same, which was decided before the first write.
pub record Item (N : Type 0) : Type 0 where
  pub pair : PairValue N
  pub left_maybe : Bool
  pub right_maybe : Bool
  pub same : Bool

-- what is known, and what is still to be written, with its forms as the writes so far have left them
pub record Underway (N : Type 0) : Type 0 where
  pub known : Known N
  pub item : Item N

abbrev pub underway : {N : Type 0} → Known N → Item N → Underway N
underway k i = record { known = k; item = i }

abbrev pub maybe_on : {N : Type 0} → Item N → Side → Bool
maybe_on i left = i.left_maybe
maybe_on i right = i.right_maybe

abbrev pub formed_side : {N : Type 0} → Reform → SideValue N → SideValue N
formed_side f x = record { value = x.value; form = f x.form }

abbrev pub formed_pair : {N : Type 0} → Reform → PairValue N → PairValue N
formed_pair f v = pair (formed_side f v.left) (formed_side f v.right) v.equal

abbrev pub formed : {N : Type 0} → Reform → Item N → Item N
formed f i = record i { pair = formed_pair f i.pair }

-- a value that isn't there may be undefined
abbrev pub lacks : {N : Type 0} → Bool → Option (Value N) → Bool
lacks maybe v = maybe || not (is_some v)

abbrev pub form_unless : Bool → Form → Form
form_unless true f = None
form_unless false f = f

abbrev pub new_cell : {N : Type 0} → CellSide → Spot → Scalar → Option (Value N) → (maybe : Bool) → Form → Cell N
new_cell s q w v maybe f = record {
  side = s;
  block = q.0;
  offset = q.1;
  what = w;
  value = v;
  maybe = lacks maybe v;
  form = form_unless (lacks maybe v) f;
}

module _ {N : Type 0} (D : Ops N) where
  abbrev pub item_of : PairValue N → Item N
  item_of v = record { pair = v; left_maybe = false; right_maybe = false; same = is_same D v }

  -- ---- one cell, at one place, or at each of several

  abbrev pub strongly : Cell N → Underway N → Underway N
  strongly c u =
      underway (replaced D (place_of u.known.model c) (c ∷ []) u.known)
      (formed (form_by_replace D (place_of u.known.model c) u.known) u.item)

  abbrev pub weakly : Cell N → (shared_stays : Bool) → Underway N → Underway N
  weakly c stays u =
      underway (with_cells u.known (weakened D u.known.model c stays u.known.cells))
      (formed (form_after (fate_by_weak_write (place_of u.known.model c))) u.item)

  abbrev pub weakly_each : (Spot → Cell N) → (shared_stays : Bool) → List Spot → Underway N → Underway N
  weakly_each c stays [] u = u
  weakly_each c stays (q ∷ qs) u = weakly_each c stays qs (weakly (c q) stays u)

  -- ---- a side by itself

  abbrev pub side_cell : Side → Scalar → Item N → Form → Spot → Cell N
  side_cell s w i f q = new_cell (cells_of s) q w (on i.pair s).value (maybe_on i s) f

  abbrev pub write_side : Side → Scalar → List Spot → Underway N → Underway N
  write_side s w [] u = u
  write_side s w (q ∷ []) u = strongly (side_cell s w u.item (on u.item.pair s).form q) u
  write_side s w (q ∷ r ∷ qs) u = weakly_each (side_cell s w u.item None) false (q ∷ r ∷ qs) u

  -- the left first
  abbrev pub write_sides : Scalar → Places → Underway N → Underway N
  write_sides w p u = write_side right w p.right (write_side left w p.left u)

  -- ---- both sides together: the value is that of both

  abbrev pub value_of_same : Option (Value N) → Option (Value N) → Option (Value N)
  value_of_same None v = v
  value_of_same (Some u) None = Some u
  value_of_same (Some u) (Some v) = met_value D (Some u) (Some v)

  abbrev pub shared_cell : Scalar → Item N → Form → Spot → Cell N
  shared_cell w i f q =
      new_cell Shared q w (value_of_same i.pair.left.value i.pair.right.value) (i.left_maybe || i.right_maybe) f

  abbrev pub write_shared : Scalar → Spot → Underway N → Underway N
  write_shared w q u =
      strongly (shared_cell w u.item (common_form u.item.pair.left.form u.item.pair.right.form) q) u

  abbrev pub write_shared_each : Scalar → List Spot → Underway N → Underway N
  write_shared_each w qs u = weakly_each (shared_cell w u.item None) true qs u

  -- of the same values and addresses: at the one place of both, or at each place of either
  abbrev pub write_same : Scalar → (left right : List Spot) → Underway N → Underway N
  write_same w (q ∷ []) (r ∷ []) u =
      if is_same_spot q r then write_shared w q u else write_shared_each w (all_spots (q ∷ []) (r ∷ [])) u
  write_same w qs rs u = write_shared_each w (all_spots qs rs) u

  abbrev pub write_both : (same : Bool) → Scalar → Places → Underway N → Underway N
  write_both true w p u = write_same w p.left p.right u
  write_both false w p u = write_sides w p u

  abbrev pub write : Mode → (same_to : Bool) → Scalar → Places → Underway N → Underway N
  write Both to w p u = write_both (to && u.item.same) w p u
  write Left to w p u = write_side left w p.left u
  write Right to w p u = write_side right w p.right u

  -- one thing, of which nothing waits
  abbrev pub write_now : Mode → (same_to : Bool) → Scalar → Places → Item N → Known N → Known N
  write_now m to w p i k = (write m to w p (underway k i)).known

  -- the same thing at each of so many offsets from this one on, in turn
  abbrev pub write_run : Mode → (same_to : Bool) → Scalar → Places → (from count : ℕ) → Underway N → Underway N
  write_run m to w p from zero u = u
  write_run m to w p from (suc n) u =
      write_run m to w p (from + 1) n (write m to w (moved_places from p) u)

  -- one side's bytes from each of several places on may have been written in some way
  abbrev pub blurred_side : CellSide → (bytes : ℕ) → List Spot → Underway N → Underway N
  blurred_side s n [] u = u
  blurred_side s n (q ∷ qs) u =
      blurred_side s n qs
      (underway (blurred_at D (place_at s q n) u.known)
      (formed (form_after (fate_by_weak_write (place_at s q n))) u.item))
