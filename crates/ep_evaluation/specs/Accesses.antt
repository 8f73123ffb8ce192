-- Accesses through what is known of an address, on one side: the places that they may have, what may go wrong, and what
-- is read there (this project's rules, after Miné 2006).
use Rattle.std.specs.Prelude.{ℕ, zero, suc, ◌+◌, ◌/◌, ◌-◌, ℤ, pos, ◌+ℤ◌, ◌-ℤ◌, Bool, true, false, ◌&&◌, ◌||◌, not}
use Rattle.std.specs.Prelude.{nat_eq, nat_le, int_le, int_lt, unsigned_abs, if◌then◌else◌, List, [], ◌∷◌, ◌++◌, map}
use Rattle.std.specs.Prelude.{slice_get, Option, Some, None, option_and_then}
use Rattle.std.specs.Option.{option_map_or}
use Rattle.std.specs.List.{list_any, list_all, filter}
use Rattle.ep_int.specs.declared.types.Scalar.{Scalar}
use Rattle.ep_int.specs.Types.{residue}
use Rattle.ep_bitslice.specs.declared.cell.Side.{Side as CellSide}
use Rattle.ep_bitslice.specs.declared.segment.Segment.{Segment}
use Rattle.ep_domain.specs.Domain.{Ops}
use Rattle.ep_pointers.specs.Value.{Target, Pointers}
use Rattle.ep_pointers.specs.declared.sum.Move.{Move}
use Rattle.ep_pointers.specs.Sum.{move, moved, moved_offset, exact_range, is_out, shown_of, hull, put, of_targets}
use Rattle.ep_cells.specs.declared.cell.Value.{Value}
use Rattle.ep_cells.specs.Both.{value_of_both}
use Rattle.ep_cells.specs.Look.{cell_at}
use Rattle.ep_cells.specs.States.{Known}
use Rattle.ep_reads.specs.declared.read.ReadValue.{ReadValue}
use Rattle.ep_reads.specs.Read.{read}
use Rattle.ep_core.specs.Exec.{greatest_offset}
use Rattle.ep_cell_ranges.specs.Spots.{Spot}
use Rattle.ep_cell_ranges.specs.Shared.{is_shared_cell}
use Rattle.ep_evaluation.specs.Given.{Shown, shows_if}

-- ---- where an access of n bytes may be (an aligned one at multiples of n alone)

-- multiples of a step, so many, from this one on
abbrev pub multiples : (step from count : ℕ) → List ℕ
multiples a q zero = []
multiples a q (suc n) = q ∷ multiples a (q + a) n

-- the offsets of a block at which an access of n bytes stays in it
abbrev pub offsets_in : (size n step : ℕ) → List ℕ
offsets_in size n step = if nat_le n size then multiples step 0 ((size - n) / step + 1) else []

abbrev pub held_spots : {N : Type 0} → Ops N → (n step : ℕ) → Target N → Option ℕ → List Spot
held_spots D n step t None = []
held_spots D n step t (Some size) =
    map (λ q. (t.0, q)) (filter (λ q. D.holds t.1 (pos q)) (offsets_in size n step))

-- Those of all targets, in rising order: there the access doesn't fault. Null has none.
abbrev pub spots : {N : Type 0} → Ops N → (sizes : List ℕ) → (n step : ℕ) → List (Target N) → List Spot
spots D sizes n step [] = []
spots D sizes n step (t ∷ ts) = held_spots D n step t (slice_get sizes t.0) ++ spots D sizes n step ts

-- ---- what may go wrong

-- the offsets may leave their block, which what is no block always does
abbrev pub leaves_block : Option ℕ → (n : ℕ) → ℤ × ℤ → Bool
leaves_block None n r = true
leaves_block (Some size) n r = int_lt r.0 (pos 0) || int_lt (pos size) (r.1 +ℤ pos n)

abbrev pub may_leave : {N : Type 0} → Ops N → (sizes : List ℕ) → (n : ℕ) → List (Target N) → Bool
may_leave {N = N} D sizes n ts = list_any (λ (t : Target N). leaves_block (slice_get sizes t.0) n (D.range t.1)) ts

-- the least range of all offsets
abbrev pub offsets_range : {N : Type 0} → Ops N → Target N → List (Target N) → ℤ × ℤ
offsets_range D t [] = D.range t.1
offsets_range D t (u ∷ us) = hull (D.range t.1) (offsets_range D u us)

-- shown are the offsets of all targets
abbrev pub bounds_of : {N : Type 0} → Ops N → (sizes : List ℕ) → (n : ℕ) → List (Target N) → Shown
bounds_of D sizes n [] = None
bounds_of D sizes n (t ∷ ts) = shows_if (may_leave D sizes n (t ∷ ts)) (offsets_range D t ts)

-- among so many numbers from z on is one that is held and is no multiple of n, whatever the block's size is
abbrev pub is_some_odd : {N : Type 0} → Ops N → (n : ℕ) → N → ℤ → (count : ℕ) → Bool
is_some_odd D n a z zero = false
is_some_odd D n a z (suc more) =
    (D.holds a z && not (nat_eq (residue n z) 0)) || is_some_odd D n a (z +ℤ pos 1) more

abbrev pub holds_odd : {N : Type 0} → Ops N → (n : ℕ) → N → Bool
holds_odd D n a = is_some_odd D n a (D.range a).0 (unsigned_abs ((D.range a).1 -ℤ (D.range a).0) + 1)

abbrev pub may_be_odd : {N : Type 0} → Ops N → (n : ℕ) → List (Target N) → Bool
may_be_odd {N = N} D n ts = list_any (λ (t : Target N). holds_odd D n t.1) ts

-- ---- reads

abbrev pub reads_of : {N : Type 0} → Ops N → Known N → CellSide → Scalar → List Spot → List (ReadValue N)
reads_of D k s w [] = []
reads_of D k s w (q ∷ qs) = read D k s q.0 q.1 w ∷ reads_of D k s w qs

-- their join, one after the other
abbrev pub joined_from : {N : Type 0} → Ops N → Option (Value N) → List (ReadValue N) → Option (Value N)
joined_from D v [] = v
joined_from D v (r ∷ rs) = joined_from D (value_of_both D.join v r.value) rs

abbrev pub joined_reads : {N : Type 0} → Ops N → List (ReadValue N) → Option (Value N)
joined_reads D rs = joined_from D None rs

-- the form of a single read
abbrev pub form_of_reads : {N : Type 0} → List (ReadValue N) → Option (List Segment)
form_of_reads [] = None
form_of_reads (r ∷ []) = r.form
form_of_reads (r ∷ q ∷ rs) = None

-- what is read may be undefined
abbrev pub lacks_value : {N : Type 0} → ReadValue N → Bool
lacks_value r = r.maybe || (option_map_or (λ v. false) r.value true && not r.mixed)

abbrev pub is_unset : {N : Type 0} → List (ReadValue N) → Bool
is_unset {N = N} rs = list_any (λ (r : ReadValue N). lacks_value r) rs

abbrev pub is_mixed : {N : Type 0} → List (ReadValue N) → Bool
is_mixed {N = N} rs = list_any (λ (r : ReadValue N). r.mixed) rs

abbrev pub are_shared : {N : Type 0} → Known N → CellSide → Scalar → List Spot → Bool
are_shared {N = N} k s w qs =
    list_all (λ (q : Spot). is_shared_cell k w q.1 (cell_at k.model s q.0 q.1 k.cells)) qs

-- ---- an address that is moved by so many units (C11 6.5.6p8)

-- the results inside of their blocks
abbrev pub moved_by : {N : Type 0} → Ops N → (sizes : List ℕ) → (unit : ℕ) → (backwards : Bool) → Option (Pointers N)
    → Option N → Option (Pointers N)
moved_by D sizes unit back None n = None
moved_by D sizes unit back (Some p) None = None
moved_by D sizes unit back (Some p) (Some n) = moved D (move n unit back) sizes p

-- some result may be outside
abbrev pub move_leaves : {N : Type 0} → Ops N → (sizes : List ℕ) → (unit : ℕ) → (backwards : Bool)
    → Option (Pointers N) → Option N → Shown
move_leaves D sizes unit back None n = None
move_leaves D sizes unit back (Some p) None = None
move_leaves D sizes unit back (Some p) (Some n) =
    shows_if (is_out D (move n unit back) sizes p) (shown_of D (move n unit back) p.targets)

-- the address may be null, and so many units are added
abbrev pub moves_null : {N : Type 0} → Option (Pointers N) → Option N → Bool
moves_null None n = false
moves_null (Some p) None = false
moves_null (Some p) (Some n) = p.null

-- ---- an element of an array in place: its index is below the bound, whatever its block's size is

abbrev pub index_range : (bound : ℕ) → ℤ × ℤ
index_range bound = (pos 0, pos bound -ℤ pos 1)

-- the numbers of an index that are below the bound
abbrev pub index_in : {N : Type 0} → Ops N → (bound : ℕ) → N → Option N
index_in D bound n = D.cut n (index_range bound).0 (index_range bound).1

-- An offset of a pointer has 32 bits: whatever its block's size is, it is cut to them.
abbrev pub element_targets : {N : Type 0} → Ops N → Move N → List (Target N) → List (Target N)
element_targets D m [] = []
element_targets D m (t ∷ ts) = put t.0 (moved_offset D m (Some greatest_offset) t.1) (element_targets D m ts)

abbrev pub element_of : {N : Type 0} → Ops N → (bound unit : ℕ) → Option (Pointers N) → Option N → Option (Pointers N)
element_of D bound unit None n = None
element_of D bound unit (Some p) None = None
element_of D bound unit (Some p) (Some n) =
    option_and_then (λ i. of_targets (element_targets D (move i unit false) p.targets)) (index_in D bound n)

abbrev pub leaves_array : ℤ × ℤ → (bound : ℕ) → Bool
leaves_array r bound = int_lt r.0 (pos 0) || int_le (pos bound) r.1

-- the index leaves its bound
abbrev pub index_leaves : {N : Type 0} → Ops N → (bound : ℕ) → Option (Pointers N) → Option N → Shown
index_leaves D bound None n = None
index_leaves D bound (Some p) None = None
index_leaves D bound (Some p) (Some n) = shows_if (leaves_array (D.range n) bound) (D.range n)

-- some target's greatest offset and that of the index together pass 32 bits
abbrev pub may_pass : {N : Type 0} → Ops N → Move N → List (Target N) → Bool
may_pass {N = N} D m ts =
    list_any (λ (t : Target N). int_lt (pos greatest_offset) (exact_range D m t.1).1) ts

abbrev pub passes_by : {N : Type 0} → Ops N → (unit : ℕ) → List (Target N) → Option N → Shown
passes_by D unit ts None = None
passes_by D unit ts (Some i) = shows_if (may_pass D (move i unit false) ts) (shown_of D (move i unit false) ts)

abbrev pub element_passes : {N : Type 0} → Ops N → (bound unit : ℕ) → Option (Pointers N) → Option N → Shown
element_passes D bound unit None n = None
element_passes D bound unit (Some p) None = None
element_passes D bound unit (Some p) (Some n) = passes_by D unit p.targets (index_in D bound n)
