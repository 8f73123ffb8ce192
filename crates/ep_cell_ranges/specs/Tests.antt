-- Tests of what a list of cells has to be (this project's rules).
use Rattle.std.specs.Prelude.{ℕ, ◌+◌, ◌^◌, Bool, true, false, ◌&&◌, ◌||◌, not, nat_eq, nat_lt, nat_le, List, [], ◌∷◌}
use Rattle.std.specs.Prelude.{length, Option, Some, None, is_some}
use Rattle.std.specs.Option.{option_map_or}
use Rattle.std.specs.List.{list_all, list_any}
use Rattle.ep_int.specs.declared.types.Model.{Model}
use Rattle.ep_int.specs.declared.types.Model.TheVariants.{Ilp32, Lp64}
use Rattle.ep_int.specs.declared.types.Scalar.{Scalar}
use Rattle.ep_int.specs.declared.types.Scalar.TheVariants.{Int, Pointer}
use Rattle.ep_int.specs.Types.{bits_of, size_of}
use Rattle.ep_bitslice.specs.declared.cell.CellName.{CellName}
use Rattle.ep_bitslice.specs.declared.segment.Segment.{Segment}
use Rattle.ep_bitslice.specs.declared.segment.Segment.TheVariants.{Bits, Fixed}
use Rattle.ep_bitslice.specs.Segments.{width, joined, most_bits, most_segments}
use Rattle.ep_pointers.specs.Value.{Target}
use Rattle.ep_cells.specs.declared.cell.Cell.{Cell}
use Rattle.ep_cells.specs.declared.cell.Value.{Value}
use Rattle.ep_cells.specs.declared.cell.Value.TheVariants.{Num, Ptr}
use Rattle.ep_cells.specs.Cells.{place_of, meets, comes_before, is_same_side, is_same_scalar, is_same_cell}

-- ---- one cell

-- a value of the sort of the type
abbrev pub is_of_sort : {N : Type 0} → Scalar → Option (Value N) → Bool
is_of_sort w None = true
is_of_sort (Int t) (Some (Num n)) = true
is_of_sort (Int t) (Some (Ptr p)) = false
is_of_sort Pointer (Some (Num n)) = false
is_of_sort Pointer (Some (Ptr p)) = true

-- all targets are of later blocks
abbrev pub are_above : {N : Type 0} → ℕ → List (Target N) → Bool
are_above b [] = true
are_above b (t ∷ ts) = nat_lt b t.0 && are_above b ts

abbrev pub is_rising : {N : Type 0} → List (Target N) → Bool
is_rising [] = true
is_rising (t ∷ ts) = are_above t.0 ts && is_rising ts

abbrev pub has_rising_blocks : {N : Type 0} → Option (Value N) → Bool
has_rising_blocks None = true
has_rising_blocks (Some (Num n)) = true
has_rising_blocks (Some (Ptr p)) = is_rising p.targets

-- what a cell has to be, but for its form
abbrev pub is_cell : {N : Type 0} → Model → Cell N → Bool
is_cell d c =
    (is_of_sort c.what c.value && has_rising_blocks c.value)
    && ((is_some c.value || c.maybe) && nat_le (c.offset + size_of d c.what) (2 ^ 32))

-- ---- its form

-- an integer type of so many bits
abbrev pub has_width : Scalar → ℕ → Bool
has_width (Int t) w = nat_eq (bits_of t) w
has_width Pointer w = false

-- some bits of a cell, or bits of a constant that has no more
abbrev pub is_segment : Segment → Bool
is_segment (Bits c from to) = nat_lt from to && nat_le to most_bits
is_segment (Fixed v w) = nat_lt 0 w && (nat_le w most_bits && nat_lt v (2 ^ w))

-- it can't be joined to the segment that follows
abbrev pub is_apart : Segment → List Segment → Bool
is_apart s [] = true
is_apart s (t ∷ ss) = not (is_some (joined s t))

abbrev pub are_segments : List Segment → Bool
are_segments [] = true
are_segments (s ∷ ss) = is_segment s && (is_apart s ss && are_segments ss)

-- at most eight segments of 64 bits in all
abbrev pub is_form : List Segment → Bool
is_form ss = are_segments ss && (nat_le (length ss) most_segments && nat_le (width ss) most_bits)

-- the integer cell of a name, surely defined
abbrev pub is_sure_cell : {N : Type 0} → CellName → Cell N → Bool
is_sure_cell n c =
    (is_same_side c.side n.side && nat_eq c.block n.block)
    && ((nat_eq c.offset n.offset && is_same_scalar c.what (Int n.t)) && not c.maybe)

-- a segment's cell is there
abbrev pub is_mention_there : {N : Type 0} → List (Cell N) → Segment → Bool
is_mention_there cs (Bits n from to) = list_any (is_sure_cell n) cs
is_mention_there cs (Fixed v w) = true

-- the bits of a sure cell, of its width
abbrev pub is_form_of : {N : Type 0} → List (Cell N) → Cell N → List Segment → Bool
is_form_of cs c ss =
    (not c.maybe && has_width c.what (width ss)) && (is_form ss && list_all (is_mention_there cs) ss)

abbrev pub has_form : {N : Type 0} → List (Cell N) → Cell N → Bool
has_form cs c = option_map_or (is_form_of cs c) c.form true

-- ---- all cells

-- in order, and without a common byte
abbrev pub are_apart : {N : Type 0} → Model → Cell N → Cell N → Bool
are_apart d x y = comes_before x y && not (meets (place_of d x) (place_of d y))

abbrev pub all_apart : {N : Type 0} → Model → List (Cell N) → Bool
all_apart d [] = true
all_apart d (c ∷ cs) = list_all (are_apart d c) cs && all_apart d cs

abbrev pub are_cells : {N : Type 0} → Model → List (Cell N) → Bool
are_cells d cs = list_all (is_cell d) cs && (all_apart d cs && list_all (has_form cs) cs)

-- both have cells of the same sides, places and types
abbrev pub are_alike : {N : Type 0} → List (Cell N) → List (Cell N) → Bool
are_alike [] [] = true
are_alike [] (y ∷ ys) = false
are_alike (x ∷ xs) [] = false
are_alike (x ∷ xs) (y ∷ ys) = is_same_cell x y && are_alike xs ys

-- ---- data models

abbrev pub is_model : Model → Model → Bool
is_model Ilp32 Ilp32 = true
is_model Ilp32 Lp64 = false
is_model Lp64 Ilp32 = false
is_model Lp64 Lp64 = true
