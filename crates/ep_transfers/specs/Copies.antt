-- Bytes are copied from the places of one access to those of another (this project's rules, after Miné 2006).
use Rattle.std.specs.Prelude.{ℕ, zero, suc, ◌+◌, ℤ, pos, ◌-ℤ◌, Bool, true, false, ◌&&◌, ◌||◌, not, nat_eq, nat_le}
use Rattle.std.specs.Prelude.{nat_lt, int_le, if◌then◌else◌, List, [], ◌∷◌, map, Option, Some, None, is_some}
use Rattle.std.specs.Option.{option_map_or}
use Rattle.std.specs.List.{list_any, list_all}
use Rattle.ep_int.specs.declared.types.IntType.TheVariants.{U8}
use Rattle.ep_int.specs.declared.types.Scalar.{Scalar}
use Rattle.ep_int.specs.declared.types.Scalar.TheVariants.{Int}
use Rattle.ep_int.specs.Types.{size_of}
use Rattle.ep_layout.specs.declared.types.Leaf.{Leaf}
use Rattle.ep_alarms.specs.declared.types.AlarmKind.TheVariants.{U9}
use Rattle.ep_bitslice.specs.declared.cell.Side.{Side as CellSide}
use Rattle.ep_bitslice.specs.declared.cell.Side.TheVariants.{Shared}
use Rattle.ep_domain.specs.Domain.{Ops}
use Rattle.ep_pointers.specs.Value.{Target}
use Rattle.ep_cells.specs.declared.cell.Cell.{Cell}
use Rattle.ep_cells.specs.declared.cell.Value.{Value}
use Rattle.ep_cells.specs.declared.cell.Value.TheVariants.{Num, Ptr}
use Rattle.ep_cells.specs.Cells.{is_same_scalar, is_same_side}
use Rattle.ep_cells.specs.Kill.{leaf_at}
use Rattle.ep_cells.specs.Look.{cell_at}
use Rattle.ep_cells.specs.States.{Known}
use Rattle.ep_reads.specs.declared.read.ReadValue.{ReadValue}
use Rattle.ep_reads.specs.Bytes.{form_of_cell, has_targets}
use Rattle.ep_reads.specs.Read.{read, is_exact}
use Rattle.ep_core.specs.Runs.{Side, left, right}
use Rattle.ep_equalities.specs.declared.pair.Mode.{Mode}
use Rattle.ep_equalities.specs.declared.pair.Mode.TheVariants.{Both, Left, Right}
use Rattle.ep_equalities.specs.declared.pair.Fault.{Fault}
use Rattle.ep_equalities.specs.declared.pair.PairValue.{PairValue}
use Rattle.ep_equalities.specs.declared.pair.SideValue.{SideValue}
use Rattle.ep_equalities.specs.Same.{is_same}
use Rattle.ep_evaluation.specs.Given.{cells_of, on, pair, shown_if, faults_on}
use Rattle.ep_evaluation.specs.Accesses.{form_of_reads, joined_reads}
use Rattle.ep_evaluation.specs.Evaluation.{pointer, targets_of}
use Rattle.ep_transfers.specs.Places.{Places, at_side, is_one, moved_spots, on_all}
use Rattle.ep_cell_ranges.specs.Ranges.{replaced}
use Rattle.ep_cell_ranges.specs.Moves.{place_at, moved_to, taken, taken_by_both, blurred_each}
use Rattle.ep_cell_ranges.specs.Spots.{Spot, is_same_spot}
use Rattle.ep_transfers.specs.Writes.{Item, write_now}

-- an assignment of a struct or union has the leaves of its type; another copy has none
abbrev pub Leaves : Type 0
Leaves = Option (List Leaf)

-- An object may be assigned to itself, and then stays as it is: so one place that is also one of several that are read
-- is written as one of several.
abbrev pub loosened : (to from : List Spot) → List Spot
loosened [] ps = []
loosened (q ∷ []) ps = if list_any (is_same_spot q) ps then q ∷ q ∷ [] else q ∷ []
loosened (q ∷ r ∷ qs) ps = q ∷ r ∷ qs

abbrev pub loosened_places : (to from : Places) → Places
loosened_places to from = record { left = loosened to.left from.left; right = loosened to.right from.right }

module _ {N : Type 0} (D : Ops N) where
  -- an assignment of an object to itself changes nothing
  abbrev pub moved_on : CellSide → (aggregate : Bool) → (to from : Spot) → (bytes : ℕ) → List (Cell N) → Known N →
      Known N
  moved_on s agg q p n xs k =
      if agg && is_same_spot q p then k else replaced D (place_at s q n) (map (moved_to p q) xs) k

  abbrev pub moved_alone : Side → (aggregate : Bool) → (to from : Spot) → (bytes : ℕ) → Known N → Known N
  moved_alone s agg q p n k = moved_on (cells_of s) agg q p n (taken D k (place_at (cells_of s) p n)) k

  abbrev pub moved_both : (aggregate : Bool) → (to from : Spot) → (bytes : ℕ) → Known N → Known N
  moved_both agg q p n k = moved_on Shared agg q p n (taken_by_both D k p n) k

  -- ---- an aggregate that isn't moved: its leaves where each source has a cell of a leaf's type there, else its bytes

  -- what a side has at an offset of the aggregate
  pub data Piece : Type 0 where
    none : Piece
    leaf : Scalar → Piece
    byte : Piece

  abbrev pub exact_cell : Scalar → (offset : ℕ) → Option (Cell N) → Option (Cell N)
  exact_cell w q None = None
  exact_cell w q (Some x) = if nat_eq x.offset q && is_same_scalar x.what w then Some x else None

  abbrev pub exact_at : Known N → CellSide → Scalar → Spot → Option (Cell N)
  exact_at k s w q = exact_cell w q.1 (cell_at k.model s q.0 q.1 k.cells)

  abbrev pub are_exact : Known N → CellSide → (offset : ℕ) → Scalar → List Spot → Bool
  are_exact k s o w ps = list_all (λ (p : Spot). is_some (exact_at k s w (p.0, p.1 + o))) ps

  abbrev pub has_leaf : Known N → CellSide → List Spot → Leaf → Bool
  has_leaf k s ps l = are_exact k s l.offset l.what ps

  -- the offset lies in a leaf that goes as a whole
  abbrev pub is_in_whole : Known N → CellSide → List Spot → (offset : ℕ) → List Leaf → Bool
  is_in_whole k s ps o ls =
      list_any (λ (l : Leaf). has_leaf k s ps l && (nat_le l.offset o && nat_lt o (l.offset + size_of k.model
      l.what))) ls

  abbrev pub piece_by : (whole inside : Bool) → Option Scalar → Piece
  piece_by true inside None = none
  piece_by true inside (Some w) = leaf w
  piece_by false true w = none
  piece_by false false w = byte

  abbrev pub piece_at : Known N → CellSide → List Spot → List Leaf → (offset : ℕ) → Piece
  piece_at k s ps ls o =
      piece_by (option_map_or (λ w. are_exact k s o w ps) (leaf_at ls o) false) (is_in_whole k s ps o ls) (leaf_at ls o)

  -- a source as it is read: a cell whole, and a byte as far as it is one
  abbrev pub whole_source : Cell N → ReadValue N
  whole_source x = record { value = x.value; maybe = x.maybe; mixed = false; form = form_of_cell x }

  abbrev pub fragment_source : ReadValue N
  fragment_source = record { value = Some (Num (D.top U8)); maybe = true; mixed = false; form = None }

  abbrev pub may_point : Option (Value N) → Bool
  may_point None = false
  may_point (Some (Num n)) = false
  may_point (Some (Ptr p)) = has_targets p

  abbrev pub byte_source : Known N → CellSide → Spot → Option (Cell N) → ReadValue N
  byte_source k s q None = fragment_source
  byte_source k s q (Some x) = if may_point x.value then fragment_source else read D k s q.0 q.1 (Int U8)

  abbrev pub leaf_sources : Known N → CellSide → Scalar → List Spot → List (ReadValue N)
  leaf_sources k s w [] = []
  leaf_sources k s w (q ∷ qs) =
      option_map_or whole_source (exact_at k s w q) fragment_source ∷ leaf_sources k s w qs

  abbrev pub byte_sources : Known N → CellSide → List Spot → List (ReadValue N)
  byte_sources k s [] = []
  byte_sources k s (q ∷ qs) = byte_source k s q (cell_at k.model s q.0 q.1 k.cells) ∷ byte_sources k s qs

  abbrev pub sources_of : Known N → CellSide → Piece → List Spot → List (ReadValue N)
  sources_of k s none qs = []
  sources_of k s (leaf w) qs = leaf_sources k s w qs
  sources_of k s byte qs = byte_sources k s qs

  -- a Shared cell has it whole
  abbrev pub is_shared_whole : Known N → Scalar → Spot → Option (Cell N) → Bool
  is_shared_whole k w q None = false
  is_shared_whole k w q (Some x) = is_exact k.model w q.1 x && is_same_side x.side Shared

  abbrev pub are_shared_whole : Known N → CellSide → Scalar → List Spot → Bool
  are_shared_whole k s w qs =
      list_all (λ (q : Spot). is_shared_whole k w q (cell_at k.model s q.0 q.1 k.cells)) qs

  abbrev pub scalar_of_piece : Piece → Scalar
  scalar_of_piece none = Int U8
  scalar_of_piece (leaf w) = w
  scalar_of_piece byte = Int U8

  abbrev pub some_maybe : List (ReadValue N) → Bool
  some_maybe rs = list_any (λ (r : ReadValue N). r.maybe) rs

  -- the form of one source, to compare with that of the other side
  abbrev pub joined_sources : List (ReadValue N) → SideValue N
  joined_sources rs = record { value = joined_reads D rs; form = form_of_reads rs }

  abbrev pub without_forms : PairValue N → PairValue N
  without_forms v =
      pair (record { value = v.left.value; form = None }) (record { value = v.right.value; form = None }) false

  abbrev pub piece_item : (joint : Bool) → List (ReadValue N) → List (ReadValue N) → (shared : Bool) → Item N
  piece_item joint ls rs shared = record {
    pair = without_forms (pair (joined_sources ls) (joined_sources rs) false);
    left_maybe = some_maybe ls;
    right_maybe = some_maybe rs;
    same = joint && is_same D (pair (joined_sources ls) (joined_sources rs) shared);
  }

  -- from the places of `from` in the state `k` to those of `to` in the state at hand
  module _ (joint : Bool) (k : Known N) (to from : Places) (leaves : List Leaf) where
    abbrev pub piece_on : Side → (offset : ℕ) → Piece
    piece_on s o = piece_at k (cells_of s) (at_side from s) leaves o

    abbrev pub sources_on : Side → (offset : ℕ) → Piece → List (ReadValue N)
    sources_on s o c = sources_of k (cells_of s) c (moved_spots o (at_side from s))

    abbrev pub shared_on : Side → (offset : ℕ) → Piece → Bool
    shared_on s o c = are_shared_whole k (cells_of s) (scalar_of_piece c) (moved_spots o (at_side from s))

    abbrev pub to_at : (offset : ℕ) → Places
    to_at o = record { left = moved_spots o to.left; right = moved_spots o to.right }

    abbrev pub write_alone : Side → (offset : ℕ) → Piece → Known N → Known N
    write_alone s o none j = j
    write_alone left o c j =
        write_now D Left false (scalar_of_piece c) (to_at o) (piece_item false (sources_on left o c) [] false) j
    write_alone right o c j =
        write_now D Right false (scalar_of_piece c) (to_at o) (piece_item false [] (sources_on right o c) false) j

    abbrev pub write_together : (offset : ℕ) → Piece → Known N → Known N
    write_together o c j =
        write_now D Both joint (scalar_of_piece c) (to_at o)
        (piece_item joint (sources_on left o c) (sources_on right o c) (shared_on left o c && shared_on right o c)) j

    abbrev pub write_apart : (offset : ℕ) → Piece → Piece → Known N → Known N
    write_apart o c d j = write_alone right o d (write_alone left o c j)

    abbrev pub write_pieces : (offset : ℕ) → Piece → Piece → Known N → Known N
    write_pieces o none d j = write_alone right o d j
    write_pieces o (leaf w) (leaf v) j =
        if is_same_scalar w v then write_together o (leaf w) j else write_apart o (leaf w) (leaf v) j
    write_pieces o (leaf w) byte j = write_apart o (leaf w) byte j
    write_pieces o (leaf w) none j = write_alone left o (leaf w) j
    write_pieces o byte byte j = write_together o byte j
    write_pieces o byte (leaf v) j = write_apart o byte (leaf v) j
    write_pieces o byte none j = write_alone left o byte j

    abbrev pub pieces_at : Mode → (offset : ℕ) → Known N → Known N
    pieces_at Both o j = write_pieces o (piece_on left o) (piece_on right o) j
    pieces_at Left o j = write_alone left o (piece_on left o) j
    pieces_at Right o j = write_alone right o (piece_on right o) j

    abbrev pub pieces_from : Mode → (offset count : ℕ) → Known N → Known N
    pieces_from m o zero j = j
    pieces_from m o (suc n) j = pieces_from m (o + 1) n (pieces_at m o j)

  -- ---- which rule a side goes by

  abbrev pub is_one_to_one : Places → Places → Side → Bool
  is_one_to_one to from s = is_one (at_side to s) && is_one (at_side from s)

  abbrev pub move_one : Side → (aggregate : Bool) → (to from : List Spot) → (bytes : ℕ) → Known N → Known N
  move_one s agg (q ∷ qs) (p ∷ ps) n k = moved_alone s agg q p n k
  move_one s agg [] ps n k = k
  move_one s agg (q ∷ qs) [] n k = k

  abbrev pub mode_alone : Side → Mode
  mode_alone left = Left
  mode_alone right = Right

  -- no bytes at all may still lie inside of a pointer, which is then undefined
  abbrev pub copy_many : Side → Leaves → (to from : Places) → (bytes : ℕ) → Known N → Known N
  copy_many s (Some ls) to from zero k = blurred_each D (cells_of s) zero (at_side to s) k
  copy_many s (Some ls) to from (suc n) k =
      pieces_from false k (loosened_places to from) from ls (mode_alone s) 0 (suc n) k
  copy_many s None to from n k = blurred_each D (cells_of s) n (at_side to s) k

  abbrev pub copy_alone : Side → Leaves → (to from : Places) → (bytes : ℕ) → Known N → Known N
  copy_alone s ls to from n k =
      if is_one_to_one to from s then move_one s (is_some ls) (at_side to s) (at_side from s) n k
      else copy_many s ls to from n k

  abbrev pub copy_sides : Leaves → (to from : Places) → (bytes : ℕ) → Known N → Known N
  copy_sides ls to from n k = copy_alone right ls to from n (copy_alone left ls to from n k)

  -- both sides write one place, the same, or both several
  abbrev pub write_alike : (left right : List Spot) → Bool
  write_alike (q ∷ []) (r ∷ []) = is_same_spot q r
  write_alike qs rs = not (is_one qs || is_one rs)

  abbrev pub copy_pieces : Leaves → (together : Bool) → (to from : Places) → (bytes : ℕ) → Known N → Known N
  copy_pieces (Some l) true to from zero k = copy_sides (Some l) to from zero k
  copy_pieces (Some l) true to from (suc n) k =
      pieces_from true k (loosened_places to from) from l Both 0 (suc n) k
  copy_pieces (Some l) false to from n k = copy_sides (Some l) to from n k
  copy_pieces None together to from n k = copy_sides None to from n k

  -- Of the same addresses on both sides, one place is moved to one; or an aggregate goes by its leaves, where neither
  -- side is moved.
  abbrev pub copy_moved : Leaves → (to from : Places) → (bytes : ℕ) → List Spot → List Spot → List Spot → List Spot
      → Known N → Known N
  copy_moved ls to from n (q ∷ []) (r ∷ []) (p ∷ []) (o ∷ []) k =
      if is_same_spot q r && is_same_spot p o then moved_both (is_some ls) q p n k else copy_sides ls to from n k
  copy_moved ls to from n qs rs ps os k =
      copy_pieces ls
      (not (is_one_to_one to from left || is_one_to_one to from right) && write_alike to.left to.right) to from n k

  abbrev pub copy_both : (joint : Bool) → Leaves → (to from : Places) → (bytes : ℕ) → Known N → Known N
  copy_both true ls to from n k = copy_moved ls to from n to.left to.right from.left from.right k
  copy_both false ls to from n k = copy_sides ls to from n k

  abbrev pub copied : Mode → (joint : Bool) → Leaves → (to from : Places) → (bytes : ℕ) → Known N → Known N
  copied Both joint ls to from n k = copy_both joint ls to from n k
  copied Left joint ls to from n k = copy_alone left ls to from n k
  copied Right joint ls to from n k = copy_alone right ls to from n k

  -- ---- overlaps

  abbrev pub larger : ℤ → ℤ → ℤ
  larger a b = if int_le a b then b else a

  abbrev pub smaller : ℤ → ℤ → ℤ
  smaller a b = if int_le a b then a else b

  -- the difference of the offsets lies between these
  abbrev pub may_be_between : (aggregate : Bool) → (low high : ℤ) → Bool
  may_be_between agg lo hi = int_le lo hi && not (agg && (int_le (pos 0) lo && int_le hi (pos 0)))

  abbrev pub ranges_overlap : (aggregate : Bool) → (bytes : ℕ) → ℤ × ℤ → ℤ × ℤ → Bool
  ranges_overlap agg n r s =
      may_be_between agg (larger (r.0 -ℤ s.1) (pos 1 -ℤ pos n)) (smaller (r.1 -ℤ s.0) (pos n -ℤ pos 1))

  abbrev pub target_overlaps : (aggregate : Bool) → (bytes : ℕ) → List (Target N) → Target N → Bool
  target_overlaps agg n us t =
      list_any (λ (u : Target N). nat_eq t.0 u.0 && ranges_overlap agg n (D.range t.1) (D.range u.1)) us

  abbrev pub may_overlap : (sizes : List ℕ) → (aggregate : Bool) → (bytes : ℕ) → SideValue N → SideValue N → Bool
  may_overlap sizes agg n x y =
      list_any (target_overlaps agg n (targets_of D sizes (pointer D y))) (targets_of D sizes (pointer D x))

  abbrev pub overlap_faults : (sizes : List ℕ) → Mode → (aggregate : Bool) → (bytes : ℕ) → (to from : PairValue N) →
      List Fault
  overlap_faults sizes m agg n to from =
      faults_on m U9 (λ s. shown_if (may_overlap sizes agg n (on to s) (on from s)))

  -- some place that is written and some place that is read are apart, or the same place of an aggregate
  abbrev pub are_apart : (aggregate : Bool) → (bytes : ℕ) → Spot → Spot → Bool
  are_apart agg n q p =
      not (nat_eq q.0 p.0) || ((nat_le (q.1 + n) p.1 || nat_le (p.1 + n) q.1) || (agg && nat_eq q.1 p.1))

  abbrev pub some_apart : (aggregate : Bool) → (bytes : ℕ) → (to from : List Spot) → Bool
  some_apart agg n qs ps = list_any (λ (q : Spot). list_any (are_apart agg n q) ps) qs

  abbrev pub can_copy : Mode → (aggregate : Bool) → (bytes : ℕ) → (to from : Places) → Bool
  can_copy m agg n to from = on_all m (λ s. some_apart agg n (at_side to s) (at_side from s))
