-- A block is killed on a side, or on both: it is as it is when its scope is entered, and pointers into it are
-- undefined.
use Rattle.std.specs.Prelude.{ℕ, zero, suc, ◌+◌, ◌≤◌, Bool, true, false, ◌&&◌, ◌||◌, nat_eq, nat_lt, nat_le}
use Rattle.std.specs.Prelude.{if◌then◌else◌, List, [], ◌∷◌, ◌++◌, map, Option, Some, None}
use Rattle.std.specs.Option.{option_map}
use Rattle.std.specs.List.{list_any}
use Rattle.ep_int.specs.declared.types.Model.{Model}
use Rattle.ep_int.specs.declared.types.IntType.TheVariants.{U8}
use Rattle.ep_int.specs.declared.types.Scalar.{Scalar}
use Rattle.ep_int.specs.declared.types.Scalar.TheVariants.{Int}
use Rattle.ep_int.specs.Types.{size_of}
use Rattle.ep_layout.specs.declared.types.Leaf.{Leaf}
use Rattle.ep_bitslice.specs.declared.cell.Side.{Side}
use Rattle.ep_pointers.specs.Value.{Pointers, without}
use Rattle.ep_cells.specs.declared.cell.Cell.{Cell}
use Rattle.ep_cells.specs.declared.cell.Value.{Value}
use Rattle.ep_cells.specs.declared.cell.Value.TheVariants.{Num, Ptr}
use Rattle.ep_cells.specs.Cells.{share_memory, side_without, with_side, parts_of, put_all, each_becomes}
use Rattle.ep_cells.specs.Forms.{Fate, reformed}

-- ---- the block's new cells

abbrev pub undefined_cell : {N : Type 0} → Side → (block offset : ℕ) → Scalar → Cell N
undefined_cell s b q w = record { side = s; block = b; offset = q; what = w; value = None; maybe = true; form = None }

-- the leaf that begins at an offset
abbrev pub leaf_at : List Leaf → ℕ → Option Scalar
leaf_at [] q = None
leaf_at (l ∷ leaves) q = if nat_eq l.offset q then Some l.what else leaf_at leaves q

-- whether an offset lies in a leaf
abbrev pub is_in_leaf : Model → List Leaf → ℕ → Bool
is_in_leaf d leaves q = list_any (λ l. nat_le l.offset q && nat_lt q (l.offset + size_of d l.what)) leaves

-- a cell for a leaf that begins here, or for a byte outside of all leaves
abbrev pub cell_here : {N : Type 0} → Side → (block offset : ℕ) → Option Scalar → (inside : Bool) → List (Cell N)
cell_here s b q (Some w) inside = undefined_cell s b q w ∷ []
cell_here s b q None true = []
cell_here s b q None false = undefined_cell s b q (Int U8) ∷ []

-- the cells of so many bytes from an offset on
abbrev pub cells_from : {N : Type 0} → Model → Side → (block : ℕ) → List Leaf → (offset bytes : ℕ) → List (Cell N)
cells_from d s b leaves q zero = []
cells_from d s b leaves q (suc n) =
    cell_here s b q (leaf_at leaves q) (is_in_leaf d leaves q) ++ cells_from d s b leaves (q + 1) n

-- the leaves rise, don't overlap, begin at e or later and end inside the size
abbrev pub AreLeavesIn : Model → (e size : ℕ) → List Leaf → Type 0
AreLeavesIn d e size [] = e ≤ size
AreLeavesIn d e size (l ∷ leaves) = (e ≤ l.offset) × AreLeavesIn d (l.offset + size_of d l.what) size leaves

abbrev pub entry_cells : {N : Type 0} → Model → Side → (block : ℕ) → List Leaf → (size : ℕ) → List (Cell N)
entry_cells d s b leaves size = cells_from d s b leaves 0 size

-- ---- pointers into it

abbrev pub has_target : {N : Type 0} → (block : ℕ) → Option (Value N) → Bool
has_target b None = false
has_target b (Some (Num n)) = false
has_target b (Some (Ptr p)) = list_any (λ t. nat_eq t.0 b) p.targets

-- a pointer value, if it holds something
abbrev pub some_pointer : {N : Type 0} → Pointers N → Option (Value N)
some_pointer p = if p.null || list_any (λ t. true) p.targets then Some (Ptr p) else None

abbrev pub value_without : {N : Type 0} → (block : ℕ) → Option (Value N) → Option (Value N)
value_without b None = None
value_without b (Some (Num n)) = Some (Num n)
value_without b (Some (Ptr p)) = some_pointer (without b p)

-- A pointer cell that loses a target may be undefined. It has no form.
abbrev pub without_target : {N : Type 0} → (block : ℕ) → Cell N → Cell N
without_target b x = record x { value = value_without b x.value; maybe = true; form = None }

-- a part of a pointer cell, where its side is killed
abbrev pub killed_part : {N : Type 0} → Side → (block : ℕ) → Cell N → Cell N
killed_part s b x = if share_memory s x.side then without_target b x else x

-- A Shared cell that loses a target on one side alone is parted.
abbrev pub killed_pointer : {N : Type 0} → Side → (block : ℕ) → Cell N → Option Side → List (Cell N)
killed_pointer s b x None = without_target b x ∷ []
killed_pointer s b x (Some r) = map (killed_part s b) (parts_of x)

-- ---- all cells

abbrev pub left_by_kill : {N : Type 0} → Side → (block : ℕ) → Cell N → List (Cell N)
left_by_kill s b x =
    if nat_eq x.block b then with_side x (side_without s x.side)
    else if has_target b x.value then killed_pointer s b x (side_without s x.side)
    else x ∷ []

abbrev pub fate_by_kill : Side → (block : ℕ) → Fate
fate_by_kill s b n =
    if nat_eq n.block b then option_map (λ r. record n { side = r }) (side_without s n.side) else Some n

abbrev pub killed_cells : {N : Type 0} → Model → Side → (block : ℕ) → List Leaf → (size : ℕ) → List (Cell N)
    → List (Cell N)
killed_cells d s b leaves size cs =
    map (reformed (fate_by_kill s b)) (put_all (entry_cells d s b leaves size) (each_becomes (left_by_kill s b) cs))
