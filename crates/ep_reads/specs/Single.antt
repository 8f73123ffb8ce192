-- Unification as changes of single cells, and what is to be looked at for them (this project's rules).
use Rattle.std.specs.Prelude.{ℕ, Bool, ◌&&◌, ◌||◌, not, nat_eq, if◌then◌else◌, List, [], ◌∷◌, ◌++◌, map, Some, None}
use Rattle.std.specs.Prelude.{is_some}
use Rattle.std.specs.List.{list_any, filter}
use Rattle.ep_int.specs.declared.types.Model.{Model}
use Rattle.ep_int.specs.declared.types.Scalar.{Scalar}
use Rattle.ep_int.specs.declared.types.Scalar.TheVariants.{Int}
use Rattle.ep_int.specs.Types.{size_of}
use Rattle.ep_bitslice.specs.declared.cell.CellName.{CellName}
use Rattle.ep_bitslice.specs.declared.cell.Side.{Side}
use Rattle.ep_bitslice.specs.declared.cell.Side.TheVariants.{Left, Right, Shared}
use Rattle.ep_cells.specs.declared.cell.Cell.{Cell}
use Rattle.ep_cells.specs.declared.place.ByteRange.{ByteRange}
use Rattle.ep_cells.specs.Cells.{each_becomes, is_same_scalar, is_same_side, meets, place_of}
use Rattle.ep_cells.specs.Forms.{Fate, reformed}
use Rattle.ep_cells.specs.Both.{cell_like}
use Rattle.ep_reads.specs.Unify.{is_of_one_side}

-- each cell becomes some, with their forms under new names
abbrev pub changed_cells : {N : Type 0} → (Cell N → List (Cell N)) → Fate → List (Cell N) → List (Cell N)
changed_cells g f cs = map (reformed f) (each_becomes g cs)

-- cells of the first list that have no cell of the same side, place and type in the second
abbrev pub without_like : {N : Type 0} → (ys xs : List (Cell N)) → List (Cell N)
without_like {N = N} ys xs = filter (λ (x : Cell N). not (is_some (cell_like x ys))) xs

-- ---- Shared cells are parted

-- a test of Shared places and their types
abbrev pub Spots : Type 0
Spots = (block offset : ℕ) → Scalar → Bool

-- a Left and a Right cell where the test holds of a Shared one
abbrev pub parts_where : {N : Type 0} → Spots → Cell N → Side → List (Cell N)
parts_where P x Left = x ∷ []
parts_where P x Right = x ∷ []
parts_where P x Shared =
    if P x.block x.offset x.what then record x { side = Left } ∷ record x { side = Right } ∷ [] else x ∷ []

abbrev pub left_where : {N : Type 0} → Spots → Cell N → List (Cell N)
left_where P x = parts_where P x x.side

abbrev pub name_where : Spots → CellName → Side → CellName
name_where P n Left = n
name_where P n Right = n
name_where P n Shared = if P n.block n.offset (Int n.t) then record n { side = Left } else n

abbrev pub fate_where : Spots → Fate
fate_where P n = Some (name_where P n n.side)

abbrev pub parted_where : {N : Type 0} → Spots → List (Cell N) → List (Cell N)
parted_where P cs = changed_cells (left_where P) (fate_where P) cs

-- the place of a Shared cell
abbrev pub shared_at : Model → (block offset : ℕ) → Scalar → ByteRange
shared_at d b q w = record { side = Shared; block = b; offset = q; bytes = size_of d w }

-- one of these cells of one side has a byte of it
abbrev pub facing : {N : Type 0} → Model → List (Cell N) → Spots
facing {N = N} d ys b q w =
    list_any (λ (y : Cell N). is_of_one_side y && meets (shared_at d b q w) (place_of d y)) ys

abbrev pub either : Spots → Spots → Spots
either P Q b q w = P b q w || Q b q w

-- the place and type of this cell
abbrev pub begins_as : {N : Type 0} → Cell N → Spots
begins_as z b q w = nat_eq b z.block && (nat_eq q z.offset && is_same_scalar w z.what)

abbrev pub is_shared_where : {N : Type 0} → Spots → Cell N → Bool
is_shared_where P x = is_same_side x.side Shared && P x.block x.offset x.what

-- the Shared cells of which the test holds
abbrev pub shared_where : {N : Type 0} → Spots → List (Cell N) → List (Cell N)
shared_where P cs = filter (is_shared_where P) cs

-- those that face one of the cells ys, each cell of which is looked at after those before it
abbrev pub faced : {N : Type 0} → Model → (ys xs : List (Cell N)) → List (Cell N)
faced d [] xs = []
faced d (y ∷ ys) xs =
    shared_where (facing d (y ∷ [])) xs ++ faced d ys (parted_where (facing d (y ∷ [])) xs)

-- what is left of them on the left
abbrev pub on_left_alone : {N : Type 0} → Cell N → Cell N
on_left_alone x = record x { side = Left }

-- ---- cells go

-- a test of sides, places and types
abbrev pub Kinds : Type 0
Kinds = Side → (block offset : ℕ) → Scalar → Bool

abbrev pub left_without : {N : Type 0} → Kinds → Cell N → List (Cell N)
left_without P x = if P x.side x.block x.offset x.what then [] else x ∷ []

abbrev pub fate_without : Kinds → Fate
fate_without P n = if P n.side n.block n.offset (Int n.t) then None else Some n

abbrev pub without : {N : Type 0} → Kinds → List (Cell N) → List (Cell N)
without P cs = changed_cells (left_without P) (fate_without P) cs

abbrev pub is_kind_of : {N : Type 0} → Cell N → Kinds
is_kind_of z s b q w = is_same_side s z.side && begins_as z b q w

abbrev pub is_kind_among : {N : Type 0} → List (Cell N) → Kinds
is_kind_among {N = N} zs s b q w = list_any (λ (z : Cell N). is_kind_of z s b q w) zs

abbrev pub either_kind : Kinds → Kinds → Kinds
either_kind P Q s b q w = P s b q w || Q s b q w
