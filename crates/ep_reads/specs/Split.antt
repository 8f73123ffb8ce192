-- Cells that lie partly in a place are split into cells of single bytes, on one side (this project's rules, after Miné
-- 2006).
use Rattle.std.specs.Prelude.{ℕ, zero, suc, ◌+◌, Bool, true, ◌&&◌, ◌||◌, nat_eq, if◌then◌else◌, List, [], ◌∷◌, map}
use Rattle.std.specs.Prelude.{Option, Some, None, pos}
use Rattle.std.specs.Option.{option_map, option_map_or}
use Rattle.std.specs.List.{filter}
use Rattle.ep_int.specs.declared.types.IntType.TheVariants.{U8}
use Rattle.ep_int.specs.declared.types.Order.{Order}
use Rattle.ep_int.specs.declared.types.Model.{Model}
use Rattle.ep_int.specs.declared.types.Scalar.{Scalar}
use Rattle.ep_int.specs.declared.types.Scalar.TheVariants.{Int, Pointer}
use Rattle.ep_int.specs.Types.{size_of}
use Rattle.ep_bitslice.specs.declared.cell.Side.{Side}
use Rattle.ep_bitslice.specs.declared.cell.CellName.{CellName}
use Rattle.ep_bitslice.specs.declared.segment.Segment.{Segment}
use Rattle.ep_domain.specs.Domain.{Ops}
use Rattle.ep_pointers.specs.Value.{Pointers}
use Rattle.ep_cells.specs.declared.cell.Cell.{Cell}
use Rattle.ep_cells.specs.declared.cell.Value.{Value}
use Rattle.ep_cells.specs.declared.cell.Value.TheVariants.{Num, Ptr}
use Rattle.ep_cells.specs.declared.place.ByteRange.{ByteRange}
use Rattle.ep_cells.specs.Cells.{each_becomes, is_partly_in, is_same_cell, is_same_scalar, is_same_side, place_of}
use Rattle.ep_cells.specs.Cells.{put_all, side_without, with_side}
use Rattle.ep_cells.specs.Forms.{Fate, reformed}
use Rattle.ep_cells.specs.Both.{cell_like}
use Rattle.ep_cells.specs.States.{Known}
use Rattle.ep_reads.specs.Bytes.{byte_at, byte_form, byte_value, form_or, has_targets, order_on, own_form}

-- ---- the bytes of a cell as cells

-- What is known of the number of a cell, beside its value: its stored form; else, of a Shared cell that stays as the
-- cell of the other side and isn't `maybe`, that cell.
abbrev pub form_beside : {N : Type 0} → Cell N → Option Side → Option (List Segment)
form_beside x None = x.form
form_beside x (Some r) = form_or x.form (if x.maybe then None else own_form (record x { side = r }) x.what)

-- a cell of one byte on a side, at a place of the cell; one without a value is undefined
abbrev pub byte_with : {N : Type 0} → Side → Cell N → (place : ℕ) → (value : Option N) → (maybe : Bool)
    → Option (List Segment) → Cell N
byte_with s x p None maybe f = record {
  side = s;
  block = x.block;
  offset = x.offset + p;
  what = Int U8;
  value = None;
  maybe = true;
  form = None;
}
byte_with s x p (Some n) maybe f = record {
  side = s;
  block = x.block;
  offset = x.offset + p;
  what = Int U8;
  value = Some (Num n);
  maybe = maybe;
  form = f;
}

-- a byte of a pointer is a zero where the pointer is null
abbrev pub byte_of_pointer : {N : Type 0} → Ops N → Pointers N → Option N
byte_of_pointer D v = if v.null then Some (D.single (pos 0)) else None

-- `f` is what is known of the cell's number beside its value
abbrev pub byte_of : {N : Type 0} → Ops N → Order → Side → Option (List Segment) → Cell N → Scalar → Option (Value N)
    → (place : ℕ) → Cell N
byte_of D o s f x (Int t) (Some (Num n)) p =
    byte_with s x p (byte_value D t (byte_at o t p) n) x.maybe (option_map (byte_form (byte_at o t p)) f)
byte_of D o s f x Pointer (Some (Ptr v)) p = byte_with s x p (byte_of_pointer D v) (x.maybe || has_targets v) None
byte_of D o s f x (Int t) (Some (Ptr v)) p = byte_with s x p None true None
byte_of D o s f x Pointer (Some (Num n)) p = byte_with s x p None true None
byte_of D o s f x w None p = byte_with s x p None true None

-- n bytes from a place on
abbrev pub bytes_of_cell : {N : Type 0} → (ℕ → Cell N) → (place n : ℕ) → List (Cell N)
bytes_of_cell f p zero = []
bytes_of_cell f p (suc n) = f p ∷ bytes_of_cell f (p + 1) n

-- the bytes of a cell, on a side
abbrev pub byte_cells : {N : Type 0} → Ops N → Model → Order → Side → Option (List Segment) → Cell N → List (Cell N)
byte_cells D d o s f x = bytes_of_cell (byte_of D o s f x x.what x.value) 0 (size_of d x.what)

-- ---- one cell

abbrev pub is_name_of : {N : Type 0} → CellName → Cell N → Bool
is_name_of n x =
    is_same_side n.side x.side
    && (nat_eq n.block x.block && (nat_eq n.offset x.offset && is_same_scalar (Int n.t) x.what))

-- mentions of a Shared cell become mentions of what stays of it, all others go
abbrev pub fate_by_split : {N : Type 0} → Side → Cell N → Fate
fate_by_split s x n = if is_name_of n x then option_map (λ r. record n { side = r }) (side_without s x.side) else Some n

abbrev pub left_by_split : {N : Type 0} → Side → Cell N → Cell N → List (Cell N)
left_by_split s x y = if is_same_cell y x then with_side y (side_without s y.side) else y ∷ []

-- the cell x is split on a side that it has
abbrev pub split_cell : {N : Type 0} → Ops N → Known N → Side → Cell N → List (Cell N) → List (Cell N)
split_cell D k s x cs =
    map (reformed (fate_by_split s x))
    (put_all (byte_cells D k.model (order_on s k.orders) s (form_beside x (side_without s x.side)) x)
    (each_becomes (left_by_split s x) cs))

-- ---- a place

-- the cells that lie partly in the place, in order
abbrev pub cut_cells : {N : Type 0} → Model → ByteRange → List (Cell N) → List (Cell N)
cut_cells d p cs = filter (λ x. is_partly_in p (place_of d x)) cs

-- the cell like this one, as it is now
abbrev pub split_like : {N : Type 0} → Ops N → Known N → Side → Cell N → List (Cell N) → List (Cell N)
split_like D k s x cs = option_map_or (λ y. split_cell D k s y cs) (cell_like x cs) cs

-- one after the other, each with the form that the ones before it left
abbrev pub split_all : {N : Type 0} → Ops N → Known N → Side → List (Cell N) → List (Cell N) → List (Cell N)
split_all D k s [] cs = cs
split_all D k s (x ∷ xs) cs = split_all D k s xs (split_like D k s x cs)

-- the place is one of the left or of the right side
abbrev pub split : {N : Type 0} → Ops N → Known N → ByteRange → List (Cell N)
split D k p = split_all D k p.side (cut_cells k.model p k.cells) k.cells
