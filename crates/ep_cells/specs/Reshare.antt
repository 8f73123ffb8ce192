-- A Left and a Right integer cell of one place and type that surely hold the same number become a Shared one.
use Rattle.std.specs.Prelude.{ℕ, ℤ, Bool, true, false, ◌&&◌, ◌||◌, nat_eq, if◌then◌else◌, List, [], ◌∷◌, map, Option}
use Rattle.std.specs.Prelude.{Some, None}
use Rattle.std.specs.Option.{option_map_or}
use Rattle.std.specs.Ordering.{int_eq}
use Rattle.ep_int.specs.declared.types.Scalar.{Scalar}
use Rattle.ep_int.specs.declared.types.Scalar.TheVariants.{Int, Pointer}
use Rattle.ep_bitslice.specs.declared.cell.Side.{Side}
use Rattle.ep_bitslice.specs.declared.cell.Side.TheVariants.{Left, Right, Shared}
use Rattle.ep_bitslice.specs.declared.cell.CellName.{CellName}
use Rattle.ep_domain.specs.Domain.{Ops}
use Rattle.ep_cells.specs.declared.cell.Cell.{Cell}
use Rattle.ep_cells.specs.declared.cell.Value.{Value}
use Rattle.ep_cells.specs.declared.cell.Value.TheVariants.{Num}
use Rattle.ep_cells.specs.Cells.{is_same_side, is_same_scalar, put, each_becomes}
use Rattle.ep_cells.specs.Forms.{Fate, reformed, have_same_form, common_form}

-- whether a range is that of one number
abbrev pub is_single : ℤ × ℤ → Bool
is_single r = int_eq r.0 r.1

-- the same single number
abbrev pub are_one_number : {N : Type 0} → Ops N → Option (Value N) → Option (Value N) → Bool
are_one_number D (Some (Num a)) (Some (Num b)) =
    is_single (D.range a) && (is_single (D.range b) && int_eq (D.range a).0 (D.range b).0)
are_one_number D u v = false

abbrev pub is_integer : Scalar → Bool
is_integer (Int t) = true
is_integer Pointer = false

-- a Left and a Right cell of one place are integers of one type and surely the same number
abbrev pub are_same : {N : Type 0} → Ops N → Cell N → Cell N → Bool
are_same D l r =
    (is_integer l.what && is_same_scalar l.what r.what)
    && (have_same_form l.form r.form || are_one_number D l.value r.value)

-- the meet of two numbers where there is one, else the left value
abbrev pub met_value : {N : Type 0} → Ops N → Option (Value N) → Option (Value N) → Option (Value N)
met_value D (Some (Num a)) (Some (Num b)) = option_map_or (λ c. Some (Num c)) (D.meet a b) (Some (Num a))
met_value D u v = u

abbrev pub reshared_cell : {N : Type 0} → Ops N → Cell N → Cell N → Cell N
reshared_cell D l r = record l {
  side = Shared;
  value = met_value D l.value r.value;
  maybe = l.maybe || r.maybe;
  form = common_form l.form r.form;
}

-- the cells of the place are gone
abbrev pub left_by_reshare : {N : Type 0} → Cell N → Cell N → List (Cell N)
left_by_reshare l x = if nat_eq x.block l.block && nat_eq x.offset l.offset then [] else x ∷ []

-- mentions of both become mentions of it, or go where it may be undefined
abbrev pub fate_by_side : (maybe : Bool) → CellName → Side → Option CellName
fate_by_side maybe n Shared = Some n
fate_by_side true n Left = None
fate_by_side true n Right = None
fate_by_side false n Left = Some (record n { side = Shared })
fate_by_side false n Right = Some (record n { side = Shared })

abbrev pub fate_by_reshare : {N : Type 0} → Cell N → Cell N → Fate
fate_by_reshare l r n =
    if nat_eq n.block l.block && nat_eq n.offset l.offset then fate_by_side (l.maybe || r.maybe) n n.side else Some n

-- ---- all places

-- the cell of a side that begins at an offset
abbrev pub cell_from : {N : Type 0} → Side → (block offset : ℕ) → List (Cell N) → Option (Cell N)
cell_from s b q [] = None
cell_from s b q (c ∷ cs) =
    if is_same_side c.side s && (nat_eq c.block b && nat_eq c.offset q) then Some c else cell_from s b q cs

abbrev pub reshared_pair : {N : Type 0} → Ops N → Option (Cell N) → Option (Cell N) → List (Cell N) → List (Cell N)
reshared_pair D None r cs = cs
reshared_pair D (Some l) None cs = cs
reshared_pair D (Some l) (Some r) cs =
    if are_same D l r
    then map (reformed (fate_by_reshare l r)) (put (reshared_cell D l r) (each_becomes (left_by_reshare l) cs))
    else cs

abbrev pub reshared_at : {N : Type 0} → Ops N → (block offset : ℕ) → List (Cell N) → List (Cell N)
reshared_at D b q cs = reshared_pair D (cell_from Left b q cs) (cell_from Right b q cs) cs

-- each place in turn, with the forms that the places before it left
abbrev pub reshared_each : {N : Type 0} → Ops N → List (ℕ × ℕ) → List (Cell N) → List (Cell N)
reshared_each D [] cs = cs
reshared_each D (p ∷ ps) cs = reshared_each D ps (reshared_at D p.0 p.1 cs)

-- the places of cells, in rising order
abbrev pub places : {N : Type 0} → List (Cell N) → List (ℕ × ℕ)
places [] = []
places (c ∷ cs) = if is_same_side c.side Left then (c.block, c.offset) ∷ places cs else places cs

abbrev pub reshared : {N : Type 0} → Ops N → List (Cell N) → List (Cell N)
reshared D cs = reshared_each D (places cs) cs
