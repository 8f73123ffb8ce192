-- What evaluation gives: what is known of the values on the running sides, and what may go wrong.
use Rattle.std.specs.Prelude.{ℤ, pos, Bool, true, false, ◌&&◌, not, List, [], ◌∷◌, Option, Some, None}
use Rattle.ep_alarms.specs.declared.types.AlarmKind.{AlarmKind}
use Rattle.ep_alarms.specs.declared.types.AlarmKind.TheVariants.{U1, U2, U3, U4, U5, U6, U7, U8, U9, U10, E1, E2, E3}
use Rattle.ep_alarms.specs.declared.types.AlarmKind.TheVariants.{E4}
use Rattle.ep_bitslice.specs.declared.cell.Side.{Side as CellSide}
use Rattle.ep_bitslice.specs.declared.cell.Side.TheVariants as cell_side
use Rattle.ep_core.specs.Runs.{Side, left, right}
use Rattle.ep_equalities.specs.declared.pair.Mode.{Mode}
use Rattle.ep_equalities.specs.declared.pair.Mode.TheVariants.{Both, Left, Right}
use Rattle.ep_equalities.specs.declared.pair.Fault.{Fault}
use Rattle.ep_equalities.specs.declared.pair.PairValue.{PairValue}
use Rattle.ep_equalities.specs.declared.pair.SideValue.{SideValue}

-- of an expression, or of an lvalue, whose value is then its address: the pair of values, and the faults in the order
-- in which they may come
pub record Given (N : Type 0) : Type 0 where
  pub pair : PairValue N
  pub faults : List Fault

-- ---- sides and modes

-- the side of cells that a machine reads, beside Shared ones
abbrev pub cells_of : Side → CellSide
cells_of left = cell_side.Left
cells_of right = cell_side.Right

-- one side runs alone
abbrev pub alone : Side → Mode
alone left = Left
alone right = Right

abbrev pub runs : Mode → Side → Bool
runs Both s = true
runs Left left = true
runs Left right = false
runs Right left = false
runs Right right = true

abbrev pub is_both : Mode → Bool
is_both Both = true
is_both Left = false
is_both Right = false

abbrev pub mode_by : (on_left on_right : Bool) → Option Mode
mode_by true true = Some Both
mode_by true false = Some Left
mode_by false true = Some Right
mode_by false false = None

-- the running sides of which this holds
abbrev pub mode_where : Mode → (Side → Bool) → Option Mode
mode_where Both f = mode_by (f left) (f right)
mode_where Left f = mode_by (f left) false
mode_where Right f = mode_by false (f right)

-- ---- values

abbrev pub on : {N : Type 0} → PairValue N → Side → SideValue N
on p left = p.left
on p right = p.right

abbrev pub nothing : {N : Type 0} → SideValue N
nothing = record { value = None; form = None }

abbrev pub pair : {N : Type 0} → SideValue N → SideValue N → Bool → PairValue N
pair x y same = record { left = x; right = y; equal = same }

-- what each running side has; a side that doesn't run has nothing
abbrev pub pair_on : {N : Type 0} → Mode → (Side → SideValue N) → (equal : Bool) → PairValue N
pair_on Both f same = pair (f left) (f right) same
pair_on Left f same = pair (f left) nothing same
pair_on Right f same = pair nothing (f right) same

-- ---- faults: the range of the number that each side shows, where it may fault

abbrev pub Shown : Type 0
Shown = Option (ℤ × ℤ)

abbrev pub no_range : ℤ × ℤ
no_range = (pos 0, pos 0)

abbrev pub fault : AlarmKind → ℤ × ℤ → ℤ × ℤ → List Fault
fault k a b = record { kind = k; left = a; right = b } ∷ []

-- One fault tells of both sides; a side that hasn't it shows [0, 0].
abbrev pub fault_of : AlarmKind → Shown → Shown → List Fault
fault_of k None None = []
fault_of k (Some a) None = fault k a no_range
fault_of k None (Some b) = fault k no_range b
fault_of k (Some a) (Some b) = fault k a b

abbrev pub faults_on : Mode → AlarmKind → (Side → Shown) → List Fault
faults_on Both k f = fault_of k (f left) (f right)
faults_on Left k f = fault_of k (f left) None
faults_on Right k f = fault_of k None (f right)

-- a fault of a kind that names no number
abbrev pub shown_if : Bool → Shown
shown_if true = Some no_range
shown_if false = None

abbrev pub shows_if : Bool → ℤ × ℤ → Shown
shows_if true r = Some r
shows_if false r = None

-- of these faults the value that is read may be none of those known: it is undefined, or part of a pointer
abbrev pub is_of_reading : AlarmKind → Bool
is_of_reading U1 = false
is_of_reading U2 = false
is_of_reading U3 = false
is_of_reading U4 = true
is_of_reading U5 = false
is_of_reading U6 = false
is_of_reading U7 = false
is_of_reading U8 = false
is_of_reading U9 = false
is_of_reading U10 = true
is_of_reading E1 = false
is_of_reading E2 = false
is_of_reading E3 = false
is_of_reading E4 = false

abbrev pub is_sure : Fault → Bool
is_sure f = not (is_of_reading f.kind)

-- Of what was read, each value is known: only then does what is known exclude any.
abbrev pub are_sure : List Fault → Bool
are_sure [] = true
are_sure (f ∷ fs) = is_sure f && are_sure fs
