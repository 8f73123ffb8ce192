-- Statements of worked programs one after the other, over intervals, and what is shown of them: their faults, and each
-- cell with side, place, type, value, whether it may be undefined, and form.
use Rattle.std.specs.Prelude.{pos, ℕ, ℤ, Bool, true, false, List, [], ◌∷◌, map, slice_get, Option, Some, None}
use Rattle.ep_int.specs.declared.types.IntType.{IntType}
use Rattle.ep_int.specs.declared.types.IntType.TheVariants.{I32}
use Rattle.ep_int.specs.declared.types.Order.{Order}
use Rattle.ep_int.specs.declared.types.Order.TheVariants.{Little, Big}
use Rattle.ep_int.specs.declared.types.Scalar.{Scalar}
use Rattle.ep_int.specs.declared.types.Scalar.TheVariants.{Int}
use Rattle.ep_layout.specs.Table.{MemberRow}
use Rattle.ep_alarms.specs.declared.types.AlarmKind.{AlarmKind}
use Rattle.ep_bitslice.specs.declared.cell.Side.{Side as CellSide}
use Rattle.ep_bitslice.specs.declared.cell.CellName.{CellName}
use Rattle.ep_bitslice.specs.declared.segment.Segment.{Segment}
use Rattle.ep_interval_laws.specs.Domain.{interval_ops}
use Rattle.ep_interval_laws.specs.Interval.{Interval}
use Rattle.ep_pointers.specs.Value.{Target}
use Rattle.ep_cells.specs.declared.cell.Cell.{Cell}
use Rattle.ep_cells.specs.declared.cell.Value.{Value}
use Rattle.ep_cells.specs.declared.cell.Value.TheVariants.{Num, Ptr}
use Rattle.ep_cells.specs.States.{Known}
use Rattle.ep_core.specs.Program.{Place, Expr, Simple, stop, Dest, Block, Function, Program}
use Rattle.ep_core.specs.Runs.{Side, left, right}
use Rattle.ep_equalities.specs.declared.pair.Mode.{Mode}
use Rattle.ep_equalities.specs.declared.pair.Fault.{Fault}
use Rattle.ep_transfers.specs.Transfers.{Stepped, stepped, simple_step, entered}
use Rattle.ep_transfers.specs.Calls.{then_step, arguments_step, result_step}
use Rattle.ep_transfers.specs.Ends.{entry_known, ended_faults, main_result}
use Rattle.ep_transfers.specs.Guards.{is_state}

-- ---- what is shown of what is known

pub data ShownValue : Type 0 where
  nothing_known : ShownValue
  between : ℤ → ℤ → ShownValue
  points : Bool → List (ℕ × ℤ × ℤ) → ShownValue

pub data Shape : Type 0 where
  shape : CellSide → (block offset : ℕ) → Scalar → ShownValue → (maybe : Bool) → Option (List Segment) → Shape

abbrev pub shown_value : Option (Value Interval) → ShownValue
shown_value None = nothing_known
shown_value (Some (Num n)) = between (interval_ops.range n).0 (interval_ops.range n).1
shown_value (Some (Ptr p)) = points p.null (map (λ (t : Target Interval). (
  t.0,
  (interval_ops.range t.1).0,
  (interval_ops.range t.1).1,
)) p.targets)

abbrev pub shape_of : Cell Interval → Shape
shape_of c = shape c.side c.block c.offset c.what (shown_value c.value) c.maybe c.form

-- ---- statements in turn

pub data Step : Type 0 where
  does : Mode → Simple → Step
  comes : Mode → List ℕ → Step
  goes : Mode → List ℕ → Step
  passes : (function : ℕ) → Mode → List Expr → Step
  does_in : (function : ℕ) → Mode → Simple → Step
  receives : (function : ℕ) → Mode → Option Dest → Step

abbrev pub orders : Side → Order
orders left = Little
orders right = Big

module _ (p : Program) where
  abbrev pub with_function : ℕ → (Function → Stepped Interval) → Stepped Interval
  with_function i go = at_function (slice_get p.functions i)
    where
      at_function : Option Function → Stepped Interval
      at_function None = stepped [] None
      at_function (Some f) = go f

  abbrev pub step : Step → Known Interval → Stepped Interval
  step (does m w) k = simple_step interval_ops p m (main_result interval_ops p) w k
  step (comes m bs) k = stepped [] (Some (entered interval_ops p m bs k))
  step (goes m bs) k = stepped [] (Some (entered interval_ops p m bs k))
  step (passes f m es) k = with_function f (λ g. arguments_step interval_ops p m g es k)
  step (does_in f m w) k = with_function f (λ g. simple_step interval_ops p m g.result w k)
  step (receives f m d) k = with_function f (λ g. result_step interval_ops p m g d k)

  abbrev pub end_of : Known Interval → Stepped Interval
  end_of k = stepped (ended_faults interval_ops p (record {
    name = [];
    line = 1;
    params = [];
    result = main_result
        interval_ops p;
    locals = [];
    body = stop;
  }) k) (Some k)

  abbrev pub steps : List Step → Known Interval → Stepped Interval
  steps [] k = end_of k
  steps (s ∷ ss) k = then_step interval_ops p (step s k) (steps ss)

abbrev pub run : Program → List Step → Stepped Interval
run p ss = steps p ss (entry_known interval_ops p orders)

abbrev pub faults_of : Stepped Interval → List Fault
faults_of s = s.faults

abbrev pub shapes_of : Stepped Interval → Option (List Shape)
shapes_of s = shapes s.next
  where
    shapes : Option (Known Interval) → Option (List Shape)
    shapes None = None
    shapes (Some k) = Some (map shape_of k.cells)

abbrev pub is_state_after : Program → Stepped Interval → Bool
is_state_after p s = is_there s.next
  where
    is_there : Option (Known Interval) → Bool
    is_there None = true
    is_there (Some k) = is_state p orders k

-- ---- parts of programs

abbrev pub local : (size ty : ℕ) → Block
local n t = record { size = n; ty = t; global = false }

abbrev pub shared_block : (size ty : ℕ) → Block
shared_block n t = record { size = n; ty = t; global = true }

abbrev pub member_of : (ty offset : ℕ) → MemberRow
member_of t q = record { name = []; ty = t; offset = q }

-- main, whose result is this block
abbrev pub main_of : (result : ℕ) → (locals : List ℕ) → Function
main_of r bs = record { name = []; line = 1; params = []; result = Some (r, Int I32); locals = bs; body = stop }

abbrev pub to_place : Scalar → Place → Option Dest
to_place w a = Some (record { what = w; cast = false; place = a })

-- of this kind, with the least and the greatest number shown on the left and on the right
abbrev pub listed : AlarmKind → (low high low_right high_right : ℕ) → Fault
listed k a b c d = record { kind = k; left = (pos a, pos b); right = (pos c, pos d) }

abbrev pub cell_of : CellSide → (block offset : ℕ) → IntType → CellName
cell_of s b q t = record { side = s; block = b; offset = q; t = t }
