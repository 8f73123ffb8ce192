-- Machines do what symbols say. The rules are this project's.
use Rattle.std.specs.Prelude.{◌≡◌, ℕ, Option, true, false, List, slice_get, Ok}
use Rattle.ep_int.specs.declared.types.IntType.{IntType}
use Rattle.ep_int.specs.declared.types.Order.{Order}
use Rattle.ep_core.specs.Program.{What, Stmts, Expr, Program}
use Rattle.ep_core.specs.Exec.{State, result_in, Going, uncounted, value, exec, exec_all}
use Rattle.ep_core.specs.Runs.{start, run_by, Agree}
use Rattle.ep_core.specs.WellFormed.{integer, has_sort, what_fits, stmts_fit, is_well_formed}
use Rattle.ep_movers.specs.Symbols.{Symbol}
use Rattle.ep_movers.specs.Movers.{Machine, first_machine, symbols, moves_what, moves, main_moves, outputs_on}
use Rattle.ep_movers.specs.Movers.{is_mover_text}
use Rattle.ep_movers.specs.Forms.{is_moving, is_moving_what, are_moving, has_moving_form}
use Rattle.ep_mover_runs.specs.Following.{Follows, ValueFollows, MovesSo, AllMoveSo, RunsSo, taken_by, put_out_by}
use Rattle.ep_mover_runs.specs.Following.{blocks_of_main, body_of_main}

-- An expression of a mover has the value that its symbols say.
abbrev pub ExpressionsFollow : Type 0
ExpressionsFollow =
    (p : Program) → is_well_formed p ≡ true → has_moving_form p ≡ true
    → (o : Order) (inputs : List ℕ) (s : State) (m : Machine) → Follows o p inputs s m
    → (e : Expr) (t : IntType) → is_moving e ≡ true
    → has_sort p.types p.blocks (blocks_of_main (slice_get p.functions p.main)) e (integer t) ≡ true
    → ValueFollows inputs t (symbols o m.memory e) (value o p e s.memory)

-- A statement of a mover leaves a machine as its symbols say, and takes and puts out as much as its text says.
abbrev pub StatementsFollow : Type 0
StatementsFollow =
    (p : Program) → is_well_formed p ≡ true → has_moving_form p ≡ true
    → (o : Order) (inputs : List ℕ) (s : State) (m : Machine) → Follows o p inputs s m
    → (w : What) → is_moving_what p w ≡ true → (here : ℕ) (result : Option ℕ)
    → what_fits p here result w (blocks_of_main (slice_get p.functions p.main)) false ≡ true
    → (bodies : ℕ → Going) (l n : ℕ)
    → MovesSo o p inputs n (taken_by w) (put_out_by w) s m (moves_what o w m) (exec o p uncounted here bodies w l n s)

-- So do statements one after another.
abbrev pub AllFollow : Type 0
AllFollow =
    (p : Program) → is_well_formed p ≡ true → has_moving_form p ≡ true
    → (o : Order) (inputs : List ℕ) (s : State) (m : Machine) → Follows o p inputs s m
    → (ss : Stmts) → are_moving p ss ≡ true → (here : ℕ) (result : Option ℕ)
    → stmts_fit p here result ss (blocks_of_main (slice_get p.functions p.main)) false ≡ true
    → (bodies : ℕ → Going) (n : ℕ)
    → AllMoveSo o p inputs n ss m (moves o ss m) (exec_all o p uncounted here bodies ss n s)

-- At its start a machine is as first values say.
abbrev pub StartsFollow : Type 0
StartsFollow =
    (p : Program) → is_well_formed p ≡ true → (o : Order) (inputs : List ℕ)
    → Follows o p inputs (start o p inputs) (first_machine o p (result_in (slice_get p.functions p.main)))

-- A whole run ends as its symbols say, or wants input. Main's result is 0, since no statement writes it. Steps aren't
-- counted here: enough of them come to the same (`StepsReach` of ep_core).
abbrev pub RunsFollow : Type 0
RunsFollow =
    (p : Program) → is_well_formed p ≡ true → has_moving_form p ≡ true → (o : Order) (inputs : List ℕ) (n : ℕ)
    → RunsSo inputs (body_of_main (slice_get p.functions p.main)) (main_moves o p (slice_get p.functions p.main))
    (run_by uncounted p o inputs n)

-- ---- agreement

-- Machines that put out the same symbols agree.
abbrev pub SameAgree : Type 0
SameAgree =
    (p : Program) → is_well_formed p ≡ true → has_moving_form p ≡ true → (a b : Order) (os : List (List Symbol))
    → outputs_on a p ≡ Ok os → outputs_on b p ≡ Ok os → Agree p a b

-- The machines of a mover that agree put out the same symbols.
abbrev pub AgreeingAreSame : Type 0
AgreeingAreSame =
    (p : Program) → is_well_formed p ≡ true → (a b : Order) → is_mover_text p a b ≡ true → Agree p a b
    → (os : List (List Symbol)) × (outputs_on a p ≡ Ok os) × (outputs_on b p ≡ Ok os)
