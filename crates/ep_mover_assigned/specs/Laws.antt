-- Statements of movers that assign a number or put one out (C11 6.5.16; this project's rules).
use Rattle.std.specs.Prelude.{◌≡◌, ℕ, true, false, List, [], slice_get, Option, Some, None, Ok}
use Rattle.ep_int.specs.declared.types.IntType.{IntType}
use Rattle.ep_int.specs.declared.types.Order.{Order}
use Rattle.ep_int.specs.declared.types.Scalar.{Scalar}
use Rattle.ep_int.specs.declared.types.Scalar.TheVariants.{Int}
use Rattle.ep_bitslice.specs.declared.cell.CellName.{CellName}
use Rattle.ep_domain.specs.Domain.{Ops}
use Rattle.ep_cells.specs.States.{Known}
use Rattle.ep_core.specs.Program.{Expr, Place, Dest, assign, input, output, Program}
use Rattle.ep_core.specs.Runs.{Side, left, right}
use Rattle.ep_core.specs.WellFormed.{simple_fits, is_well_formed}
use Rattle.ep_equalities.specs.declared.pair.Mode.{Mode}
use Rattle.ep_equalities.specs.declared.pair.Mode.TheVariants.{Both}
use Rattle.ep_evaluation.specs.Given.{runs}
use Rattle.ep_transfers.specs.Transfers.{Stepped, stepped, simple_step}
use Rattle.ep_movers.specs.Symbols.{Symbol}
use Rattle.ep_movers.specs.Forms.{is_moved_assignment, is_moving, takes_whole, has_moving_form}
use Rattle.ep_movers.specs.Movers.{Machine, symbols, takes, assigns}
use Rattle.ep_mover_bits.specs.Laws.{Inputs}
use Rattle.ep_mover_cells.specs.Known.{Moved}
use Rattle.ep_mover_known.specs.Laws.{AreAllRuns}
use Rattle.ep_mover_runs.specs.Following.{blocks_of_main}
use Rattle.ep_mover_stores.specs.Laws.{with_input, GoesOn}
use Rattle.ep_mover_values.specs.Naturals.{KeepsNaturals}

module _ {N : Type 0} (D : Ops N) (p : Program) (ord : Side → Order) where
  -- what is known of the machines of a mover
  pub record IsKnown (base : Inputs) (ms : Side → Machine) (k : Known N) : Type 0 where
    pub moved : Moved D p ord base ms k
    pub runs : AreAllRuns D p ord ms k

  -- the running machines assign, and the other one stands still
  pub record HaveAssigned (mode : Mode) (w : Scalar) (a : Place) (e : Expr) (ms ns : Side → Machine) : Type 0 where
    pub assigned : (s : Side) → runs mode s ≡ true → assigns (ord s) w a e (ms s) ≡ Ok (ns s)
    pub still : (s : Side) → runs mode s ≡ false → ns s ≡ ms s

abbrev pub AssignmentsKeepBytes : {N : Type 0} → Ops N → Type 0
AssignmentsKeepBytes {N = N} D =
    KeepsNaturals D → (p : Program) (ord : Side → Order) → is_well_formed p ≡ true → has_moving_form p ≡ true
    → (base : Inputs) (ms ns : Side → Machine) (k : Known N) → IsKnown D p ord base ms k → (mode : Mode)
    (result : Option (ℕ × Scalar)) (w : Scalar) (a : Place) (e : Expr) → is_moved_assignment w a e ≡ true
    → (ty : Option ℕ)
    → simple_fits p p.main ty (assign w a e) (blocks_of_main (slice_get p.functions p.main)) ≡ true
    → HaveAssigned D p ord mode w a e ms ns → GoesOn D p ord base ns (simple_step D p mode result (assign w a e) k)

-- Where both machines put out the same bytes, nothing is wrong.
abbrev pub OutputsAgree : {N : Type 0} → Ops N → Type 0
OutputsAgree {N = N} D =
    KeepsNaturals D → (p : Program) (ord : Side → Order) → is_well_formed p ≡ true → has_moving_form p ≡ true
    → (base : Inputs) (ms : Side → Machine) (k : Known N) → IsKnown D p ord base ms k
    → (result : Option (ℕ × Scalar)) (t : IntType) (e : Expr) → is_moving e ≡ true → (ty : Option ℕ)
    → simple_fits p p.main ty (output t e) (blocks_of_main (slice_get p.functions p.main)) ≡ true
    → (xs : List Symbol) → ((s : Side) → symbols (ord s) (ms s).memory e ≡ Ok xs)
    → simple_step D p Both result (output t e) k ≡ stepped [] (Some k)

-- An input goes to its block on both machines, and has a cell there.
pub record TakesInput {N : Type 0} (D : Ops N) (p : Program) (ord : Side → Order) (base : Inputs)
    (ms ns : Side → Machine) (x : Stepped N) : Type 0 where
  pub cell : CellName
  pub goes : GoesOn D p ord (with_input base (ms left).inputs cell) ns x

abbrev pub InputsKeepBytes : {N : Type 0} → Ops N → Type 0
InputsKeepBytes {N = N} D =
    (p : Program) (ord : Side → Order) → is_well_formed p ≡ true → has_moving_form p ≡ true
    → (base : Inputs) (ms ns : Side → Machine) (k : Known N) → IsKnown D p ord base ms k
    → (result : Option (ℕ × Scalar)) (t : IntType) (d : Option Dest) → takes_whole p t d ≡ true → (ty : Option ℕ)
    → simple_fits p p.main ty (input t d) (blocks_of_main (slice_get p.functions p.main)) ≡ true
    → ((s : Side) → takes (ord s) t d (ms s) ≡ Ok (ns s))
    → TakesInput D p ord base ms ns (simple_step D p Both result (input t d) k)
