-- Statements of movers, one after another, on both machines (this project's rules).
use Rattle.std.specs.Prelude.{◌≡◌, ℕ, ◌≤◌, true, false, List, [], length, slice_get, Option, Some, Ok}
use Rattle.ep_int.specs.declared.types.IntType.{IntType}
use Rattle.ep_int.specs.declared.types.Order.{Order}
use Rattle.ep_int.specs.declared.types.Scalar.{Scalar}
use Rattle.ep_domain.specs.Domain.{Ops}
use Rattle.ep_cells.specs.States.{Known}
use Rattle.ep_core.specs.Program.{Expr, Place, Dest, Simple, nothing, assign, input, output, Function, Program}
use Rattle.ep_core.specs.Exec.{State}
use Rattle.ep_core.specs.Runs.{Side, left, right}
use Rattle.ep_core.specs.WellFormed.{result_type, simple_fits, is_well_formed}
use Rattle.ep_evaluation.specs.Given.{alone, runs}
use Rattle.ep_pass.specs.States.{Both, One, Transfer}
use Rattle.ep_pass.specs.Laws.{ConcretisesTyped, AreOther}
use Rattle.ep_transfers.specs.Cells.{cell_ops}
use Rattle.ep_transfers.specs.Laws.{StandsFor}
use Rattle.ep_movers.specs.Forms.{is_moved_assignment, is_moving_simple, has_moving_form}
use Rattle.ep_movers.specs.Movers.{Machine, assigns, does}
use Rattle.ep_mover_bits.specs.Laws.{Inputs}
use Rattle.ep_mover_cells.specs.Known.{Moved}
use Rattle.ep_mover_runs.specs.Following.{Follows, blocks_of_main}
use Rattle.ep_mover_values.specs.Naturals.{KeepsNaturals}

-- statements of one number, or of none
pub data IsOfNumber : Simple → Type 0 where
  of_none : IsOfNumber nothing
  of_assign : (w : Scalar) (a : Place) (e : Expr) → IsOfNumber (assign w a e)
  of_input : (t : IntType) (d : Option Dest) → IsOfNumber (input t d)
  of_output : (t : IntType) (e : Expr) → IsOfNumber (output t e)

module _ {N : Type 0} (D : Ops N) (p : Program) (ord : Side → Order) where
  -- machines with these inputs that do what the symbols say, for which a state stands
  pub record AreTypedRuns (ms : Side → Machine) (k : Known N) (inputs : List ℕ) : Type 0 where
    pub states : Side → State
    pub follow : (s : Side) → Follows (ord s) p inputs (states s) (ms s)
    pub typed : ConcretisesTyped p (StandsFor D p ord) k (states left) (states right)

  -- all that is known of both machines of a mover, which have put out the same so far
  pub record Stands (base : Inputs) (ms : Side → Machine) (k : Known N) : Type 0 where
    pub moved : Moved D p ord base ms k
    pub runs : (inputs : List ℕ) → (ms left).inputs ≤ length inputs → AreTypedRuns ms k inputs
    pub outputs : (ms left).outputs ≡ (ms right).outputs

  -- nothing is wrong, and all is known again
  pub record StepStands (ns : Side → Machine) (x : Transfer (Known N)) : Type 0 where
    pub next : Known N
    pub then_base : Inputs
    pub is : x ≡ record { faults = []; next = Some next }
    pub stands : Stands then_base ns next

abbrev pub StepsStand : {N : Type 0} → Ops N → Type 0
StepsStand {N = N} D =
    KeepsNaturals D → (p : Program) (ord : Side → Order) → is_well_formed p ≡ true → has_moving_form p ≡ true
    → AreOther ord → (f : Function) → slice_get p.functions p.main ≡ Some f → (base : Inputs)
    (ms ns : Side → Machine) (k : Known N) → Stands D p ord base ms k → (w : Simple) → IsOfNumber w
    → is_moving_simple p w ≡ true
    → simple_fits p p.main (result_type p.blocks f.result) w (blocks_of_main (slice_get p.functions p.main)) ≡ true
    → ((s : Side) → does (ord s) w (ms s) ≡ Ok (ns s)) → (ns left).outputs ≡ (ns right).outputs
    → StepStands D p ord ns ((cell_ops D p ord).simple Both f.result w k)

-- One machine alone assigns, in an arm for its byte order.
abbrev pub AlonesStand : {N : Type 0} → Ops N → Type 0
AlonesStand {N = N} D =
    KeepsNaturals D → (p : Program) (ord : Side → Order) → is_well_formed p ≡ true → has_moving_form p ≡ true
    → AreOther ord → (f : Function) → slice_get p.functions p.main ≡ Some f → (base : Inputs)
    (ms ns : Side → Machine) (k : Known N) → Stands D p ord base ms k → (i : Side) (w : Scalar) (a : Place) (e : Expr)
    → is_moved_assignment w a e ≡ true
    → simple_fits p p.main (result_type p.blocks f.result) (assign w a e)
    (blocks_of_main (slice_get p.functions p.main)) ≡ true
    → assigns (ord i) w a e (ms i) ≡ Ok (ns i) → ((s : Side) → runs (alone i) s ≡ false → ns s ≡ ms s)
    → StepStands D p ord ns ((cell_ops D p ord).simple (One i) f.result (assign w a e) k)
