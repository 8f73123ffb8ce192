-- What is known of the two machines of a mover, whatever the inputs are (this project's rules).
use Rattle.std.specs.Prelude.{◌≡◌, ℕ, ◌≤◌, true, List, [], length, slice_get, Ok}
use Rattle.ep_int.specs.declared.types.IntType.{IntType}
use Rattle.ep_int.specs.declared.types.Order.{Order}
use Rattle.ep_domain.specs.Domain.{Ops}
use Rattle.ep_cells.specs.States.{Known}
use Rattle.ep_core.specs.Program.{Expr, Program}
use Rattle.ep_core.specs.Exec.{State}
use Rattle.ep_core.specs.Runs.{Side, left, right}
use Rattle.ep_core.specs.WellFormed.{integer, has_sort, is_well_formed}
use Rattle.ep_equalities.specs.declared.pair.Mode.TheVariants.{Both}
use Rattle.ep_equalities.specs.Same.{is_same}
use Rattle.ep_evaluation.specs.Evaluation.{expression}
use Rattle.ep_evaluation.specs.Laws.{sizes_of, IsKept}
use Rattle.ep_movers.specs.Symbols.{Symbol}
use Rattle.ep_movers.specs.Forms.{is_moving, has_moving_form}
use Rattle.ep_movers.specs.Movers.{Machine, symbols}
use Rattle.ep_mover_runs.specs.Following.{Follows, blocks_of_main}
use Rattle.ep_mover_values.specs.Laws.{AreSinglesFixed}

module _ {N : Type 0} (D : Ops N) (p : Program) (ord : Side → Order) where
  -- machines with these inputs that do what the symbols say, of which a state holds
  pub record AreRuns (ms : Side → Machine) (k : Known N) (inputs : List ℕ) : Type 0 where
    pub states : Side → State
    pub follow : (s : Side) → Follows (ord s) p inputs (states s) (ms s)
    pub kept : IsKept D p ord k (record { left = (states left).memory; right = (states right).memory })

  -- with any inputs that are enough
  abbrev pub AreAllRuns : (ms : Side → Machine) → Known N → Type 0
  AreAllRuns ms k = (inputs : List ℕ) → (ms left).inputs ≤ length inputs → AreRuns ms k inputs

  -- what is surely the same has the same bytes on both machines
  abbrev pub AreSamesEqual : (seen : List ℕ) → (ms : Side → Machine) → Known N → Type 0
  AreSamesEqual seen ms k =
      (e : Expr) (t : IntType) → is_moving e ≡ true → has_sort p.types p.blocks seen e (integer t) ≡ true
      → ((expression D (sizes_of p.blocks) e).gives Both k).faults ≡ []
      → is_same D ((expression D (sizes_of p.blocks) e).gives Both k).pair ≡ true → (xs : Side → List Symbol)
      → ((s : Side) → symbols (ord s) (ms s).memory e ≡ Ok (xs s)) → xs left ≡ xs right

  pub record IsTold (ms : Side → Machine) (k : Known N) : Type 0 where
    pub singles : AreSinglesFixed D p ord (blocks_of_main (slice_get p.functions p.main)) ms k
    pub sames : AreSamesEqual (blocks_of_main (slice_get p.functions p.main)) ms k

abbrev pub InputsTell : {N : Type 0} → Ops N → Type 0
InputsTell {N = N} D =
    (p : Program) (ord : Side → Order) → is_well_formed p ≡ true → has_moving_form p ≡ true → (ms : Side → Machine)
    (k : Known N) → AreAllRuns D p ord ms k → IsTold D p ord ms k
