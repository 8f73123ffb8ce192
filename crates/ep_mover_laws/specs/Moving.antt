-- What the operations on states keep where a mover runs, whose bytes the text tells on each machine (this project's
-- rules).
use Rattle.std.specs.Prelude.{◌≡◌, ℕ, ◌≤◌, true, List, [], length, Some, slice_get, Ok}
use Rattle.ep_int.specs.declared.types.Order.{Order}
use Rattle.ep_int.specs.declared.types.Scalar.{Scalar}
use Rattle.ep_int.specs.Memory.{Memory}
use Rattle.ep_core.specs.Program.{Place, Expr, Simple, assign, Block, Function, Program}
use Rattle.ep_core.specs.Exec.{State, frame_of, result_in}
use Rattle.ep_core.specs.Runs.{Side, left, right, is_result}
use Rattle.ep_core.specs.WellFormed.{result_type, simple_fits}
use Rattle.ep_pass.specs.States.{Both, One, Transfer, StateOps}
use Rattle.ep_pass.specs.Laws.{ConcretisesTyped}
use Rattle.ep_movers.specs.Movers.{Machine, bytes_in, blank_bytes, first_machine, does}
use Rattle.ep_movers.specs.Forms.{is_moved_assignment, is_moving_simple}
use Rattle.ep_mover_runs.specs.Following.{Follows}

-- no fault, and a next state, of which this holds
pub record GoesOnWith {S : Type 0} (P : S → Type 0) (g : Transfer S) : Type 0 where
  pub state : S
  pub is : g ≡ record { faults = []; next = Some state }
  pub holds : P state

-- the other side
abbrev pub beside : Side → Side
beside left = right
beside right = left

module _ (p : Program) (ord : Side → Order) where
  -- the machines where main begins
  abbrev pub first_machines : Function → Side → Machine
  first_machines f i = first_machine (ord i) p (result_in (Some f))

  module _ {S : Type 0} (Concretises : S → Memory → Memory → Type 0) where
    -- A state stands for two machines that are as these symbols say, where the inputs are these.
    pub record StandsWith (inputs : List ℕ) (ms : Side → Machine) (s : S) : Type 0 where
      pub machine : Side → State
      pub follows : (i : Side) → Follows (ord i) p inputs (machine i) (ms i)
      pub stands : ConcretisesTyped p Concretises s (machine left) (machine right)

    -- This is known of a state and of two machines by symbols, which took as many inputs and put out the same so far.
    -- With any inputs that are enough, the state stands for machines that are so.
    pub record KnownOf (Moved : (Side → Machine) → S → Type 0) (ms : Side → Machine) (s : S) : Type 0 where
      pub moved : Moved ms s
      pub outputs : (ms left).outputs ≡ (ms right).outputs
      pub counts : (ms left).inputs ≡ (ms right).inputs
      pub stands : (inputs : List ℕ) → (ms left).inputs ≤ length inputs → StandsWith inputs ms s

-- Where `Moved ms s` is what is known of a state and of the machines of both sides.
pub record KeepsMoved (p : Program) (ord : Side → Order) {S : Type 0} (o : StateOps S)
    (Concretises : S → Memory → Memory → Type 0) (Moved : (Side → Machine) → S → Type 0) : Type 0 where
  pub entry : (f : Function) → slice_get p.functions p.main ≡ Some f → Moved (first_machines p ord f) o.entry
  -- a statement that both machines do, with the same outputs
  pub both : (f : Function) → slice_get p.functions p.main ≡ Some f → (w : Simple) → is_moving_simple p w ≡ true
      → simple_fits p p.main (result_type p.blocks f.result) w (frame_of f) ≡ true
      → (ms ns : Side → Machine) (s : S) → KnownOf p ord Concretises Moved ms s
      → ((i : Side) → does (ord i) w (ms i) ≡ Ok (ns i)) → (ns left).outputs ≡ (ns right).outputs
      → GoesOnWith (Moved ns) (o.simple Both f.result w s)
  -- an assignment that one machine does, in its arm of a conditional by byte order
  pub alone : (f : Function) → slice_get p.functions p.main ≡ Some f → (i : Side) (what : Scalar) (a : Place) (e : Expr)
      → is_moved_assignment what a e ≡ true
      → simple_fits p p.main (result_type p.blocks f.result) (assign what a e) (frame_of f) ≡ true
      → (ms ns : Side → Machine) (s : S) → KnownOf p ord Concretises Moved ms s
      → does (ord i) (assign what a e) (ms i) ≡ Ok (ns i) → ns (beside i) ≡ ms (beside i)
      → GoesOnWith (Moved ns) (o.simple (One i) f.result (assign what a e) s)
  -- at the end, where main's result is the zero bytes that it was
  pub ended : (f : Function) → slice_get p.functions p.main ≡ Some f → (ms : Side → Machine) (s : S)
      → KnownOf p ord Concretises Moved ms s
      → ((b : ℕ) (d : Block) → is_result f.result b ≡ true → slice_get p.blocks b ≡ Some d → (i : Side)
      → bytes_in (ms i).memory b ≡ blank_bytes true d.size)
      → o.ended f s ≡ []
