-- What is received of a call may be written, from a state alone.
use Rattle.std.proofs.Common.{◌≡◌, ℕ, pos, true, Some, refl}
use Rattle.ep_evaluation.proofs.Final.{if_has}
use Rattle.ep_int.specs.declared.types.Order.{Order}
use Rattle.ep_int.specs.declared.types.Scalar.{Scalar}
use Rattle.ep_int.specs.declared.types.Scalar.TheVariants.{Int, Pointer}
use Rattle.ep_int.specs.Memory.{has, pointer, loaded}
use Rattle.ep_domain.specs.Domain.{Ops}
use Rattle.ep_pointers.specs.Value.{one_target}
use Rattle.ep_cells.specs.States.{Known}
use Rattle.ep_core.specs.Program.{Program}
use Rattle.ep_core.specs.Exec.{model, size_at}
use Rattle.ep_core.specs.Runs.{Side}
use Rattle.ep_core.specs.Typed.{ValueFits}
use Rattle.ep_core.proofs.Bytes.{loaded_fits}
use Rattle.ep_equalities.specs.declared.pair.Mode.{Mode}
use Rattle.ep_evaluation.specs.Given.{on}
use Rattle.ep_evaluation.specs.Evaluation.{pointer_given, load_means}
use Rattle.ep_evaluation.specs.Laws.{Machine, Sound, IsState, SideFits}
use Rattle.ep_evaluation.proofs.Leaves.{block_sound}
use Rattle.ep_evaluation.proofs.LoadWhole.{load_sound}
use Rattle.ep_evaluation.proofs.Conversions.{convert_sound}
use Rattle.ep_transfers.specs.Transfers.{sizes}
use Rattle.ep_transfers.specs.Calls.{loaded_result, received_as}
use Rattle.ep_transfers.specs.Laws.{CellLaws}
use Rattle.ep_transfers.specs.Taken.{AreTaken, numbers, pointers}

module _ {N : Type 0} (D : Ops N) (laws : CellLaws D) (p : Program) (ord : Side → Order) where
  abbrev loaded_of : ℕ × Scalar → Side → Machine
  loaded_of r s m = loaded (ord s) (model (ord s) p) (size_at (ord s) p r.0) m r.1 r.0 0

  read_sound : (r : ℕ × Scalar) → Sound D p ord r.1 (loaded_of r)
      (load_means D (sizes D p) r.1 (λ m k. pointer_given D (one_target r.0 (D.single (pos 0))) m))
  read_sound r =
      load_sound D laws.domain laws.reads p ord r.1 (λ s m. has (pointer r.0 0))
      (λ m k. pointer_given D (one_target r.0 (D.single (pos 0))) m)
      (block_sound D laws.domain p ord r.0 (λ s m. has (pointer r.0 0)) (λ s m. refl))

  pub received_fits : (b : ℕ) (v w : Scalar) → AreTaken v w → (k : Known N) → IsState D p ord k → (mode : Mode)
      → (s : Side) → SideFits D p ord k w (on (received_as D p v w mode (loaded_result D p mode (b, v) k)).pair s)
  received_fits b _ _ (numbers u t) k i mode s =
      (convert_sound D laws.domain p ord u t (loaded_of (b, Int u))
      (load_means D (sizes D p) (Int u) (λ m k. pointer_given D (one_target b (D.single (pos 0))) m))
      (λ s m fits v e. if_has (loaded_of (b, Int u) s m) (ValueFits p (Int u)) v
      (loaded_fits p (ord s) (model (ord s) p) (size_at (ord s) p b) m (Int u) b 0 fits) e)
      (read_sound (b, Int u))).fits k i mode s
  received_fits b _ _ pointers k i mode s = (read_sound (b, Pointer)).fits k i mode s
