-- The two ends of the main of a tame program.
use Rattle.std.specs.Prelude.{◌≡◌, ℕ, List, Some, slice_get}
use Rattle.ep_int.specs.declared.types.Order.{Order}
use Rattle.ep_domain.specs.Domain.{Ops}
use Rattle.ep_cells.specs.States.{Known}
use Rattle.ep_core.specs.Program.{Function, Program}
use Rattle.ep_core.specs.Exec.{frame_of}
use Rattle.ep_core.specs.Runs.{Side}
use Rattle.ep_pass.specs.Honest.{AreOf}
use Rattle.ep_tame_laws.specs.Tamely.{is_undefined, AreAmong, result_block}
use Rattle.ep_tame_ops.specs.Laws.{ops, Good}

pub record EndsAreGood {N : Type 0} (D : Ops N) (p : Program) (ord : Side → Order) : Type 0 where
  pub entry : (f : Function) → slice_get p.functions p.main ≡ Some f
      → Good D p ord (ops D p ord).entry (frame_of f) (result_block f) (ops D p ord).entry
  pub ended : (f : Function) → slice_get p.functions p.main ≡ Some f → (h s : Known N) (live res : List ℕ)
      → AreAmong (result_block f) res → Good D p ord h live res s → AreOf is_undefined ((ops D p ord).ended f s)
