-- What statements of tame programs do to good states.
use Rattle.std.specs.Prelude.{ℕ, List, ◌++◌}
use Rattle.ep_int.specs.declared.types.Order.{Order}
use Rattle.ep_domain.specs.Domain.{Ops}
use Rattle.ep_cells.specs.States.{Known}
use Rattle.ep_core.specs.Program.{Program}
use Rattle.ep_core.specs.Runs.{Side}
use Rattle.ep_equalities.specs.declared.pair.Mode.TheVariants.{Both}
use Rattle.ep_transfers.specs.Transfers.{entered}
use Rattle.ep_tame_laws.specs.Tamely.{HaveNoResult}
use Rattle.ep_tame_states.specs.States.{IsGood}

-- Blocks come, and go; results too. Main's result is none that comes.
pub record BlocksKeepGood {N : Type 0} (D : Ops N) (p : Program) (ord : Side → Order) : Type 0 where
  pub enter : (bs : List ℕ) → HaveNoResult p bs → (h k : Known N) (live res : List ℕ) → IsGood D p ord h live res k
      → IsGood D p ord h (bs ++ live) res (entered D p Both bs k)
  pub leave : (bs : List ℕ) (h k : Known N) (live res : List ℕ) → IsGood D p ord h (bs ++ live) res k
      → IsGood D p ord h live res (entered D p Both bs k)
  pub result_comes : (bs : List ℕ) → HaveNoResult p bs → (h k : Known N) (live res : List ℕ)
      → IsGood D p ord h live res k → IsGood D p ord h live (bs ++ res) (entered D p Both bs k)
  pub result_goes : (bs : List ℕ) (h k : Known N) (live res : List ℕ) → IsGood D p ord h live (bs ++ res) k
      → IsGood D p ord h live res k
