-- The laws of statements that copy, as the record of laws of an analysis asks them of what is known of the cells of two
-- memories.
use Rattle.std.specs.Prelude.{ℕ}
use Rattle.ep_int.specs.declared.types.Order.{Order}
use Rattle.ep_domain.specs.Domain.{Ops}
use Rattle.ep_core.specs.Program.{Expr, Place, copy_aggregate, copy_bytes, Program}
use Rattle.ep_core.specs.Runs.{Side}
use Rattle.ep_transfers.specs.Statements.{SimpleHolds}

pub record CopiesHold {N : Type 0} (D : Ops N) (p : Program) (ord : Side → Order) : Type 0 where
  pub copy_bytes_holds : (a b : Expr) (n : ℕ) → SimpleHolds D p ord (copy_bytes a b n)
  pub copy_aggregate_holds : (a b : Place) (ty : ℕ) → SimpleHolds D p ord (copy_aggregate a b ty)
