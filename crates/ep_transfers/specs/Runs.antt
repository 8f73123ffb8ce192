-- The laws of statements that touch runs of bytes, as the record of laws of an analysis asks them.
use Rattle.std.specs.Prelude.{ℕ, unwrap_or}
use Rattle.ep_int.specs.declared.types.Order.{Order}
use Rattle.ep_layout.specs.Table as table
use Rattle.ep_domain.specs.Domain.{Ops}
use Rattle.ep_core.specs.Program.{Expr, Place, clear, fill, read_bytes, write_bytes, Program}
use Rattle.ep_core.specs.Runs.{Side}
use Rattle.ep_transfers.specs.Statements.{SimpleHolds}

-- one that has no size has none
abbrev pub bytes_of : Program → (ty : ℕ) → ℕ
bytes_of p ty = unwrap_or (table.size p.types ty) 0

module _ {N : Type 0} (D : Ops N) (p : Program) (ord : Side → Order) where
  -- fills, clears, input and output of bytes
  pub record RunsHold : Type 0 where
    pub fill_holds : (a e : Expr) (n : ℕ) → SimpleHolds D p ord (fill a e n)
    pub clear_holds : (a : Place) (ty : ℕ) → SimpleHolds D p ord (clear a ty)
    pub read_holds : (e : Expr) (n : ℕ) → SimpleHolds D p ord (read_bytes e n)
    pub write_holds : (e : Expr) (n : ℕ) → SimpleHolds D p ord (write_bytes e n)
