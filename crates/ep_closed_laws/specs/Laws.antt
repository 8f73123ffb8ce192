-- What holds of the reports on closed programs.
use Rattle.std.specs.Prelude.{◌≡◌, ℕ, ◌≤◌, [], Some, IsTrue}
use Rattle.ep_int.specs.declared.types.Order.{Order}
use Rattle.ep_int.specs.Memory.{Memory}
use Rattle.ep_layout.specs.Table.{Table, size}
use Rattle.ep_core.specs.Program.{Program}
use Rattle.ep_core.specs.Runs.{Side, left, right}
use Rattle.ep_core.specs.WellFormed.{is_well_formed}
use Rattle.ep_pass.specs.States.{StateOps}
use Rattle.ep_pass.specs.Laws.{AreOther}
use Rattle.ep_pass.specs.Pass.{report_of}
use Rattle.ep_kinds.specs.Closed.{is_closed_text}
use Rattle.ep_kinds.specs.Steady.{IsClosed, IsSteady}
use Rattle.ep_closed_laws.specs.Closely.{Closely}

-- each type that has a size has bytes (C11 6.2.5p20)
abbrev pub TypesHaveBytes : Table → Type 0
TypesHaveBytes t = (ty n : ℕ) → size t ty ≡ Some n → 1 ≤ n

-- with states of this type
module _ (S : Type 0) where
  -- The operations are exact on closed programs.
  abbrev pub AreExact : (ops : Program → (Side → Order) → StateOps S)
      → (ConcretisesOne : Program → (Side → Order) → S → Memory → Memory → Type 0) → Type 0
  AreExact ops ConcretisesOne =
      (p : Program) (ord : Side → Order) → IsTrue (is_well_formed p) → TypesHaveBytes p.types
      → IsTrue (is_closed_text p) → AreOther ord
      → Closely p ord (ops p ord) (ConcretisesOne p ord)

  -- The report on a closed and steady program is empty, where so many turns are unrolled as its loops take at most.
  abbrev pub ClosedReports : (ops : Program → (Side → Order) → StateOps S) → Type 0
  ClosedReports ops =
      (p : Program) (ord : Side → Order) → IsTrue (is_well_formed p) → TypesHaveBytes p.types → AreOther ord
      → (u limit : ℕ) → 2 ≤ limit
      → IsClosed p (ord left) (ord right) u → IsSteady p (ord left) (ord right) → report_of
      (ops p ord) u limit ord p ≡ []
