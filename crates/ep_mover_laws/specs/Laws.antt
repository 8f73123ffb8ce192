-- What holds of the reports on movers.
use Rattle.std.specs.Prelude.{◌≡◌, ℕ, List, [], Ok, IsTrue}
use Rattle.ep_int.specs.declared.types.Order.{Order}
use Rattle.ep_int.specs.Memory.{Memory}
use Rattle.ep_core.specs.Program.{Program}
use Rattle.ep_core.specs.Runs.{Side, left, right, Agree}
use Rattle.ep_core.specs.WellFormed.{is_well_formed}
use Rattle.ep_pass.specs.States.{StateOps}
use Rattle.ep_pass.specs.Laws.{AreOther}
use Rattle.ep_pass.specs.Pass.{report_of}
use Rattle.ep_movers.specs.Symbols.{Symbol}
use Rattle.ep_movers.specs.Movers.{Machine, outputs_on, is_mover_text}
use Rattle.ep_movers.specs.Forms.{has_moving_form}
use Rattle.ep_mover_laws.specs.Moving.{KeepsMoved}

-- with states of this type, for each program and each two byte orders
module _ (S : Type 0) where
  -- The operations keep what is known of movers.
  abbrev pub KeepAllMoved : (ops : Program → (Side → Order) → StateOps S)
      → (Concretises : Program → (Side → Order) → S → Memory → Memory → Type 0)
      → (Moved : Program → (Side → Order) → (Side → Machine) → S → Type 0) → Type 0
  KeepAllMoved ops Concretises Moved =
      (p : Program) (ord : Side → Order) → IsTrue (is_well_formed p) → IsTrue (has_moving_form p) → AreOther ord
      → KeepsMoved p ord (ops p ord) (Concretises p ord) (Moved p ord)

  -- The report on a program of a mover's form is empty, where both machines put out the same symbols.
  abbrev pub SameSymbolsReportNothing : (ops : Program → (Side → Order) → StateOps S) → Type 0
  SameSymbolsReportNothing ops =
      (p : Program) (ord : Side → Order) → IsTrue (is_well_formed p) → IsTrue (has_moving_form p) → AreOther ord
      → (os : List (List Symbol)) → outputs_on (ord left) p ≡ Ok os → outputs_on (ord right) p ≡ Ok os
      → (u limit : ℕ) → report_of (ops p ord) u limit ord p ≡ []

  -- The report on a mover is empty where its machines agree, however many turns are unrolled and heads are tried.
  abbrev pub AgreeingMoversReportNothing : (ops : Program → (Side → Order) → StateOps S) → Type 0
  AgreeingMoversReportNothing ops =
      (p : Program) (ord : Side → Order) → IsTrue (is_well_formed p)
      → IsTrue (is_mover_text p (ord left) (ord right)) → AreOther ord → Agree p (ord left) (ord right)
      → (u limit : ℕ) → report_of (ops p ord) u limit ord p ≡ []
