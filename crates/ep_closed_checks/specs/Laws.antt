-- What the checker answers on closed programs.
use Rattle.std.specs.Prelude.{◌≡◌, ℕ, ◌-◌, ◌≤◌, [], IsTrue}
use Rattle.ep_int.specs.declared.types.Order.{Order}
use Rattle.ep_core.specs.Program.{Program}
use Rattle.ep_core.specs.Runs.{Side, left, right}
use Rattle.ep_core.specs.WellFormed.{is_well_formed}
use Rattle.ep_pass.specs.Laws.{AreOther}
use Rattle.ep_pass.specs.ReportLaws.{Operations}
use Rattle.ep_kinds.specs.Steady.{IsClosed, IsSteady}
use Rattle.ep_closed_laws.specs.Laws.{TypesHaveBytes}
use Rattle.ep_certcheck_laws.specs.Checked.{checked, yes}

-- Where one turn more is unrolled than the loops of a closed and steady program take, no state is left for a head, and
-- the answer is yes without any.
abbrev pub ClosedProgramsPass : (S : Type 0) → Operations S → Type 0
ClosedProgramsPass S ops =
    (p : Program) (ord : Side → Order) → IsTrue (is_well_formed p) → TypesHaveBytes p.types → AreOther ord
    → (first_outside : S → S → ℕ) (u : ℕ) → 1 ≤ u → IsClosed p (ord left) (ord right) (u - 1)
    → IsSteady p (ord left) (ord right) → checked (ops p ord) first_outside u [] ord p ≡ yes
