-- What a yes of the checker means, whatever is kept of a state.
use Rattle.std.specs.Prelude.{◌≡◌, ℕ, List, IsTrue}
use Rattle.ep_int.specs.declared.types.Order.{Order}
use Rattle.ep_core.specs.Program.{Program}
use Rattle.ep_core.specs.Runs.{Side, left, right}
use Rattle.ep_core.specs.WellFormed.{is_well_formed}
use Rattle.ep_pass.specs.Laws.{AreOther}
use Rattle.ep_pass.specs.Agreement.{AgreeInTheEnd}
use Rattle.ep_pass.specs.ReportLaws.{Operations}
use Rattle.ep_certcheck_laws.specs.Checked.{checked, yes}

-- Where the answer on a well-formed program is yes, the machines of the two byte orders agree on it, whatever the heads
-- are and however many turns are unrolled.
abbrev pub CheckedProgramsAgree : (S : Type 0) → Operations S → Type 0
CheckedProgramsAgree S ops =
    (p : Program) (ord : Side → Order) → IsTrue (is_well_formed p) → AreOther ord → (first_outside : S → S → ℕ) (u : ℕ)
    (hs : List S) → checked (ops p ord) first_outside u hs ord p ≡ yes → AgreeInTheEnd p (ord left) (ord right)
