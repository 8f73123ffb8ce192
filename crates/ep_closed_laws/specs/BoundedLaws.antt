-- What holds of runs in which turns alone are counted.
use Rattle.std.specs.Prelude.{◌≡◌, ◌⊎◌, ℕ, true, List, IsTrue}
use Rattle.ep_int.specs.declared.types.Order.{Order}
use Rattle.ep_core.specs.Program.{Program}
use Rattle.ep_core.specs.Runs.{ended}
use Rattle.ep_core.specs.WellFormed.{is_well_formed}
use Rattle.ep_kinds.specs.Steady.{is_quiet, TakesTurns, EndsSteadily}
use Rattle.ep_closed_laws.specs.Bounded.{run_in}

-- Where no visit of a loop makes more than u turns both runs are over, with equal outputs; and besides their joint
-- tests are equal, or the program is quiet.
pub record EndsAlike (p : Program) (a b : Order) (u : ℕ) (inputs : List ℕ) : Type 0 where
  pub left_over : (run_in a p u inputs).ending ≡ ended
  pub right_over : (run_in b p u inputs).ending ≡ ended
  pub outputs : (run_in a p u inputs).outputs ≡ (run_in b p u inputs).outputs
  pub tests : ((run_in a p u inputs).joint_tests ≡ (run_in b p u inputs).joint_tests) ⊎ (is_quiet p ≡ true)

-- Runs by steps that end steadily and take no more than u turns are those in which the turns alone are counted.
abbrev pub RunsAreBounded : Type 0
RunsAreBounded =
    (p : Program) → IsTrue (is_well_formed p) → (a b : Order) (u : ℕ) (inputs : List ℕ) → TakesTurns p a u inputs
    → TakesTurns p b u inputs → EndsSteadily p a b inputs → EndsAlike p a b u inputs
