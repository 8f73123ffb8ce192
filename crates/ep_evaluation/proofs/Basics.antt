-- Lemmas that several crates cite.
use Rattle.std.proofs.Common.{◌≡◌, true, [], None, refl, ap, ◌∙◌}
use Rattle.ep_alarms.specs.declared.types.AlarmKind.{AlarmKind}
use Rattle.ep_core.specs.Runs.{Side, left, right}
use Rattle.ep_equalities.specs.declared.pair.Mode.{Mode}
use Rattle.ep_equalities.specs.declared.pair.Mode.TheVariants.{Both, Left, Right}
use Rattle.ep_evaluation.specs.Given.{runs, Shown, fault_of, faults_on}

pub faults_on-none : (mode : Mode) (k : AlarmKind) (f : Side → Shown) → ((s : Side) → runs mode s ≡ true → f s ≡ None)
    → faults_on mode k f ≡ []
faults_on-none Both k f h =
    ap (λ a. fault_of k a (f right)) (h left refl) ∙ ap (λ b. fault_of k None b) (h right refl)
faults_on-none Left k f h = ap (λ a. fault_of k a None) (h left refl)
faults_on-none Right k f h = ap (λ b. fault_of k None b) (h right refl)
