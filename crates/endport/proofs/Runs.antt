-- The status of a run goes with its text.
use Rattle.std.proofs.Common.{◌≡◌, ℕ, List, refl, sym, ◌∙◌, ap, subst, Result, Ok, Err, IfOk}
use Rattle.ep_int.specs.declared.types.Model.{Model}
use Rattle.ep_ast.specs.declared.refusals.Refusal.{Refusal}
use Rattle.ep_core.specs.declared.program.CoreProgram.{CoreProgram}
use Rattle.ep_core.specs.ProgramView.{program_view}
use Rattle.ep_core.specs.Program.{Program}
use Rattle.ep_core.specs.Runs as runs
use Rattle.ep_core.specs.Runs.{run}
use Rattle.ep_concrete.specs.Text.{run_text_of}
use Rattle.ep_source.specs.Source.{Means, Offends}
use Rattle.endport.specs.Jobs as jobs
use Rattle.endport.specs.Jobs.{Asked, IsRun, MeansOnly, status_of}
use Rattle.endport.specs.declared.jobs.Job.{Job}
use Rattle.endport.specs.declared.status.Status.{Status}
use Rattle.endport.specs.declared.status.Status.TheVariants.{Done, StepsUsedUp, Undefined, InputEnded}

run_with : (a : Asked) (source : List ℕ) (p : Program) (e : runs.Ending) (text : List ℕ) → MeansOnly a.model source p
    → (run p a.order a.inputs a.steps).ending ≡ e → text ≡ run_text_of (run p a.order a.inputs a.steps)
    → IsRun a source (status_of e) text
run_with a source p runs.still_running text m e t =
    record { program = p; means = m; text_is = t; status_is = ap status_of (sym e) }
run_with a source p runs.ended text m e t =
    record { program = p; means = m; text_is = t; status_is = ap status_of (sym e) }
run_with a source p runs.wants_input text m e t =
    record { program = p; means = m; text_is = t; status_is = ap status_of (sym e) }
run_with a source p (runs.undefined_on l k) text m e t =
    record { program = p; means = m; text_is = t; status_is = ap status_of (sym e) }

pub ran : {E : Type 0} (a : Asked) (source : List ℕ) (p : Program) (r : Result Job E) → MeansOnly a.model source p
    → IfOk r (λ j. j.status ≡ status_of (run p a.order a.inputs a.steps).ending)
    → IfOk r (λ j. j.text.items ≡ run_text_of (run p a.order a.inputs a.steps))
    → IfOk r (λ j. IsRun a source j.status j.text.items)
ran a source p (Ok j) m s t = rw s (run_with a source p _ j.text.items m refl t)
ran a source p (Err e) m s t = tt

-- a source that is read means its program and no other
pub only_of : {E : Type 0} (m : Model) (source : List ℕ) (r : Result CoreProgram E) (p : CoreProgram) → r ≡ Ok p
    → IfOk r (λ q. Means m source (program_view q))
    → IfOk r (λ q. (s : Program) → Means m source s → s ≡ program_view q)
    → IfOk r (λ _. (f : Refusal) → Offends m source f → ⊥) → MeansOnly m source (program_view p)
only_of {E = E} m source r p e a b c = record {
  means = subst (λ (t : Result CoreProgram E). IfOk t (λ q. Means m source (program_view q))) e a;
  only = subst (λ (t : Result CoreProgram E). IfOk t (λ q. (s : Program) → Means m source s → s ≡ program_view q)) e b;
  faultless = subst (λ (t : Result CoreProgram E). IfOk t (λ _. (f : Refusal) → Offends m source f → ⊥)) e c;
}
