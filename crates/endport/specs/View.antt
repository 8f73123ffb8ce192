-- What is asked of a run, as the definition has it.
use Rattle.std.specs.Prelude.{ℕ, List}
use Rattle.endport.specs.declared.jobs.RunAsked.{RunAsked}
use Rattle.endport.specs.Jobs.{Asked}

abbrev pub asked_for : RunAsked → (inputs : List ℕ) → Asked
asked_for a inputs = record { model = a.model; order = a.order; steps = a.steps; inputs = inputs }
