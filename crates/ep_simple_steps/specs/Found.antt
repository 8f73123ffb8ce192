-- A place that is found on the way.
use Rattle.std.specs.Prelude.{ℕ, Result, Ok, Err}
use Rattle.ep_core.specs.Exec.{State, Outcome, undefined_at}
use Rattle.ep_machine.specs.declared.fault.Fault.{Fault}
use Rattle.ep_machine.specs.Faults.{kind_of}

-- what comes where a place was found, or was a fault
abbrev pub at_found : Result (ℕ × ℕ) Fault → (line : ℕ) → State → (ℕ → ℕ → Outcome) → Outcome
at_found (Ok x) l s go = go x.0 x.1
at_found (Err k) l s go = undefined_at l (kind_of k) s
