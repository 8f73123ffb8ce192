use Rattle.std.proofs.Common.{◌≡◌, ℕ, ◌+◌, ◌-◌, length}
use Rattle.ep_typer_functions.specs.View.{has_body}
use Rattle.ep_typer_functions.proofs.done.Done.add.Given as goal

abbrev pub decreases-loop-self : goal.decreases-loop-self
decreases-loop-self l = l.number + 1 - length l.self.marks.items

abbrev pub invariant-loop-self : goal.invariant-loop-self
invariant-loop-self l = (n : ℕ) → has_body l.self n ≡ has_body l.fn.self n
