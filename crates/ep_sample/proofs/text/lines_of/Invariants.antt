use Rattle.std.proofs.Common.{◌≡◌, ◌+◌, ◌≤◌, drop}
use Rattle.ep_sample.specs.Text.{lines_of}
use Rattle.ep_sample.proofs.text.lines_of.Given as goal

abbrev pub invariant-loop-b : goal.invariant-loop-b
invariant-loop-b l = (l.lines ≤ l.b-index) × (l.lines + lines_of (drop l.b-index l.source) ≡ lines_of l.source)
