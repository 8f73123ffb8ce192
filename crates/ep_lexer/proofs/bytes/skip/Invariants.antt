use Rattle.std.proofs.Common.{◌≡◌, ◌+◌, ◌≤◌, length}
use Rattle.ep_lexer.specs.Step.{skip, plain}
use Rattle.ep_lexer.proofs.bytes.skip.Given as goal

abbrev pub invariant-loop-rest : goal.invariant-loop-rest
invariant-loop-rest l = (skip plain l.at l.rest ≡ skip plain l.line l.bytes)
    × (l.at + length l.rest ≤ l.line + length l.bytes) × (length l.rest ≤ length l.bytes)

abbrev pub decreases-loop-rest : goal.decreases-loop-rest
decreases-loop-rest l = length l.rest
