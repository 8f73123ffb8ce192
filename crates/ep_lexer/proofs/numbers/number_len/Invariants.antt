use Rattle.std.proofs.Common.{◌≡◌, ◌+◌, ◌-◌, ◌≤◌, length, drop}
use Rattle.ep_ast.specs.Lexeme.{number_len}
use Rattle.ep_lexer.proofs.numbers.number_len.Given as goal

abbrev pub invariant-loop-end : goal.invariant-loop-end
invariant-loop-end l = (l.end + number_len l.before (drop l.end l.bytes) ≡ number_len l.first l.bytes)
    × (l.end ≤ length l.bytes)

abbrev pub decreases-loop-end : goal.decreases-loop-end
decreases-loop-end l = length l.bytes - l.end
