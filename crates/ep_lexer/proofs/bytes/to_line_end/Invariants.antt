use Rattle.std.proofs.Common.{◌≡◌, ◌≤◌, length}
use Rattle.ep_ast.specs.Lexeme.{to_line_end}
use Rattle.ep_lexer.proofs.bytes.to_line_end.Given as goal

abbrev pub invariant-loop-rest : goal.invariant-loop-rest
invariant-loop-rest l = (to_line_end l.rest ≡ to_line_end l.bytes) × (length l.rest ≤ length l.bytes)

abbrev pub decreases-loop-rest : goal.decreases-loop-rest
decreases-loop-rest l = length l.rest
