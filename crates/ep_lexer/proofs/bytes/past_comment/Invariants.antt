use Rattle.std.proofs.Common.{◌≡◌, ◌+◌, ◌≤◌, length}
use Rattle.ep_ast.specs.Lexeme.{past_comment}
use Rattle.ep_lexer.proofs.bytes.past_comment.Given as goal

abbrev pub invariant-loop-rest : goal.invariant-loop-rest
invariant-loop-rest l = (past_comment l.at l.rest ≡ past_comment l.line l.bytes)
    × (l.at + length l.rest ≤ l.line + length l.bytes) × (length l.rest ≤ length l.bytes)

abbrev pub decreases-loop-rest : goal.decreases-loop-rest
decreases-loop-rest l = length l.rest
