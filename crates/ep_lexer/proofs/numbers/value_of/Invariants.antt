use Rattle.std.proofs.Common.{◌≡◌, length}
use Rattle.ep_ast.specs.Lexeme.{value_of}
use Rattle.ep_lexer.proofs.Values.{value_from}
use Rattle.ep_lexer.proofs.numbers.value_of.Given as goal

abbrev pub invariant-loop-rest : goal.invariant-loop-rest
invariant-loop-rest l = value_from l.base l.n l.rest ≡ value_of l.base l.digits

abbrev pub decreases-loop-rest : goal.decreases-loop-rest
decreases-loop-rest l = length l.rest
