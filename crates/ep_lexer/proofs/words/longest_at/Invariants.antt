use Rattle.std.proofs.Common.{◌≡◌, ◌+◌, drop, nat_eq}
use Rattle.std.specs.List.{position_from, starts_with}
use Rattle.ep_ast.specs.Token.{marks}
use Rattle.ep_lexer.proofs.words.longest_at.Given as goal

abbrev pub invariant-loop-at : goal.invariant-loop-at
invariant-loop-at l = position_from (λ m. starts_with nat_eq l.bytes m) (l.at + 1) (drop l.at marks) ≡ position_from
    (λ m. starts_with nat_eq l.bytes m) 1 marks
