use Rattle.std.proofs.Common.{◌≡◌, ◌≤◌, drop, map}
use Rattle.ep_ast.specs.Nesting as spec
use Rattle.ep_lexer.specs.Tokens.{view}
use Rattle.ep_reading.proofs.brackets.opens_past.Given as goal

abbrev pub invariant-loop-token : goal.invariant-loop-token
invariant-loop-token l = (spec.opens_past l.count (map view (drop l.token-index l.tokens)) ≡ spec.opens_past 0
    (map view l.tokens)) × (l.count ≤ 64)
