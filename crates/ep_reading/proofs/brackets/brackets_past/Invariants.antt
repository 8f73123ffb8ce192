use Rattle.std.proofs.Common.{◌≡◌, ◌≤◌, drop, map}
use Rattle.ep_ast.specs.Depth as depth
use Rattle.ep_lexer.specs.Tokens.{view}
use Rattle.ep_reading.proofs.brackets.brackets_past.Given as goal

abbrev pub invariant-loop-token : goal.invariant-loop-token
invariant-loop-token l = (depth.brackets_past l.count (map view (drop l.token-index l.tokens)) ≡ depth.brackets_past 0
    (map view l.tokens)) × (l.count ≤ 64)
