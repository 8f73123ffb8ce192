use Rattle.std.proofs.Common.{◌≡◌, map, length}
use Rattle.ep_lexer.specs.Tokens.{view}
use Rattle.ep_decls.specs.Look.{begins_head}
use Rattle.ep_decls.proofs.look.behind_stars.Given as goal

abbrev pub invariant-stars : goal.invariant-stars
invariant-stars l = begins_head (map view l.rest) ≡ begins_head (map view l.tokens)

abbrev pub decreases-stars : goal.decreases-stars
decreases-stars l = length l.rest
