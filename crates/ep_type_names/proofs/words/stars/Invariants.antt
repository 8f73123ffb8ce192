use Rattle.std.proofs.Common.{◌≤◌, length, map}
use Rattle.ep_lexer.specs.Tokens.{view}
use Rattle.ep_type_names.proofs.StarLemmas.{StarsSo}
use Rattle.ep_type_names.proofs.words.stars.Given as goal

abbrev pub invariant-stars : goal.invariant-stars
invariant-stars l = StarsSo (map view l.tokens) l.found.items (map view l.rest) × (length l.rest ≤ length l.tokens)

abbrev pub decreases-stars : goal.decreases-stars
decreases-stars l = length l.rest
