use Rattle.std.proofs.Common.{◌≤◌, ◌+◌, length, map}
use Rattle.ep_lexer.specs.Tokens.{view}
use Rattle.ep_type_names.proofs.StarLemmas.{ConstsSo}
use Rattle.ep_type_names.proofs.words.consts.Given as goal

abbrev pub invariant-loop-more : goal.invariant-loop-more
invariant-loop-more l = ConstsSo (map view l.tokens) l.count (map view l.rest)
    × (l.count + length l.rest ≤ length l.tokens)

abbrev pub decreases-loop-more : goal.decreases-loop-more
decreases-loop-more l = length l.rest
