use Rattle.std.proofs.Common.{◌≡◌, ◌<◌, ◌≤◌, ◌+◌, ◌*◌, length, map, List, true, false}
use Rattle.ep_ast.specs.Declaration.{Spec, Member}
use Rattle.ep_ast.specs.TypeWords.{fits}
use Rattle.ep_lexer.specs.Tokens.{view}
use Rattle.ep_reading.specs.Names.{is_type}
use Rattle.ep_type_names.specs.Words.{bag}
use Rattle.ep_declarations.specs.Answer.{context, ShowsSpecs, ShowsMembers}
use Rattle.ep_declarations.specs.SpecAhead.{are_none}
use Rattle.ep_declarations.proofs.SpecLemmas.{SpecsSo}
use Rattle.ep_declarations.proofs.MemberLemmas.{MembersSo}
use Rattle.ep_declarations.proofs.specs.+specs.Given as goal

abbrev pub decreases-next_word : goal.decreases-next_word
decreases-next_word l = 4 * length l.tokens.now

abbrev pub decreases-spec_list : goal.decreases-spec_list
decreases-spec_list l = 4 * length l.tokens.now + 1

abbrev pub decreases-one_member : goal.decreases-one_member
decreases-one_member l = 4 * length l.tokens.now + 2

abbrev pub decreases-members : goal.decreases-members
decreases-members l = 4 * length l.tokens.now + 3

abbrev pub invariant-members-members : goal.invariant-members-members
invariant-members-members l =
    ((ms : List Member) × ShowsMembers l.found ms × MembersSo (is_type l.reader.names.now) (map view l.tokens) ms
    (map view l.rest)) × (length l.rest ≤ length l.tokens)

abbrev pub decreases-members-members : goal.decreases-members-members
decreases-members-members l = length l.rest

abbrev pub invariant-spec_list-words : goal.invariant-spec_list-words
invariant-spec_list-words l =
    ((ss : List Spec) × ShowsSpecs l.found ss × (l.is_first ≡ are_none ss) × SpecsSo (is_type l.reader.names.now)
    (context l.context) (map view l.tokens) ss (bag l.bag) (map view l.rest)) × (fits (bag l.bag) ≡ true)
    × (length l.rest ≤ length l.tokens) × (l.is_first ≡ false → length l.rest < length l.tokens)

abbrev pub decreases-spec_list-words : goal.decreases-spec_list-words
decreases-spec_list-words l = length l.rest
