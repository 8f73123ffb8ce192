use Rattle.std.proofs.Common.{sym, ◌∙◌}
use Rattle.ep_layout.specs.Views.{members_view}
use Rattle.ep_given.proofs.MemberLemmas.{of_struct, of_union}
use Rattle.ep_given.proofs.parts.given_member.Goals as goal

pub returns-then-is_union : goal.returns-then-is_union
returns-then-is_union c =
    of_union c.args.types.now c.args.aggregate c.args.number (members_view c.members_of-members.result.now) _
    (sym c.is_union.ensures ∙ c.if-is_union.true) c.members_of-members.ensures c.first_member.ensures

pub returns : goal.returns
returns c =
    of_struct c.args.types.now c.args.aggregate c.args.number (members_view c.members_of-members.result.now) _
    (sym c.is_union.ensures ∙ c.if-is_union.false) c.members_of-members.ensures c.member_at.ensures
