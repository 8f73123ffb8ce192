use Rattle.std.proofs.Common.{◌∙◌}
use Rattle.ep_layout.specs.Views.{members_view}
use Rattle.ep_given.proofs.MemberLemmas.{only_first, the_first}
use Rattle.ep_given.proofs.parts.first_member.Goals as goal

pub returns-then-number-gt0 : goal.returns-then-number-gt0
returns-then-number-gt0 c = only_first (members_view c.args.members.now) c.args.number c.if-number-gt0.true

pub returns : goal.returns
returns c = c.member_at.ensures ∙ the_first (members_view c.args.members.now) c.args.number c.if-number-gt0.false
