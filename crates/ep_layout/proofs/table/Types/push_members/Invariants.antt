use Rattle.std.proofs.Common.{◌≡◌, ◌++◌, take}
use Rattle.ep_layout.specs.Text.{members_text}
use Rattle.ep_layout.specs.Views.{members_view}
use Rattle.ep_layout.proofs.table.Types.push_members.Given as goal

abbrev pub invariant-loop-member : goal.invariant-loop-member
invariant-loop-member l = l.text.items ≡ l.fn.text.items ++ members_text l.self (members_view (take l.member-index l.members))
