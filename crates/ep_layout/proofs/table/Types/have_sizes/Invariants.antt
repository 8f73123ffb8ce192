use Rattle.std.proofs.Common.{◌≡◌, true, is_some, take}
use Rattle.std.specs.List.{list_all}
use Rattle.ep_layout.specs.Table as table
use Rattle.ep_layout.proofs.table.Types.have_sizes.Given as goal

abbrev pub invariant-loop-member : goal.invariant-loop-member
invariant-loop-member l = list_all (λ m. is_some (table.layout_of l.self m.1)) (take l.member-index l.members) ≡ true
