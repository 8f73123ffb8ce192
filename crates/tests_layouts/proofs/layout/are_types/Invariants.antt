use Rattle.std.proofs.Common.{◌≡◌, true, take}
use Rattle.std.specs.List.{list_all}
use Rattle.ep_layout.specs.Table.{is_type}
use Rattle.tests_layouts.proofs.layout.are_types.Given as goal

abbrev pub invariant-loop-member : goal.invariant-loop-member
invariant-loop-member l = list_all (λ m. is_type l.types m.1) (take l.member-index l.members) ≡ true
