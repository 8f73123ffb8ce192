use Rattle.std.proofs.Common.{take}
use Rattle.ep_layout.specs.Places.{ArePlaces}
use Rattle.ep_layout.proofs.members.MemberList.new.Given as goal

abbrev pub invariant-loop-place : goal.invariant-loop-place
invariant-loop-place l = ArePlaces (take l.place l.member-items) l.places.entries
