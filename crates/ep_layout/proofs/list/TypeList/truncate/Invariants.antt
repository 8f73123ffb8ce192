use Rattle.std.proofs.Common.{◌≡◌, ◌+◌, ◌-◌, length, take}
use Rattle.ep_layout.specs.Pointers.{ArePointersBack}
use Rattle.ep_layout.proofs.list.TypeList.truncate.Given as goal

abbrev pub invariant-loop : goal.invariant-loop
invariant-loop l = record {
  left : l.self ≡ take (l.fn.count + (length l.fn.self - l.counter)) l.fn.self;
  back : ArePointersBack l.self;
}
