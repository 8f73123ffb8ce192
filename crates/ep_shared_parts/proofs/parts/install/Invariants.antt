use Rattle.std.proofs.Common.{◌≡◌, length}
use Rattle.std.specs.Vec.Iter.{into_iter_items}
use Rattle.ep_shared_parts.specs.Spread.{installed, AreWithin}
use Rattle.ep_shared_parts.proofs.parts.install.Given as goal

abbrev pub invariant-loop-edit : goal.invariant-loop-edit
invariant-loop-edit g l = record {
  rest : installed (into_iter_items l.edit-iterator) l.parts.items ≡ installed l.fn.edits.items l.fn.parts.items;
  within : AreWithin (length l.parts.items) (into_iter_items l.edit-iterator);
}
