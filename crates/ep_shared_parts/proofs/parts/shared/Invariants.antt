use Rattle.std.proofs.Common.{◌≡◌, ◌++◌, drop}
use Rattle.ep_shared_parts.specs.Spread.{outlines, all_items}
use Rattle.ep_shared_parts.proofs.parts.shared.Given as goal

abbrev pub invariant-loop-part : goal.invariant-loop-part
invariant-loop-part g l = record {
  outlines : outlines g.T.Numbered.number l.out.items ++ outlines g.T.Numbered.number (drop l.part-index l.parts) ≡
      outlines g.T.Numbered.number l.parts;
  items : all_items l.out.items ++ all_items (drop l.part-index l.parts) ≡ all_items l.parts;
}
