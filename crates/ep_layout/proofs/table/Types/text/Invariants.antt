use Rattle.std.proofs.Common.{◌≡◌, take, flat_map}
use Rattle.ep_layout.specs.Text.{aggregate_text}
use Rattle.ep_layout.proofs.table.Types.text.Given as goal

abbrev pub invariant-loop-aggregate : goal.invariant-loop-aggregate
invariant-loop-aggregate l = l.text.items ≡ flat_map (aggregate_text l.self) (take l.aggregate-index l.aggregate-items)
