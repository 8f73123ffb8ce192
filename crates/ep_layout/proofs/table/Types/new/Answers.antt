use Rattle.ep_layout.proofs.Keeping.{kept_start}
use Rattle.ep_layout.proofs.table.Types.new.Goals as goal

pub invariant_of-result : goal.invariant_of-result
invariant_of-result c = kept_start _ c.new.ensures c.new-2.ensures.items c.new-3.ensures.items c.new-4.ensures.items
