use Rattle.std.proofs.Common.{ap, subst}
use Rattle.ep_cells.specs.Cells.{IsIn}
use Rattle.ep_cells.proofs.Both.{only_one}
use Rattle.ep_shared_parts.specs.Spread.{all_items}
use Rattle.ep_states.proofs.state.State.leq.Goals as goal

pub are_within-requires-clause-distinct : goal.are_within-requires-clause-distinct
are_within-requires-clause-distinct g c = λ x y h k a.
    only_one c.self.inside.model x y (all_items c.self.inside.parts.cells.items) c.self.invariant.cells.pairs
    (subst (IsIn x) (ap all_items c.deref.ensures.value) h) (subst (IsIn y) (ap all_items c.deref.ensures.value) k) a
