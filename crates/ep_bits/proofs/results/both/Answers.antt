use Rattle.ep_bits.proofs.results.both.Goals as goal

pub returns : goal.returns
returns c = rw (← c.x.view_is, ← c.y.view_is) c.formed.ensures
