use Rattle.ep_bits.proofs.known_bits.KnownBits.met.Goals as goal

pub returns : goal.returns
returns c = rw (← c.self.view_is, ← c.o.view_is) c.formed.ensures
