use Rattle.ep_declared.proofs.EntryLemmas.{plain_put}
use Rattle.ep_declared.proofs.entries.Named.push.Goals as goal

pub invariant_of-self-2 : goal.invariant_of-self-2
invariant_of-self-2 c =
    rw c.in_ok-push.ensures.items (plain_put c.self.inside.entries.items c.args.one c.self.inside.names.keys
    c.self.invariant c.requires.fits c.requires.unnamed)
