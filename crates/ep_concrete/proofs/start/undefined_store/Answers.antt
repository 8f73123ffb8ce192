use Rattle.std.proofs.Common.{◌∙◌}
use Rattle.ep_concrete.proofs.Firsts.{new_laid}
use Rattle.ep_concrete.proofs.start.undefined_store.Goals as goal

pub returns-clause-laid : goal.returns-clause-laid
returns-clause-laid c =
    new_laid c.args.on.now c.in_ok-store.store c.args.sizes.now c.requires
    (c.in_ok-store.ensures.model ∙ c.model.ensures.model) c.in_ok-store.ensures.count c.in_ok-store.ensures.sizes
