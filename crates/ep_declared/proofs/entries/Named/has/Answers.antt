use Rattle.std.proofs.Common.{◌∙◌, ap}
use Rattle.ep_elaboration.specs.Aggregates.{is_declared}
use Rattle.ep_declared.proofs.entries.Named.has.Goals as goal

pub returns : goal.returns
returns c =
    c.contains.ensures ∙ c.self.invariant.same c.args.name.now ∙ ap (is_declared c.args.name.now) c.self.view_is
