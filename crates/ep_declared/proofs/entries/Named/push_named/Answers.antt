use Rattle.std.proofs.Common.{◌∙◌, ap, sym}
use Rattle.ep_layout.proofs.Results.{if_ok}
use Rattle.ep_elaboration.specs.Aggregates as rule
use Rattle.ep_declared.proofs.EntryLemmas.{named_put}
use Rattle.ep_declared.proofs.entries.Named.push_named.Goals as goal

pub invariant_of-self-else-is_err : goal.invariant_of-self-else-is_err
invariant_of-self-else-is_err c =
    let keys = if_ok c.insert.result _ (sym c.is_err.ensures.value ∙ c.if-is_err.false) c.insert.ensures.keys in
    rw c.in_ok-push.ensures.items (named_put c.self.inside.entries.items c.args.one c.self.inside.names.keys
    c.self.invariant c.requires.fits c.args.name c.insert.new.self.keys
    (ap (rule.is_declared c.args.name.items) c.self.view_is ∙ c.requires.free) c.requires.named keys)
