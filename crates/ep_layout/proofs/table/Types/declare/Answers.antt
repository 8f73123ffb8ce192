use Rattle.std.proofs.Common.{◌<◌, ◌^◌, ◌∙◌, sym, subst, length}
use Rattle.std.proofs.lemmas.List.{length-map}
use Rattle.ep_layout.specs.Table.{Table}
use Rattle.ep_layout.specs.TableInvariant.{entry_view}
use Rattle.ep_layout.proofs.KeptGrowth.{kept_declared}
use Rattle.ep_layout.proofs.Results.{is_ok_there, chosen}
use Rattle.ep_layout.proofs.table.Types.declare.Goals as goal

pub invariant_of-self-2 : goal.invariant_of-self-2
invariant_of-self-2 c =
    let s = c.self.inside in
    let few = subst (λ (t : Table). length t.aggregates < 2 ^ 31) (sym c.self.view_is) c.requires.few in
    let pushed = chosen _ _ _ _ (is_ok_there c.push.result (sym c.is_err.ensures.value ∙ c.if-is_err.false)) c.push.ensures.items in
    kept_declared s c.push.new.self c.args.tag c.args.is_union c.self.invariant (rw (length-map s.aggregates.items entry_view) at few) pushed
