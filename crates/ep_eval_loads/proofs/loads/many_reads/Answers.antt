use Rattle.std.proofs.Common.{◌∙◌, map, sym, subst}
use Rattle.ep_eval_loads.specs.Near.{AreOf}
use Rattle.ep_eval_loads.proofs.AtHand.{at_hand}
use Rattle.ep_eval_loads.proofs.LoadSteps.{no_form}
use Rattle.ep_eval_loads.proofs.loads.many_reads.Goals as goal

pub with_read-requires : goal.with_read-requires
with_read-requires g c =
    at_hand (λ r. r.now) (λ r. r.now) c.deref.result.now c.in_ok-near.near.at c.args.state.now.cells c.get.result
    _ _ c.get.ensures.lookup.1 c.get.ensures.lookup.3
    (subst (λ rs. AreOf (map (λ r. r.now) rs) c.args.state.now.cells) (sym c.deref.ensures.value) c.in_ok-near.ensures)

pub returns-clause-form : goal.returns-clause-form
returns-clause-form g c =
    c.loop-i.invariant.form ∙ no_form g.N.Num.ops c.args.state.now c.args.side c.args.what c.args.spots.now c.requires
