use Rattle.ep_state_steps.proofs.Cuts.{all_have, split_are}
use Rattle.ep_state_steps.proofs.splitting.split_all.Goals as goal

pub split_each-requires-clause-have : goal.split_each-requires-clause-have
split_each-requires-clause-have g c =
    all_have c.args.state.model c.args.p c.args.state.cells c.in_ok-xs.xs.items _ c.deref.ensures.value
    c.in_ok-xs.ensures

pub returns : goal.returns
returns g c =
    split_are g.N.Num.ops c.args.state c.in_ok-after.after c.args.p c.in_ok-xs.xs.items _ c.deref.ensures.value
    c.in_ok-xs.ensures c.in_ok-after.ensures
