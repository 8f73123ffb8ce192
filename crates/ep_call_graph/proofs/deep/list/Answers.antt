use Rattle.std.proofs.Common.{◌<◌, length, arith}
use Rattle.ep_call_graph.proofs.Lists.{added_to}
use Rattle.ep_call_graph.proofs.deep.list.Goals as goal

pub returns-clause-added : goal.returns-clause-added
returns-clause-added c =
    let l : c.args.place.caller < length c.args.calling.now.items = omega (arith, c.requires) in
    λ f. added_to c.args.calling.now.items c.args.place.caller f c.args.place c.index_mut-list.result.now c.push.new.self l c.index_mut-list.ensures.value c.in_ok-push.ensures.items
