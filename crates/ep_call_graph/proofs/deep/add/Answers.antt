use Rattle.ep_call_graph.proofs.DepthLemmas.{calling_more}
use Rattle.ep_call_graph.proofs.deep.add.Goals as goal

pub returns-in-Some-clause-deeper : goal.returns-in-Some-clause-deeper
returns-in-Some-clause-deeper c =
    calling_more c.list.result c.args.place c.args.groups.now.deepest.items c.args.groups.now.calling.items c.list.new.calling.items c.list.ensures.added
