use Rattle.ep_call_graph.specs.View.{listed}
use Rattle.ep_call_graph.proofs.Lists.{a_call, no_call}
use Rattle.ep_call_graph.proofs.places.add_call.Goals as goal

pub returns-in-None-clause-added : goal.returns-in-None-clause-added
returns-in-None-clause-added c = λ f. no_call c.args.place (listed c.args.lists.now.items f) f c.in-None.is

pub returns-in-Some-clause-added : goal.returns-in-Some-clause-added
returns-in-Some-clause-added c =
    a_call c.add.result c.args.place c.in-Some.callee (listed c.args.lists.now.items) (listed c.add.new.lists.items) c.in-Some.is c.add.ensures.added
