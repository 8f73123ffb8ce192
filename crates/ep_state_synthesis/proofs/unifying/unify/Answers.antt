use Rattle.ep_state_synthesis.proofs.Both.{first_stays, others_stay}
use Rattle.ep_state_synthesis.proofs.unifying.unify.Goals as goal

pub returns-clause-first_holds : goal.returns-clause-first_holds
returns-clause-first_holds g c =
    first_stays g.N.Num.ops c.args.a.now c.args.b.now c.in_ok-after.after.left c.unify_laws.ensures (record {
      orders = c.requires.orders;
      model = c.requires.model;
      first = c.model.ensures.cells;
      second = c.model-2.ensures.cells;
    }) c.in_ok-after.ensures.left

pub returns-clause-second_holds : goal.returns-clause-second_holds
returns-clause-second_holds g c =
    others_stay g.N.Num.ops c.args.a.now c.args.b.now c.in_ok-after.after.right c.unify_laws.ensures (record {
      orders = c.requires.orders;
      model = c.requires.model;
      first = c.model.ensures.cells;
      second = c.model-2.ensures.cells;
    }) c.in_ok-after.ensures.right
