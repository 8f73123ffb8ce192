use Rattle.ep_call_graph.proofs.Steps.{goes_goes}
use Rattle.ep_call_graph.proofs.cycles.Search.search.Goals as goal

pub loop-turn-preserved : goal.loop-turn-preserved
loop-turn-preserved c = record {
  stands = c.in_ok-turn.ensures.stands;
  goes_on = goes_goes c.args.self.now c.loop-turn.self c.turn.new.self c.loop-turn.invariant.goes_on c.in_ok-turn.ensures.goes_on;
  no_more_new = λ h. c.loop-turn.invariant.no_more_new (c.in_ok-turn.ensures.goes_on.1 c.args.f h);
}
