use Rattle.ep_state_steps.proofs.ByTurns.{turned_by}
use Rattle.ep_state_steps.proofs.turns.turn.Goals as goal

pub returns-clause-turned : goal.returns-clause-turned
returns-clause-turned g c =
    turned_by c.args.now.left c.args.now.right c.in_ok-first.first.state c.in_ok-second.second.state
    c.args.now.for_left.items _ c.args.now.for_right.items c.push_all.new.out.items _ c.in_ok-first.first.lefts.items _
    c.in_ok-second.second.lefts.items c.deref.ensures.value c.in_ok-first.ensures.state c.in_ok-first.ensures.faces
    c.deref-2.ensures.value c.in_ok-push_all.ensures c.deref-3.ensures.value c.in_ok-second.ensures.state
    c.in_ok-second.ensures.faces
