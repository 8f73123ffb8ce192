use Rattle.std.proofs.Common.{◌∙◌, arith}
use Rattle.ep_frames.proofs.Piles.{pushed_heft}
use Rattle.ep_core.specs.Exec.{leaves}
use Rattle.ep_machine.specs.Machines.{state_in}
use Rattle.ep_frames.specs.Stack.{way_of}
use Rattle.ep_frames.proofs.Piles.{popped, popped_fits}
use Rattle.ep_steps.proofs.moves.advance.Goals as goal

pub leave-requires-clause-typed : goal.leave-requires-clause-typed
leave-requires-clause-typed c = (popped_fits c.args.stack.now.items c.pop.new.self.items c.in-Some.frame c.in-Some.ensures.items c.args.on.now c.requires.pile).1

pub returns-in_ok-n-in-Some-clause-comes : goal.returns-in_ok-n-in-Some-clause-comes
returns-in_ok-n-in-Some-clause-comes c left =
    rw (c.in-Leave.is) (c.in_ok-n-in-Some.ensures.comes left
    ∙ popped c.args.stack.now.items c.pop.new.self.items c.in-Some.frame c.in-Some.ensures.items c.args.on.now
    (leaves (way_of c.in-Leave.way) left (state_in c.args.machine.now)))

pub returns-in_ok-n-in-Some-clause-heft : goal.returns-in_ok-n-in-Some-clause-heft
returns-in_ok-n-in-Some-clause-heft c =
    let h = c.in_ok-n-in-Some.ensures.heft in
    let g = pushed_heft c.args.stack.now.items c.pop.new.self.items c.in-Some.frame c.in-Some.ensures.items in
    rw (c.in-Leave.is) (omega (arith, h, g))

pub returns-in_ok-n-in-Some-clause-pile : goal.returns-in_ok-n-in-Some-clause-pile
returns-in_ok-n-in-Some-clause-pile c =
    c.in_ok-n-in-Some.ensures.pile (popped_fits c.args.stack.now.items c.pop.new.self.items c.in-Some.frame c.in-Some.ensures.items c.args.on.now c.requires.pile).0
