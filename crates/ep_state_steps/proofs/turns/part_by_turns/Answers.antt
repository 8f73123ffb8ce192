use Rattle.std.proofs.Common.{sym, ◌∙◌, arith}
use Rattle.ep_state_steps.proofs.ByTurns.{turns_begin, turns_next, first_stopped, second_stopped, first_ended}
use Rattle.ep_state_steps.proofs.ByTurns.{second_ended}
use Rattle.ep_state_steps.proofs.turns.part_by_turns.Goals as goal

pub loop-init : goal.loop-init
loop-init g c =
    turns_begin c.args.times c.args.start.left c.args.start.right c.args.start.for_left.items
    c.args.start.for_right.items c.requires.model c.requires.times c.requires.turning

pub returns-then-are_none-clause-first : goal.returns-then-are_none-clause-first
returns-then-are_none-clause-first g c =
    first_stopped c.args.times c.loop.counter c.args.start.left c.args.start.right c.loop.sofar.left
    c.loop.sofar.right c.loop.sofar.for_left.items c.loop.sofar.for_right.items
    (sym c.deref.ensures.value ∙ c.are_none.ensures.first c.if-are_none.true)
    (sym c.deref-in-loop.ensures.value ∙ c.are_none.ensures.second c.if-are_none.true) c.loop.invariant

pub returns-then-are_none-clause-second : goal.returns-then-are_none-clause-second
returns-then-are_none-clause-second g c =
    second_stopped c.args.times c.loop.counter c.args.start.left c.args.start.right c.loop.sofar.left
    c.loop.sofar.right c.loop.sofar.for_left.items c.loop.sofar.for_right.items
    (sym c.deref.ensures.value ∙ c.are_none.ensures.first c.if-are_none.true)
    (sym c.deref-in-loop.ensures.value ∙ c.are_none.ensures.second c.if-are_none.true) c.loop.invariant

pub loop-preserved : goal.loop-preserved
loop-preserved g c =
    turns_next g.N.Num.ops c.args.times c.loop.counter c.args.start.left c.args.start.right c.loop.sofar.left
    c.loop.sofar.right c.in_ok-next.next.left c.in_ok-next.next.right c.loop.sofar.for_left.items
    c.loop.sofar.for_right.items c.in_ok-next.next.for_left.items c.in_ok-next.next.for_right.items c.loop-test.true
    c.in_ok-next.ensures.turned c.in_ok-next.ensures.none c.loop.invariant

pub returns-clause-first : goal.returns-clause-first
returns-clause-first g c =
    first_ended c.args.times c.loop.counter c.args.start.left c.args.start.right c.loop.sofar.left
    c.loop.sofar.right c.loop.sofar.for_left.items c.loop.sofar.for_right.items
    (omega (arith, c.loop-test.false)) c.loop.invariant

pub returns-clause-second : goal.returns-clause-second
returns-clause-second g c =
    second_ended c.args.times c.loop.counter c.args.start.left c.args.start.right c.loop.sofar.left
    c.loop.sofar.right c.loop.sofar.for_left.items c.loop.sofar.for_right.items
    (omega (arith, c.loop-test.false)) c.loop.invariant
