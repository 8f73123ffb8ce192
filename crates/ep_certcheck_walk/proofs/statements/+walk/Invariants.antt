use Rattle.std.proofs.Common.{◌+◌, ◌-◌, ◌*◌, drop}
use Rattle.ep_core.specs.View.{stmts_view}
use Rattle.ep_core.specs.declared.tree.What.TheViews.{size-Stmt}
use Rattle.ep_flows.specs.View.{mode_of, plan_of, ways_view}
use Rattle.ep_walk_parts.specs.Pieces.{loop_of}
use Rattle.ep_walk_parts.proofs.Deeper.{before, depth, depth_two, depth_parts, depth_follow, lone_rank, mode_rank}
use Rattle.ep_certcheck_walk.specs.Pieces.{all, row, rounds_of}
use Rattle.ep_certcheck_walk.specs.Stops.{course}
use Rattle.ep_certcheck_walk.proofs.Combined.{Leads}
use Rattle.ep_certcheck_walk.proofs.statements.+walk.Given as goal

abbrev pub decreases-pass_function : goal.decreases-pass_function
decreases-pass_function g l = before l.c.now.program.now.functions.items (l.k + 1) + 1

abbrev pub decreases-pass_stmt : goal.decreases-pass_stmt
decreases-pass_stmt g l = before l.c.now.program.now.functions.items l.here + (64 * size-Stmt l.s.now)

abbrev pub decreases-pass_list : goal.decreases-pass_list
decreases-pass_list g l = before l.c.now.program.now.functions.items l.here + (64 * depth l.body.now + 1)

abbrev pub decreases-pass_branch : goal.decreases-pass_branch
decreases-pass_branch g l = before l.c.now.program.now.functions.items l.here + (64 * depth l.body.now + 2)

abbrev pub decreases-pass_call : goal.decreases-pass_call
decreases-pass_call g l = before l.c.now.program.now.functions.items l.here + (2)

abbrev pub decreases-pass_order : goal.decreases-pass_order
decreases-pass_order g l = before l.c.now.program.now.functions.items l.here + (64 * depth_two l.yes.now l.no.now + 5)

abbrev pub decreases-pass_apart : goal.decreases-pass_apart
decreases-pass_apart g l = before l.c.now.program.now.functions.items l.here +
    (64 * depth_two l.first.now l.second.now + 4)

abbrev pub decreases-pass_right : goal.decreases-pass_right
decreases-pass_right g l = before l.c.now.program.now.functions.items l.here + (64 * depth l.second.now + 3)

abbrev pub decreases-pass_body : goal.decreases-pass_body
decreases-pass_body g l = before l.c.now.program.now.functions.items l.here + (64 * depth_parts l.parts + 3)

abbrev pub decreases-follow_one : goal.decreases-follow_one
decreases-follow_one g l = before l.c.now.program.now.functions.items l.here +
    (64 * depth_follow l.follow + mode_rank l.mode + 5)

abbrev pub decreases-follow_reached : goal.decreases-follow_reached
decreases-follow_reached g l =
    before l.c.now.program.now.functions.items l.here + (64 * depth_follow l.follow + mode_rank l.mode + 6)

abbrev pub decreases-follow_truths : goal.decreases-follow_truths
decreases-follow_truths g l =
    before l.c.now.program.now.functions.items l.here + (64 * depth_follow l.follow + mode_rank l.mode + 7)

abbrev pub decreases-pass_two : goal.decreases-pass_two
decreases-pass_two g l = before l.c.now.program.now.functions.items l.here +
    (64 * depth_follow l.follow + mode_rank l.mode + 8)

abbrev pub decreases-pass_four : goal.decreases-pass_four
decreases-pass_four g l = before l.c.now.program.now.functions.items l.here + (64 * depth_follow l.follow + 32)

abbrev pub decreases-pass_test : goal.decreases-pass_test
decreases-pass_test g l = before l.c.now.program.now.functions.items l.here +
    (64 * depth_follow l.follow + mode_rank l.mode + 9)

abbrev pub decreases-pass_turn : goal.decreases-pass_turn
decreases-pass_turn g l = before l.c.now.program.now.functions.items l.here +
    (64 * depth_parts l.parts + mode_rank l.mode + 10)

abbrev pub decreases-pass_given : goal.decreases-pass_given
decreases-pass_given g l = before l.c.now.program.now.functions.items l.here + (64 * depth_parts l.parts + 35)

abbrev pub decreases-pass_last : goal.decreases-pass_last
decreases-pass_last g l = before l.c.now.program.now.functions.items l.here +
    (64 * depth_parts l.parts + mode_rank l.mode + 12)

abbrev pub decreases-pass_rounds : goal.decreases-pass_rounds
decreases-pass_rounds g l = before l.c.now.program.now.functions.items l.here +
    (64 * depth_parts l.parts + mode_rank l.mode + 13)

abbrev pub decreases-pass_begun : goal.decreases-pass_begun
decreases-pass_begun g l = before l.c.now.program.now.functions.items l.here +
    (64 * depth_parts l.parts + mode_rank l.mode + 14)

abbrev pub decreases-pass_entered : goal.decreases-pass_entered
decreases-pass_entered g l = before l.c.now.program.now.functions.items l.here + (64 * depth_parts l.parts + 15)

abbrev pub decreases-pass_lone : goal.decreases-pass_lone
decreases-pass_lone g l = before l.c.now.program.now.functions.items l.here +
    (64 * depth_parts l.parts + lone_rank l.mode + 1)

abbrev pub decreases-pass_loop : goal.decreases-pass_loop
decreases-pass_loop g l = before l.c.now.program.now.functions.items l.here +
    (64 * depth_parts l.parts + mode_rank l.mode + 18)

abbrev pub invariant-pass_list-loop-s : goal.invariant-pass_list-loop-s
invariant-pass_list-loop-s g l =
    Leads (course g.K.AbstractStates.ops g.K.CheckedStates.first_outside (plan_of l.c) l.heads)
    (all (course g.K.AbstractStates.ops g.K.CheckedStates.first_outside (plan_of l.c) l.heads) l.here
    (stmts_view (drop l.s-index l.body)) l.taken (mode_of l.mode) l.at (ways_view l.ways)) l.taken
    (row (course g.K.AbstractStates.ops g.K.CheckedStates.first_outside (plan_of l.c) l.heads) l.here
    (stmts_view l.body) l.initial.taken (mode_of l.mode) l.fn.known) l.initial.taken

abbrev pub invariant-pass_rounds-loop-turn : goal.invariant-pass_rounds-loop-turn
invariant-pass_rounds-loop-turn g l =
    Leads (course g.K.AbstractStates.ops g.K.CheckedStates.first_outside (plan_of l.c) l.heads)
    (rounds_of (course g.K.AbstractStates.ops g.K.CheckedStates.first_outside (plan_of l.c) l.heads) l.here
    (loop_of l.parts) (mode_of l.mode) (l.count - l._turn) l.taken l.at (ways_view l.ways)) l.taken
    (rounds_of (course g.K.AbstractStates.ops g.K.CheckedStates.first_outside (plan_of l.c) l.heads) l.here
    (loop_of l.parts) (mode_of l.mode) l.count l.initial.taken l.fn.known (ways_view l.fn.before)) l.initial.taken
