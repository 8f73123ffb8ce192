use Rattle.std.proofs.Common.{◌<◌, length, arith, ap, ◌∙◌}
use Rattle.ep_core.specs.ProgramView.{program_view}
use Rattle.ep_core.specs.View.{function_view, stmts_view}
use Rattle.ep_double.specs.ByteStates.{left, move_all, states_in}
use Rattle.ep_double.proofs.Followed.{moves_on_is, none_moves}
use Rattle.ep_double.proofs.Moves.{main_there, no_main}
use Rattle.ep_double.proofs.mover.moves_on.Goals as goal

pub returns-then-at-len : goal.returns-then-at-len
returns-then-at-len c =
    none_moves c.args.order (program_view c.args.p.now)
    (no_main c.args.p.now.functions.items c.args.p.now.main (omega arith))

pub returns : goal.returns
returns c =
    let l : c.args.p.now.main < length c.args.p.now.functions.items = omega arith in
    moves_on_is c.args.order (program_view c.args.p.now) (function_view c.index-main.result.now)
    (states_in c.in_ok-m.m.items) (left c.do_all-end.result (states_in c.do_all-end.new.m.items)) c.is_moved.result
    (main_there c.args.p.now.functions.items c.args.p.now.main c.index-main.result.now l c.index-main.ensures)
    c.in_ok-m.ensures
    (c.do_all-end.ensures
    ∙ ap (λ ss. move_all c.args.order (stmts_view ss) (states_in c.in_ok-m.m.items)) c.deref.ensures.value)
    (c.is_moved.ensures (states_in c.do_all-end.new.m.items))
