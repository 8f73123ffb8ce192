use Rattle.std.proofs.Common.{refl, sym}
use Rattle.ep_core.specs.View.{function_view}
use Rattle.ep_flows.specs.View.{plan_of}
use Rattle.ep_walk_parts.proofs.Main.{end_some}
use Rattle.ep_walk_parts.proofs.TypedParts.{is_at}
use Rattle.ep_walk.proofs.program.end_main.Goals as goal

pub returns-clause-told : goal.returns-clause-told
returns-clause-told g c =
    let e = rw c.in-Some.is at c.function_at.ensures in
    end_some g.K.AbstractStates.ops (plan_of c.args.c.now) c.ended.result (function_view c.in-Some.main.now)
    c.in_ok-left.left _ c.in-Some-left.known c.args.log.now _ _
    (is_at c.args.c.now.program.now c.args.c.now.program.now.main c.in-Some.main.now (sym e)) c.in_ok-left.ensures
    c.in-Some-left.is (sym c.log.view_is) c.ended.ensures refl refl
