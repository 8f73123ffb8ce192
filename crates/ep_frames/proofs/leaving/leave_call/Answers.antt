use Rattle.std.proofs.Common.{◌≡◌, ap, ◌∙◌}
use Rattle.std.specs.Option.{option_map}
use Rattle.ep_core.specs.Exec.{frame_of, received, without}
use Rattle.ep_core.specs.View.{dest_view, function_view}
use Rattle.ep_machine.specs.Settings.{program_in}
use Rattle.ep_machine.specs.Machines.{state_in}
use Rattle.ep_frames.proofs.Entering.{frame_gone}
use Rattle.ep_frames.proofs.leaving.leave_call.Goals as goal

pub receive-requires-clause-typed : goal.receive-requires-clause-typed
receive-requires-clause-typed c = c.requires.typed _ c.kill.ensures.runs.fits

pub returns-clause-comes : goal.returns-clause-comes
returns-clause-comes c w left =
    let m = c.args.on.now in
    let gone : state_in c.kill.new.self ≡ without (frame_of (function_view c.args.f.now)) (state_in c.args.machine.now)
    = frame_gone m c.args.f.now.params.items c.deref.result.now c.args.f.now.locals.items c.deref-2.result.now
    (state_in c.args.machine.now) (state_in c.kill_parameters.new.self) (state_in c.kill.new.self)
    c.deref.ensures.value c.deref-2.ensures.value c.kill_parameters.ensures.killed c.kill.ensures.killed in
    c.receive.ensures.comes left
    ∙ ap (received m.order (program_in m) c.args.f.now.result (option_map dest_view c.args.dest.now) c.args.line left) gone
