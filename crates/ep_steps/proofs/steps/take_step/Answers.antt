use Rattle.std.proofs.Common.{sym, ap, subst, ◌∙◌}
use Rattle.ep_core.specs.Exec.{into, out_of}
use Rattle.ep_machine.specs.Settings.{program_in}
use Rattle.ep_machine.specs.Machines.{state_in}
use Rattle.ep_frames.specs.Stack.{piled, NowFits}
use Rattle.ep_steps.proofs.Due.{byte_next}
use Rattle.ep_steps.proofs.steps.take_step.Goals as goal

pub returns-in-Reads-clause-comes : goal.returns-in-Reads-clause-comes
returns-in-Reads-clause-comes c due left =
    let m = c.args.on.now in
    let fits = subst (NowFits m) c.in-Reads.is c.requires.fits in
    rw (c.in-Reads.is) (ap (piled m c.args.stack.now.items)
    (c.read_byte.ensures.comes left
    ∙ sym (byte_next (into m.order (program_in m) c.in-Reads.at.block) c.in-Reads.at.count c.in-Reads.at.here left
    (state_in c.args.machine.now) fits.some)))

pub returns-in_ok-n-in-Writes-clause-comes : goal.returns-in_ok-n-in-Writes-clause-comes
returns-in_ok-n-in-Writes-clause-comes c due left =
    let m = c.args.on.now in
    let fits = subst (NowFits m) c.in-Writes.is c.requires.fits in
    rw (c.in-Writes.is) (ap (piled m c.args.stack.now.items)
    (c.in_ok-n-in-Writes.ensures.comes left
    ∙ sym (byte_next (out_of m.order (program_in m) c.in-Writes.at.block c.in-Writes.line) c.in-Writes.at.count
    c.in-Writes.at.here left (state_in c.args.machine.now) fits.some)))

pub returns-in_ok-push-in-Turn-clause-pile : goal.returns-in_ok-push-in-Turn-clause-pile
returns-in_ok-push-in-Turn-clause-pile c =
    let m = c.args.on.now in
    c.in_ok-push-in-Turn.ensures.fits m c.requires.pile (subst (NowFits m) c.in-Turn.is c.requires.fits)
