use Rattle.std.proofs.Common.{◌≡◌, suc, ◌-◌, sym, ap, ◌∙◌, subst, arith}
use Rattle.ep_core.specs.Runs.{finished}
use Rattle.ep_machine.specs.Settings.{program_in}
use Rattle.ep_machine.specs.Machines.{state_in}
use Rattle.ep_steps.specs.declared.steps.Stop.TheVariants.{Running}
use Rattle.ep_steps.specs.Results.{stopped, IsAlike}
use Rattle.ep_frames.specs.Stack.{piled, now_of}
use Rattle.ep_steps.proofs.steps.drive.Goals as goal

pub steps-preserved : goal.steps-preserved
steps-preserved c =
    let m = c.args.on.now in
    let e : c.steps.left ≡ suc (c.steps.left - 1) = omega (arith, c.if-left-eq0.false) in
    record {
      same = c.steps.invariant.same
          ∙ ap (λ k. piled m c.steps.stack.items (now_of m c.steps.now k (state_in c.steps.machine))) e
          ∙ sym (c.in_ok-next.ensures.comes (c.in-None.ensures.due c.steps.stack.items c.steps.invariant.ready) (c.steps.left - 1))
          ∙ sym (c.in_ok-now-2.ensures.comes (c.steps.left - 1));
      runs = c.in_ok-now-2.ensures.runs;
      fits = c.in_ok-now-2.ensures.fits;
      pile = c.in_ok-now-2.ensures.pile;
      ready = c.in_ok-now-2.ensures.ready;
    }

pub returns-in-Some-clause-stops : goal.returns-in-Some-clause-stops
returns-in-Some-clause-stops c =
    let m = c.args.on.now in
    subst (λ x. IsAlike (finished m.order (program_in m) x) (stopped m c.in-Some.stop (state_in c.steps.machine)))
    (sym c.steps.invariant.same)
    (c.in-Some.ensures.stops m c.steps.stack.items c.steps.invariant.ready c.steps.invariant.fits c.steps.left
    (state_in c.steps.machine))

pub returns-then-left-eq0-clause-stops : goal.returns-then-left-eq0-clause-stops
returns-then-left-eq0-clause-stops c =
    let m = c.args.on.now in
    let s = state_in c.steps.machine in
    subst (λ x. IsAlike (finished m.order (program_in m) x) (stopped m Running s))
    (sym (c.steps.invariant.same ∙ ap (λ k. piled m c.steps.stack.items (now_of m c.steps.now k s)) c.if-left-eq0.true))
    (c.in-None.ensures.stops m c.steps.stack.items c.steps.invariant.ready c.steps.invariant.fits s)
