use Rattle.std.proofs.Common.{◌+◌, drop, get_or, map, refl, ◌∙◌}
use Rattle.ep_int.specs.declared.types.Scalar.TheVariants.{Pointer}
use Rattle.ep_bytes.specs.declared.types.Datum.TheVariants.{Null}
use Rattle.ep_bytes.specs.View.{value_in}
use Rattle.ep_core.specs.Exec.{bound}
use Rattle.ep_machine.specs.Settings.{program_in}
use Rattle.ep_machine.specs.Machines.{state_in}
use Rattle.ep_frames.proofs.Binds.{bind_ends, bind_next, bound_here}
use Rattle.ep_frames.proofs.calls.bind.Goals as goal

pub returns-then-arguments-i-clause-binds : goal.returns-then-arguments-i-clause-binds
returns-then-arguments-i-clause-binds c l go =
    c.loop-i.invariant.rest l go
    ∙ bind_ends c.args.on.now.order (program_in c.args.on.now) c.loop-i.i c.args.parameters.now c.args.arguments.now l
    (state_in c.loop-i.machine) go c.if-arguments-i.true

pub returns-in-Err-clause-binds : goal.returns-in-Err-clause-binds
returns-in-Err-clause-binds c l go =
    c.loop-i.invariant.rest l go
    ∙ bind_next c.args.on.now.order (program_in c.args.on.now) c.loop-i.i c.args.parameters.now c.args.arguments.now
    _ _ _ _ l (state_in c.loop-i.machine) go c.loop-i-test.true refl c.if-arguments-i.false refl
    ∙ c.in-Err.ensures.puts l (λ s. bound c.args.on.now.order (program_in c.args.on.now)
    (drop (c.loop-i.i + 1) c.args.parameters.now) (map value_in (drop (c.loop-i.i + 1) c.args.arguments.now)) l s go)

pub loop-i-preserved : goal.loop-i-preserved
loop-i-preserved c = record {
  runs = c.in-Ok.ensures.runs;
  fits = (bound_here (program_in c.args.on.now) c.loop-i.i c.args.parameters.now c.args.arguments.now
      (get_or c.args.parameters.now c.loop-i.i (0, Pointer)) (0, Pointer) (get_or c.args.arguments.now c.loop-i.i Null) Null
      c.loop-i-test.true refl c.if-arguments-i.false refl c.loop-i.invariant.fits).1;
  rest = λ l go. c.loop-i.invariant.rest l go
      ∙ bind_next c.args.on.now.order (program_in c.args.on.now) c.loop-i.i c.args.parameters.now c.args.arguments.now
      _ _ _ _ l (state_in c.loop-i.machine) go c.loop-i-test.true refl c.if-arguments-i.false refl
      ∙ c.in-Ok.ensures.puts l (λ s. bound c.args.on.now.order (program_in c.args.on.now)
      (drop (c.loop-i.i + 1) c.args.parameters.now) (map value_in (drop (c.loop-i.i + 1) c.args.arguments.now)) l s go);
}
