use Rattle.std.proofs.Common.{◌++◌, flat_map, ap, ◌∙◌}
use Rattle.ep_machine.specs.declared.output.Output.{Output}
use Rattle.ep_machine.specs.Machines.{output_view}
use Rattle.ep_concrete.specs.Text.{last_line, output_line}
use Rattle.ep_concrete.proofs.Texts.{text_is}
use Rattle.ep_concrete.proofs.text.run_text.Goals as goal

pub returns-in-Ok : goal.returns-in-Ok
returns-in-Ok c x h =
    c.in-Ok.ensures
    ∙ ap (λ xs. flat_map (λ (y : Output). output_line (output_view y)) xs ++ last_line c.args.r.now.ending)
    c.deref.ensures.value
    ∙ text_is c.args.r.now x h
