use Rattle.std.proofs.Common.{◌≡◌, take, flat_map}
use Rattle.ep_machine.specs.declared.output.Output.{Output}
use Rattle.ep_machine.specs.Machines.{output_view}
use Rattle.ep_concrete.specs.Text.{output_line}
use Rattle.ep_concrete.proofs.text.text_of.Given as goal

abbrev pub invariant-loop-output : goal.invariant-loop-output
invariant-loop-output l =
    l.text.items ≡ flat_map (λ (y : Output). output_line (output_view y)) (take l.output-index l.outputs)
