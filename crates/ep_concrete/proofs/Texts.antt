-- Texts of runs.
use Rattle.std.proofs.Common.{◌≡◌, ℕ, List, [], ◌∷◌, ◌++◌, flat_map, map, refl, ap, ◌∙◌}
use Rattle.ep_core.specs.Runs.{Run}
use Rattle.ep_machine.specs.declared.output.Output.{Output}
use Rattle.ep_machine.specs.Machines.{output_view}
use Rattle.ep_concrete.specs.declared.types.RunResult.{RunResult}
use Rattle.ep_concrete.specs.Results.{IsRun}
use Rattle.ep_concrete.specs.Text.{last_line, output_line, run_text_of}

lines_are : (xs : List Output) → flat_map (λ (y : Output). output_line (output_view y)) xs ≡ flat_map output_line (map output_view xs)
lines_are [] = refl
lines_are (x ∷ xs) = ap (λ t. output_line (output_view x) ++ t) (lines_are xs)

pub text_is : (r : RunResult) (x : Run) → IsRun r x
    → flat_map (λ (y : Output). output_line (output_view y)) r.outputs.items ++ last_line r.ending ≡ run_text_of x
text_is r x h =
    ap (λ t. t ++ last_line r.ending) (lines_are r.outputs.items)
    ∙ ap (λ os. flat_map output_line os ++ last_line r.ending) h.outputs
    ∙ ap (λ e. flat_map output_line x.outputs ++ last_line e) h.ending
