use Rattle.std.proofs.Common.{FitsSigned, rules, ap, ◌∙◌}
use Rattle.std.specs.Int.{w128}
use Rattle.std.proofs.lemmas.Int.{to_z-of_z}
use Rattle.ep_int.specs.declared.types.IntType.TheVariants.{I32}
use Rattle.ep_core.specs.Exec.{put_out}
use Rattle.ep_machine.specs.Machines.{state_in}
use Rattle.ep_concrete.proofs.Ends.{put_told}
use Rattle.ep_concrete.proofs.runs.put_result.Goals as goal

pub returns-in_ok-put_out-in-Int : goal.returns-in_ok-put_out-in-Int
returns-in_ok-put_out-in-Int c =
    let fits : FitsSigned w128 c.in-Int.n = search rules in
    let s = state_in c.args.machine.now in
    rw c.in-Int.is (put_told c.in-Int.n c.args.line s c.put_out.new.self
    (c.in_ok-put_out-in-Int.ensures.puts ∙ ap (λ z. put_out I32 z s) (to_z-of_z w128 c.in-Int.n fits)))
