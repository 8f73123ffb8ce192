use Rattle.std.proofs.Common.{ap, sym, ◌∙◌}
use Rattle.std.specs.Option.{option_map}
use Rattle.ep_int.specs.Memory.{Value, int}
use Rattle.ep_int.specs.Types.{wrapped}
use Rattle.std.proofs.Common.{pos}
use Rattle.ep_bytes.specs.StoreView.{memory_in}
use Rattle.ep_core.specs.Exec.{State, Outcome, put_dest}
use Rattle.ep_core.specs.View.{dest_view}
use Rattle.ep_machine.specs.Settings.{program_in}
use Rattle.ep_machine.specs.Machines.{state_in}
use Rattle.ep_simple_steps.proofs.Inputs.{input_fits}
use Rattle.ep_simple_steps.proofs.statements.input.Goals as goal

pub put_dest-requires-clause-fits : goal.put_dest-requires-clause-fits
put_dest-requires-clause-fits c =
    input_fits c.args.on.now (memory_in c.args.machine.now.store) c.args.t c.args.dest.now c.in-Some.v _
    c.number_of-number.ensures c.requires.typed

pub returns-in-Some-clause-comes : goal.returns-in-Some-clause-comes
returns-in-Some-clause-comes c left =
    let go : Value → State → Outcome = λ w s. put_dest c.args.on.now.order (program_in c.args.on.now) (option_map dest_view c.args.dest.now) w c.args.line left s in
    c.put_dest.ensures.comes left ∙ ap (λ w. go w (state_in c.take.new.self)) c.number_of-number.ensures
    ∙ sym (c.in-Some.ensures.takes (λ v s. go (int (wrapped c.args.t (pos v))) s))
