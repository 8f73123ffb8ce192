use Rattle.std.proofs.Common.{◌∙◌, ◌++◌, ap}
use Rattle.ep_core.specs.ProgramView.{program_view}
use Rattle.ep_equalities.specs.declared.pair.Mode.TheVariants.{Both}
use Rattle.ep_transfers.specs.Calls.{loaded_result}
use Rattle.ep_transfer_results.proofs.Loading.{compared}
use Rattle.ep_transfer_results.proofs.results.ended_with.Goals as goal

pub returns : goal.returns
returns g c =
    compared g.N.Num.ops (program_view c.args.program.now)
    (loaded_result g.N.Num.ops (program_view c.args.program.now) Both c.args.home c.args.state.now) c.in_ok-v.v
    c.deref.result.now c.is_sure-sure.result c.args.faults.now.items c.note_difference.new.faults.items
    c.in_ok-v.ensures.value
    (c.deref.ensures.value ∙ c.in_ok-v.ensures.faults ∙ ap (λ fs. fs ++ (loaded_result g.N.Num.ops
    (program_view c.args.program.now) Both c.args.home c.args.state.now).faults) c.new-own.ensures.items)
    c.is_sure-sure.ensures c.in_ok-note_difference.ensures
