use Rattle.std.proofs.Common.{ap, ◌∙◌, ◌++◌}
use Rattle.ep_evaluation.specs.Evaluation.{place}
use Rattle.ep_core.specs.ProgramView.{program_view}
use Rattle.ep_core.specs.View.{place_view}
use Rattle.ep_transfer_stores.proofs.Fitting.{place_fit}
use Rattle.ep_transfer_stores.proofs.operands.place_at.Goals as goal

pub address-requires : goal.address-requires
address-requires g c =
    record { fit = place_fit (program_view c.args.program.now) (place_view c.args.a.now) c.requires.typed }

pub returns-clause-value : goal.returns-clause-value
returns-clause-value g c =
    c.in_ok-to.ensures.value
    ∙ ap (λ zs. (place g.N.Num.ops zs (place_view c.args.a.now) c.args.mode c.args.state.now).pair) c.requires.sizes

pub returns-clause-faults : goal.returns-clause-faults
returns-clause-faults g c =
    c.in_ok-to.ensures.faults
    ∙ ap (λ zs. c.args.faults.now.items
    ++ (place g.N.Num.ops zs (place_view c.args.a.now) c.args.mode c.args.state.now).faults) c.requires.sizes
