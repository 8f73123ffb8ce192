use Rattle.std.proofs.Common.{◌∙◌, ap, subst}
use Rattle.ep_core.specs.ProgramView.{program_view}
use Rattle.ep_flows.specs.View.{orders}
use Rattle.ep_transfers.specs.Cells.{cell_ops}
use Rattle.ep_certcheck_walk.specs.Found.{IsOfHead}
use Rattle.ep_certcheck.specs.Verdict.{answer, first_failed}
use Rattle.ep_certcheck.proofs.Answered.{agreed, closed_yes}
use Rattle.ep_certcheck.proofs.verdict.verify.Goals as goal

pub told-requires-clause-outside : goal.told-requires-clause-outside
told-requires-clause-outside g c =
    subst
    (λ hs. IsOfHead (cell_ops g.N.Num.ops (program_view c.args.program.now) (orders c.args.orders.0 c.args.orders.1))
    (first_failed g.N.Num.ops) hs c.in_ok-found.found)
    (c.deref-2.ensures.value ∙ c.in_ok-states.ensures) c.in_ok-found.ensures.outside

pub told-requires-clause-answer : goal.told-requires-clause-answer
told-requires-clause-answer g c =
    c.in_ok-found.ensures.answer
    ∙ ap
    (λ hs. answer g.N.Num.ops (program_view c.args.program.now) c.args.orders.0 c.args.orders.1 c.args.unroll hs)
    (c.deref-2.ensures.value ∙ c.in_ok-states.ensures)

pub returns-clause-agree : goal.returns-clause-agree
returns-clause-agree g c =
    agreed g.N.Num.ops (program_view c.args.program.now) c.args.orders.0 c.args.orders.1 c.args.unroll
    c.args.program.now.well_formed c.requires.others c.args.heads.now c.in_ok-verdict.verdict c.in_ok-verdict.ensures
    c.cell_states.ensures.lawful

pub returns-clause-closed : goal.returns-clause-closed
returns-clause-closed g c =
    closed_yes g.N.Num.ops (program_view c.args.program.now) c.args.orders.0 c.args.orders.1 c.args.unroll
    c.args.program.now.well_formed c.requires.others c.args.heads.now c.in_ok-verdict.verdict c.in_ok-verdict.ensures
    c.closed_states.ensures
