use Rattle.std.proofs.Common.{rules, ◌≡◌, true, sym, ◌∙◌}
use Rattle.ep_core.specs.ProgramView.{program_view}
use Rattle.ep_flows.specs.View.{orders}
use Rattle.ep_cell_walks.proofs.States.{fit_is}
use Rattle.ep_cell_walks.proofs.pairs.fit_to_join.Goals as goal

pub returns-clause-value : goal.returns-clause-value
returns-clause-value g c =
    let e : c.are_states.result ≡ true = search rules in
    fit_is g.N.Num.ops (program_view c.args.c.now.program.now) (orders c.args.c.now.left c.args.c.now.right) c.args.k.now
    c.args.l.now c.is_like.result (sym c.are_states.ensures.value ∙ e) c.is_like.ensures
