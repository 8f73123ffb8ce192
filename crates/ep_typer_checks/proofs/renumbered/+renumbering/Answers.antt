use Rattle.std.proofs.Common.{rules, ◌≡◌, ◌<◌, ◌≤◌, length, refl, sym, ap, ◌∙◌}
use Rattle.ep_core.specs.declared.tree.Stmt.{Stmt}
use Rattle.ep_core.specs.View.{stmts_view, what_view}
use Rattle.ep_elaboration.specs.Programs.{renumbered, renumbered_what}
use Rattle.ep_typer_checks.specs.Placed.{place}
use Rattle.ep_typer_checks.proofs.Rewriting.{all_done, by_order_done, if_done, loop_done, one_more, scope_done}
use Rattle.ep_typer_checks.proofs.renumbered.+renumbering.Goals as goal

pub renumbered_what-returns-in-If : goal.renumbered_what-returns-in-If
renumbered_what-returns-in-If t c =
    if_done (place c.args.places.now) c.in-If.then c.in-If.otherwise c.renumbered-then.result c.renumbered-otherwise.result
    c.renumbered-then.ensures c.renumbered-otherwise.ensures c.args.what c.in-If.test c.in-If.is

pub renumbered_what-returns-in-Loop : goal.renumbered_what-returns-in-Loop
renumbered_what-returns-in-Loop t c =
    loop_done (place c.args.places.now) c.in-Loop.body c.in-Loop.next c.renumbered-body.result c.renumbered-next.result
    c.renumbered-body.ensures c.renumbered-next.ensures c.args.what c.in-Loop.tests_first c.in-Loop.test c.in-Loop.is

pub renumbered_what-returns-in-ByOrder : goal.renumbered_what-returns-in-ByOrder
renumbered_what-returns-in-ByOrder t c =
    by_order_done (place c.args.places.now) c.in-ByOrder.then c.in-ByOrder.otherwise
    c.renumbered-then-in-ByOrder.result c.renumbered-otherwise-in-ByOrder.result c.renumbered-then-in-ByOrder.ensures
    c.renumbered-otherwise-in-ByOrder.ensures c.args.what c.in-ByOrder.order c.in-ByOrder.is

pub renumbered_what-returns-in-Scope : goal.renumbered_what-returns-in-Scope
renumbered_what-returns-in-Scope t c =
    scope_done (place c.args.places.now) c.in-Scope.body c.renumbered-body-in-Scope.result
    c.renumbered-body-in-Scope.ensures c.args.what c.in-Scope.blocks c.in-Scope.is

pub renumbered-loop-i-preserved : goal.renumbered-loop-i-preserved
renumbered-loop-i-preserved t c =
    let to = place c.args.places.now in
    let x = c.index_mut.result.now in
    let l : c.loop-i.i < length c.loop-i.list.items = search rules in (
      search rules,
      one_more to c.loop-i.i c.loop-i.list.items c.renumber_statement.new.statement x
          (renumbered to (stmts_view c.args.list.items)) l
          (c.renumber_statement.ensures.line ∙ ap (λ (s : Stmt). s.line) c.index_mut.ensures.value)
          (c.renumber_statement.ensures.what
          ∙ ap (λ (s : Stmt). renumbered_what to (what_view s.what)) c.index_mut.ensures.value)
          c.loop-i.invariant.1,
    )

pub renumbered-returns : goal.renumbered-returns
renumbered-returns t c =
    let l : length c.loop-i.list.items ≤ c.loop-i.i = search rules in
    sym (all_done (place c.args.places.now) c.loop-i.i c.loop-i.list.items l) ∙ c.loop-i.invariant.1
