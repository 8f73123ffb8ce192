use Rattle.std.proofs.Common.{map}
use Rattle.std.proofs.lemmas.Result.{err_from_is_err_and}
use Rattle.std.proofs.lemmas.List.{map_push}
use Rattle.ep_operands.specs.View as view
use Rattle.ep_scopes.specs.View.{env}
use Rattle.ep_typer_exprs.proofs.WalkLemmas.{call_halts, call_refused, no_name, stopped, stopped_value, went}
use Rattle.ep_typing.specs.Typing.{typed}
use Rattle.ep_ast.specs.Expression as source
use Rattle.ep_typer_exprs.proofs.walk.+walk.Goals as goal

pub typed-returns-in_err-typed_all-in-Call : goal.typed-returns-in_err-typed_all-in-Call
typed-returns-in_err-typed_all-in-Call t c =
    let p = err_from_is_err_and c.from_residual-in_err-typed_all-in-Call.result c.from_residual-in_err-typed_all-in-Call.ensures.1 in
    rw (p.1, p.2) (call_halts (env c.args.env.now) _ c.args.tree.now c.deref-in-Call.result.now c.in-Call.f c.in-Call.list _ _ _
    c.in-Call.is c.deref-in-Call.ensures c.deref-in-Call-2.ensures.value c.in_ok-callee-in-Call.ensures c.in_err-typed_all-in-Call.ensures)

pub typed-returns-in_ok-typed_all-in-Call : goal.typed-returns-in_ok-typed_all-in-Call
typed-returns-in_ok-typed_all-in-Call t c =
    rw c.refused.ensures (call_refused (env c.args.env.now) c.in-Call.line c.args.tree.now c.deref-in-Call.result.now c.in-Call.f
    c.in-Call.list _ _ _ c.in-Call.is c.deref-in-Call.ensures c.deref-in-Call-2.ensures.value c.in_ok-callee-in-Call.ensures
    c.in_ok-typed_all-in-Call.ensures)

pub typed_all-returns-in_err-x : goal.typed_all-returns-in_err-x
typed_all-returns-in_err-x t c =
    let p = err_from_is_err_and c.from_residual.result c.from_residual.ensures.1 in
    rw (p.1, p.2) (stopped (env c.args.env.now) c.args.line c.loop-tree.tree-index c.args.list.now c.tree-item.result
    (map view.value c.loop-tree.all.items) _ c.loop-tree-test.true c.tree-item.is c.loop-tree.invariant _ c.in_err-x.ensures)

pub typed_all-returns-in_err-v : goal.typed_all-returns-in_err-v
typed_all-returns-in_err-v t c =
    let p = err_from_is_err_and c.from_residual-in_err-v.result c.from_residual-in_err-v.ensures.1 in
    rw (p.1, p.2) (stopped_value (env c.args.env.now) c.args.line c.loop-tree.tree-index c.args.list.now c.tree-item.result
    (map view.value c.loop-tree.all.items) _ c.loop-tree-test.true c.tree-item.is c.loop-tree.invariant (view.operand c.in_ok-x.x) _
    c.in_ok-x.ensures c.in_err-v.ensures)

pub typed_all-loop-tree-preserved : goal.typed_all-loop-tree-preserved
typed_all-loop-tree-preserved t c =
    rw (c.in_ok-push.ensures.items, map_push view.value c.loop-tree.all.items c.in_ok-v.v)
    (went (env c.args.env.now) c.args.line c.loop-tree.tree-index c.args.list.now c.tree-item.result
    (map view.value c.loop-tree.all.items) _ c.loop-tree-test.true c.tree-item.is c.loop-tree.invariant (view.operand c.in_ok-x.x)
    (view.value c.in_ok-v.v) c.in_ok-x.ensures c.in_ok-v.ensures)

pub callee-returns-in_default : goal.callee-returns-in_default
callee-returns-in_default t c =
    let G = env c.args.env.now in
    let alone = typed G (source.expr c.args.tree.now) in
    rw (no_name G c.args.tree.now alone c.in_default.not-Id) c.typed.ensures
