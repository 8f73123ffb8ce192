use Rattle.std.proofs.Common.{ℕ, [], ap, sym, ◌∙◌, subst}
use Rattle.std.proofs.lemmas.Result.{err_from_is_err_and}
use Rattle.ep_elaboration.specs.Calls.{calls_of}
use Rattle.ep_elaboration.specs.Programs.{not_too_deep}
use Rattle.ep_operands.specs.Refinement.{Stops}
use Rattle.ep_typing.specs.Results.{at}
use Rattle.ep_call_graph.specs.View.{call_sites}
use Rattle.ep_typer_checks.proofs.Ordering.{comes, depth_is, once, ordered}
use Rattle.ep_typer_checks.proofs.depths.in_order.Goals as goal

pub depths-requires-clause-in_order : goal.depths-requires-clause-in_order
depths-requires-clause-in_order c =
    ordered (calls_of (call_sites c.args.places.now)) c.args.count c.requires.ranked c.args.numbers.now c.deref.result.now
    (c.deref.ensures.value ∙ c.in_ok-order.ensures.order)

pub returns-in_err-not_too_deep-clause-shallow : goal.returns-in_err-not_too_deep-clause-shallow
returns-in_err-not_too_deep-clause-shallow c =
    let p = err_from_is_err_and c.from_residual-in_err-not_too_deep.result c.from_residual-in_err-not_too_deep.ensures.1 in
    rw (p.1, p.2) (subst (λ (d : ℕ). Stops (at c.args.main.line (not_too_deep d)) c.in_err-not_too_deep.field-0.0)
    (depth_is (call_sites c.args.places.now) c.args.count c.args.main.number c.depth.result c.deref.result.now c.in_ok-depths.depths.items
    c.deref-2.result.now c.depth.ensures c.deref-2.ensures.value c.in_ok-depths.ensures
    (comes (calls_of (call_sites c.args.places.now)) c.args.count c.requires.ranked c.args.numbers.now c.deref.result.now
    (c.deref.ensures.value ∙ c.in_ok-order.ensures.order) c.args.main.number c.requires.has_main)) c.in_err-not_too_deep.ensures)

pub returns-clause-shallow : goal.returns-clause-shallow
returns-clause-shallow c =
    ap (λ (d : ℕ). at c.args.main.line (not_too_deep d)) (sym (depth_is (call_sites c.args.places.now) c.args.count c.args.main.number c.depth.result
    c.deref.result.now c.in_ok-depths.depths.items c.deref-2.result.now c.depth.ensures c.deref-2.ensures.value c.in_ok-depths.ensures
    (comes (calls_of (call_sites c.args.places.now)) c.args.count c.requires.ranked c.args.numbers.now c.deref.result.now
    (c.deref.ensures.value ∙ c.in_ok-order.ensures.order) c.args.main.number c.requires.has_main)))
    ∙ c.in_ok-not_too_deep.ensures

pub returns-clause-once : goal.returns-clause-once
returns-clause-once c =
    once (calls_of (call_sites c.args.places.now)) [] c.in_ok-order.order.items
    (ordered (calls_of (call_sites c.args.places.now)) c.args.count c.requires.ranked c.args.numbers.now c.in_ok-order.order.items
    c.in_ok-order.ensures.order)
