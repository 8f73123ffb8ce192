use Rattle.std.proofs.Common.{Option, ap, sym, ◌∙◌, subst}
use Rattle.std.proofs.lemmas.Result.{err_from_is_err_and}
use Rattle.ep_elaboration.specs.Calls.{Call}
use Rattle.ep_elaboration.specs.Programs.{none_breaks}
use Rattle.ep_operands.specs.Refinement.{Stops}
use Rattle.ep_call_graph.specs.View.{call_sites}
use Rattle.ep_typer_checks.proofs.Labelling.{all_within, by_labels, ranks}
use Rattle.ep_typer_checks.proofs.cycles.none_recurs.Goals as goal

pub labels-requires : goal.labels-requires
labels-requires c =
    all_within c.args.count (call_sites c.args.places.now) c.requires.within c.in_ok-lists.lists c.deref.result.now c.deref.ensures.value
    c.in_ok-lists.ensures.lists c.in_ok-lists.ensures.count

pub returns-in_err-none_closes-clause-means : goal.returns-in_err-none_closes-clause-means
returns-in_err-none_closes-clause-means c =
    let p = err_from_is_err_and c.from_residual-in_err-none_closes.result c.from_residual-in_err-none_closes.ensures.1 in
    rw (p.1, p.2) (subst (λ (o : Option Call). Stops (none_breaks 35 o) c.in_err-none_closes.field-0.0)
    (by_labels c.args.count (call_sites c.args.places.now) c.requires.within c.in_ok-lists.lists c.deref.result.now
    c.deref.ensures.value c.in_ok-lists.ensures.lists c.in_ok-labels.labels.items c.deref-2.result.now c.deref-2.ensures.value c.args.main
    c.in_ok-labels.ensures.labels) c.in_err-none_closes.ensures)

pub returns-clause-means : goal.returns-clause-means
returns-clause-means c =
    ap (none_breaks 35) (sym (by_labels c.args.count (call_sites c.args.places.now) c.requires.within c.in_ok-lists.lists c.deref.result.now
    c.deref.ensures.value c.in_ok-lists.ensures.lists c.in_ok-labels.labels.items c.deref-2.result.now c.deref-2.ensures.value c.args.main
    c.in_ok-labels.ensures.labels)) ∙ c.in_ok-none_closes.ensures

pub returns-clause-ranked : goal.returns-clause-ranked
returns-clause-ranked c =
    ranks c.args.count (call_sites c.args.places.now) c.requires.within c.in_ok-lists.lists c.deref.result.now c.deref.ensures.value
    c.in_ok-lists.ensures.lists c.in_ok-labels.labels.items c.deref-2.result.now c.deref-2.ensures.value c.args.main
    c.in_ok-labels.ensures.labels c.requires.some c.in_ok-none_closes.ensures
