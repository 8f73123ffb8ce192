use Rattle.std.proofs.Common.{ℕ, [], List, length, arith, ap, sym, ◌∙◌, subst, map, rules}
use Rattle.std.specs.Prelude.{slice_index}
use Rattle.ep_elaboration.specs.Leads.{IsLabelled}
use Rattle.ep_call_graph.specs.declared.cycles.Group.{Group}
use Rattle.ep_call_graph.specs.Search.{AreAll, SearchInvariant, label_of, tops}
use Rattle.ep_call_graph.specs.View.{listed}
use Rattle.ep_call_graph.proofs.Lists.{len_is}
use Rattle.ep_call_graph.proofs.Steps.{labelled}
use Rattle.ep_call_graph.proofs.cycles.labels.Goals as goal

pub loop-f-init : goal.loop-f-init
loop-f-init c = record {
  stands = c.in_ok-search.ensures.stands (listed c.args.callees.now);
  none = c.in_ok-search.ensures.groups;
  count = search (rules, len_is);
  come = λ x l h. absurd (omega arith);
}

pub returns-clause-labels : goal.returns-clause-labels
returns-clause-labels c =
    let s = c.loop-f.search in
    let next : ℕ → List ℕ = listed c.args.callees.now in
    let stands : SearchInvariant next s.marks.items s.path.items [] s.pending.items s.done =
    subst (λ (gs : List Group). SearchInvariant next s.marks.items s.path.items (tops gs) s.pending.items s.done) c.loop-f.invariant.none c.loop-f.invariant.stands in
    let all : AreAll (length s.marks.items) next =
    subst (λ (n : ℕ). AreAll n next) (sym c.loop-f.invariant.count) c.requires in
    subst (λ (xs : List ℕ). IsLabelled next (λ f. slice_index xs f)) (sym (c.in_ok-all.ensures ∙ ap (map label_of) c.deref.ensures.value))
    (labelled next s.marks.items s.path.items s.pending.items s.done stands all
    (λ x l. c.loop-f.invariant.come x (omega (arith, l, c.loop-f.invariant.count, c.loop-f-test.false))))
