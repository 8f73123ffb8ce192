use Rattle.std.proofs.Common.{◌≡◌, sym, subst, Some, List, ◌∷◌, ℕ}
use Rattle.std.specs.Prelude.{slice_get}
use Rattle.std.specs.Global.{Vec}
use Rattle.ep_call_graph.specs.declared.cycles.Group.{Group}
use Rattle.ep_call_graph.specs.Search.{SearchInvariantBut, IsCalled, tops}
use Rattle.ep_call_graph.specs.View.{listed}
use Rattle.ep_call_graph.proofs.Marks.{popped, last_top}
use Rattle.ep_call_graph.proofs.Steps.{one_group_less, settled_open}
use Rattle.ep_call_graph.proofs.cycles.Search.join.Goals as goal

pub loop-group-preserved : goal.loop-group-preserved
loop-group-preserved c =
    let s = c.loop-group.self in
    let next : ℕ → List ℕ = listed c.args.callees.now in
    let e : tops s.groups.items ≡ c.in-Some.group ∷ tops c.pop.new.self.items =
    popped s.groups c.pop.new.self c.pop.result c.in-Some.group c.pop.ensures.items c.pop.ensures.cases c.in-Some.ensures in
    let at : slice_get s.path.items c.args.place ≡ Some c.args.callee =
    subst (λ (v : Vec ℕ). slice_get v.items c.args.place ≡ Some c.args.callee) (sym c.loop-group.invariant.path) c.requires.at in
    let less = one_group_less next s.marks.items s.path.items c.in-Some.group (tops c.pop.new.self.items) s.pending.items s.done
    c.args.callee c.args.place
    (subst (λ (gs : List Group). SearchInvariantBut (Some c.args.callee) next s.marks.items s.path.items gs s.pending.items s.done) e c.loop-group.invariant.stands)
    at (subst (λ (gs : List Group). IsCalled next s.path.items gs c.args.callee) e c.loop-group.invariant.called)
    c.if-group-place.false in
    record {
      stands = less.0;
      called = less.1;
      marks = c.loop-group.invariant.marks;
      path = c.loop-group.invariant.path;
    }

pub returns-then-group-place-clause-stands : goal.returns-then-group-place-clause-stands
returns-then-group-place-clause-stands c =
    let s = c.loop-group.self in
    let at : slice_get s.path.items c.args.place ≡ Some c.args.callee =
    subst (λ (v : Vec ℕ). slice_get v.items c.args.place ≡ Some c.args.callee) (sym c.loop-group.invariant.path) c.requires.at in
    settled_open (listed c.args.callees.now) s.marks.items s.path.items (tops s.groups.items) s.pending.items s.done c.args.callee c.args.place
    c.loop-group.invariant.stands at (last_top (tops s.groups.items) c.in-Some.group c.args.place c.in-Some.ensures c.if-group-place.true)
