use Rattle.std.proofs.Common.{ℕ, ◌+◌, sym, subst, List}
use Rattle.std.specs.Global.{Vec}
use Rattle.ep_call_graph.specs.declared.cycles.Group.{Group}
use Rattle.ep_call_graph.specs.Search.{SearchInvariant, tops}
use Rattle.ep_call_graph.specs.View.{listed}
use Rattle.ep_call_graph.proofs.Steps.{close_is}
use Rattle.ep_call_graph.proofs.cycles.Search.close.Goals as goal

pub returns-clause-stands : goal.returns-clause-stands
returns-clause-stands c =
    let next : ℕ → List ℕ = listed c.args.callees.now in
    let a = close_is next c.args.self.now.marks.items c.finish.new.self.marks.items c.args.self.now.path.items c.finish.new.self.path.items
    c.args.self.now.groups.items c.pop.new.self.items c.in-Some.group c.args.self.now.pending.items c.args.self.now.done
    c.in-Some.ensures.items c.requires.stands c.requires.none_waits c.finish.ensures.path c.finish.ensures.marks in
    let b = subst (λ (gs : Vec Group). SearchInvariant next c.finish.new.self.marks.items c.finish.new.self.path.items (tops gs.items) c.args.self.now.pending.items (c.args.self.now.done + 1)) (sym c.finish.ensures.groups) a in
    let d = subst (λ (ps : Vec ℕ). SearchInvariant next c.finish.new.self.marks.items c.finish.new.self.path.items (tops c.finish.new.self.groups.items) ps.items (c.args.self.now.done + 1)) (sym c.finish.ensures.pending) b in
    subst (λ (k : ℕ). SearchInvariant next c.finish.new.self.marks.items c.finish.new.self.path.items (tops c.finish.new.self.groups.items) c.finish.new.self.pending.items k) (sym c.in-Some-checked_add.ensures.1) d
