use Rattle.std.proofs.Common.{rules, ◌≡◌, ◌↔◌, sym, subst}
use Rattle.ep_pointers.specs.Value.{IsRising, without, pointers, HoldsPointer, IsInto}
use Rattle.ep_pointers.proofs.Holding.{rising_kept, forgotten}
use Rattle.ep_pointers.proofs.value.PtrValue.forget.Goals as goal

pub invariant_of-self : goal.invariant_of-self
invariant_of-self g c = subst IsRising (sym c.forget.ensures) (rising_kept g.N.Num.ops g.met.N.Num.laws c.args.block
    c.self.inside.targets.items c.self.invariant)

pub returns-clause-others : goal.returns-clause-others
returns-clause-others g c =
    let d = g.N.Num.ops in
    let e : pointers c.self.inside.null c.forget.new.targets.items ≡ without c.args.block c.args.self.now = search
    rules in
    λ x. subst (λ r. HoldsPointer d r x ↔ (HoldsPointer d c.args.self.now x × (IsInto c.args.block x
    → ⊥))) (sym e) (forgotten d g.met.N.Num.laws c.args.block c.args.self.now x)
