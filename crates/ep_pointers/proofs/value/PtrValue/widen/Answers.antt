use Rattle.std.proofs.Common.{rules, ◌≡◌, ◌||◌, sym, subst}
use Rattle.ep_pointers.specs.Value.{IsRising, pointers, together}
use Rattle.ep_pointers.proofs.Lists.{rising_together, offsets_together}
use Rattle.ep_pointers.proofs.Holding.{both_held, widen_operands, keeps_ranks}
use Rattle.ep_pointers.proofs.value.PtrValue.widen.Goals as goal

pub invariant_of-result : goal.invariant_of-result
invariant_of-result g c =
    let left : IsRising c.args.self.now.targets = subst (λ p. IsRising p.targets) c.self.view_is c.self.invariant in
    let e : c.in_ok-targets.targets.items ≡ together g.N.Num.ops.widen c.args.self.now.targets c.args.o.now.targets =
    search rules in
    subst IsRising (sym e) (rising_together g.N.Num.ops.widen c.args.self.now.targets c.args.o.now.targets left)

pub returns-clause-offsets : goal.returns-clause-offsets
returns-clause-offsets g c =
    let left : IsRising c.args.self.now.targets = subst (λ p. IsRising p.targets) c.self.view_is c.self.invariant in
    let right : IsRising c.args.o.now.targets = subst (λ p. IsRising p.targets) c.o.view_is c.o.invariant in
    let e : c.in_ok-targets.targets.items ≡ together g.N.Num.ops.widen c.args.self.now.targets c.args.o.now.targets =
    search rules in
    offsets_together g.N.Num.ops.widen c.args.self.now c.args.o.now c.in_ok-targets.targets.items left right e

pub returns-clause-holds : goal.returns-clause-holds
returns-clause-holds g c =
    let left : IsRising c.args.self.now.targets = subst (λ p. IsRising p.targets) c.self.view_is c.self.invariant in
    let right : IsRising c.args.o.now.targets = subst (λ p. IsRising p.targets) c.o.view_is c.o.invariant in
    let e : c.in_ok-targets.targets.items ≡ together g.N.Num.ops.widen c.args.self.now.targets c.args.o.now.targets =
    search rules in
    let null : (c.self.inside.null || c.o.inside.null) ≡ (c.args.self.now.null || c.args.o.now.null) = search rules in
    both_held g.N.Num.ops g.met.N.Num.laws g.N.Num.ops.widen (widen_operands g.N.Num.ops g.met.N.Num.laws)
    c.args.self.now c.args.o.now (pointers (c.self.inside.null || c.o.inside.null) c.in_ok-targets.targets.items)
    null
    (offsets_together g.N.Num.ops.widen c.args.self.now c.args.o.now c.in_ok-targets.targets.items left right e)

pub returns-clause-ranks : goal.returns-clause-ranks
returns-clause-ranks g c = λ high.
    let left : IsRising c.args.self.now.targets = subst (λ p. IsRising p.targets) c.self.view_is c.self.invariant in
    let right : IsRising c.args.o.now.targets = subst (λ p. IsRising p.targets) c.o.view_is c.o.invariant in
    let e : c.in_ok-targets.targets.items ≡ together g.N.Num.ops.widen c.args.self.now.targets c.args.o.now.targets =
    search rules in
    let null : (c.self.inside.null || c.o.inside.null) ≡ (c.args.self.now.null || c.args.o.now.null) = search rules in
    keeps_ranks g.N.Num.ops g.met.N.Num.laws high c.args.self.now c.args.o.now
    (pointers (c.self.inside.null || c.o.inside.null) c.in_ok-targets.targets.items) right null
    (offsets_together g.N.Num.ops.widen c.args.self.now c.args.o.now c.in_ok-targets.targets.items left right e)
