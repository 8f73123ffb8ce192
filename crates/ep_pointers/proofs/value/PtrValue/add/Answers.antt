use Rattle.std.proofs.Common.{rules, ◌≡◌, ℕ, ◌<◌, ◌↔◌, IsTrue, get_or, sym, ◌∙◌, subst}
use Rattle.ep_pointers.specs.Value.{IsRising}
use Rattle.ep_pointers.specs.Sum.{move, moved, moved_targets, may_leave, MayLeave, shown_of, ShowsResults, HoldsSums}
use Rattle.ep_pointers.specs.Sum.{MovesOne, KeepsStride}
use Rattle.ep_pointers.proofs.Moving.{rising_moved, sums_held}
use Rattle.ep_pointers.proofs.MovingOne.{moves_one, keeps_stride}
use Rattle.ep_pointers.proofs.Leaving.{leaves_so, least_shown}
use Rattle.ep_pointers.proofs.value.PtrValue.add.Goals as goal

pub of_targets-requires : goal.of_targets-requires
of_targets-requires g c =
    let left : IsRising c.args.self.now.targets = subst (λ p. IsRising p.targets) c.self.view_is c.self.invariant in
    let m = move c.args.delta.now c.args.unit c.args.subtract in
    let e : c.in_ok-targets.targets.items ≡ moved_targets g.N.Num.ops m c.args.sizes.now c.args.self.now.targets =
    search rules in
    subst IsRising (sym e) (rising_moved g.N.Num.ops m c.args.sizes.now c.args.self.now.targets left)

pub returns-clause-holds : goal.returns-clause-holds
returns-clause-holds g c =
    let left : IsRising c.args.self.now.targets = subst (λ p. IsRising p.targets) c.self.view_is c.self.invariant in
    let m = move c.args.delta.now c.args.unit c.args.subtract in
    let e : c.of_targets.result ≡ moved g.N.Num.ops m c.args.sizes.now c.args.self.now = search rules in
    let fits : c.args.unit < 4294967296 = search rules in
    let sizes : (i : ℕ) → get_or c.args.sizes.now i 0 < 4294967296 = λ i. (c.type_inv.sizes i).fits in
    subst (HoldsSums g.N.Num.ops m c.args.sizes.now c.args.self.now) (sym e)
    (sums_held g.N.Num.ops g.met.N.Num.laws m c.args.sizes.now c.args.self.now sizes c.requires fits left)

pub returns-clause-one : goal.returns-clause-one
returns-clause-one g c =
    let m = move c.args.delta.now c.args.unit c.args.subtract in
    let e : c.of_targets.result ≡ moved g.N.Num.ops m c.args.sizes.now c.args.self.now = search rules in
    let fits : c.args.unit < 4294967296 = search rules in
    subst (MovesOne g.N.Num.ops m c.args.sizes.now c.args.self.now) (sym e)
    (moves_one g.N.Num.ops g.met.N.Num.laws m c.args.sizes.now c.args.self.now fits)

pub returns-clause-strides : goal.returns-clause-strides
returns-clause-strides g c =
    let left : IsRising c.args.self.now.targets = subst (λ p. IsRising p.targets) c.self.view_is c.self.invariant in
    let m = move c.args.delta.now c.args.unit c.args.subtract in
    let e : c.of_targets.result ≡ moved g.N.Num.ops m c.args.sizes.now c.args.self.now = search rules in
    let fits : c.args.unit < 4294967296 = search rules in
    subst (KeepsStride g.N.Num.ops m c.args.self.now) (sym e) (keeps_stride g.N.Num.ops g.met.N.Num.laws m
    c.args.sizes.now c.args.self.now fits left)

pub returns-clause-leaves : goal.returns-clause-leaves
returns-clause-leaves g c =
    let left : IsRising c.args.self.now.targets = subst (λ p. IsRising p.targets) c.self.view_is c.self.invariant in
    let m = move c.args.delta.now c.args.unit c.args.subtract in
    let e : c.may_leave.result ≡ may_leave g.N.Num.ops m c.args.sizes.now c.args.self.now.targets = search rules in
    subst (λ b. IsTrue b ↔ MayLeave g.N.Num.ops m c.args.sizes.now c.args.self.now.targets) (sym e)
    (leaves_so g.N.Num.ops g.met.N.Num.laws c.args.delta.now c.args.unit c.args.subtract c.args.sizes.now
    c.args.self.now.targets left)

pub returns-clause-least : goal.returns-clause-least
returns-clause-least g c = λ out.
    let left : IsRising c.args.self.now.targets = subst (λ p. IsRising p.targets) c.self.view_is c.self.invariant in
    let m = move c.args.delta.now c.args.unit c.args.subtract in
    let e : c.may_leave.result ≡ may_leave g.N.Num.ops m c.args.sizes.now c.args.self.now.targets = search rules in
    let f : c.shown.result ≡ shown_of g.N.Num.ops m c.args.self.now.targets = search rules in
    subst (ShowsResults g.N.Num.ops m c.args.self.now.targets) (sym f) (least_shown g.N.Num.ops g.met.N.Num.laws
    c.args.delta.now c.args.unit c.args.subtract c.args.sizes.now c.args.self.now.targets left (sym e ∙ out))
