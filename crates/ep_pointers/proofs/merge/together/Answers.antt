use Rattle.std.proofs.Common.{rules, arith, ◌≡◌, ◌≤◌, ◌∷◌, [], ◌++◌, drop, length, ◌⊎◌, inl, inr}
use Rattle.ep_pointers.specs.Parts.{united}
use Rattle.ep_pointers.proofs.Merging.{turn, whole, takes}
use Rattle.ep_pointers.proofs.merge.together.Goals as goal
use Rattle.ep_pointers.proofs.merge.together.Goals.{then-loop-i-test+else-j-y, else-loop-i-test}

pub loop-i-preserved : goal.loop-i-preserved
loop-i-preserved g c =
    let f = united g.N.Num.ops c.args.union in
    let items : c.push.new.self.items ≡ c.loop-i.targets.items ++ c.first-first.result.target ∷ [] = search rules in
    let t = takes f c.index-x-i.result c.index-y-j.result c.first-first.result c.first-first.ensures in
    record {
      left = omega (arith, t.left);
      right = omega (arith, t.right);
      rest = rw items (turn f c.args.x.now c.args.y.now c.loop-i.targets.items c.loop-i.i c.loop-i.j
          c.index-x-i.result c.index-y-j.result c.first-first.result c.first-first.ensures c.requires.left
          c.requires.right c.loop-i-test.true c.if-j-y.true c.index-x-i.is c.index-y-j.is c.loop-i.invariant.rest);
    }

pub loop-i-smaller : goal.loop-i-smaller
loop-i-smaller g c =
    let t = takes (united g.N.Num.ops c.args.union) c.index-x-i.result c.index-y-j.result c.first-first.result
    c.first-first.ensures in
    omega (arith, t.left, t.right, t.some)

pub returns : goal.returns
returns g c =
    let f = united g.N.Num.ops c.args.union in
    let out = c.loop-i.targets.items in
    let first : c.append.new.targets.items ≡ out ++ drop c.loop-i.i c.args.x.now = search rules in
    let second : c.append-2.new.targets.items ≡ c.append.new.targets.items ++ drop c.loop-i.j c.args.y.now = search
    rules in
    let over : (length c.args.x.now ≤ c.loop-i.i) ⊎ (length c.args.y.now ≤ c.loop-i.j) = elim c.loop-i-test.branch
    [ then-loop-i-test+else-j-y w ↦ inr w.if-j-y.false | else-loop-i-test w ↦ inl w.loop-i-test.false ] in
    rw (second, first) (whole f c.args.x.now c.args.y.now out c.loop-i.i c.loop-i.j c.requires.right over
    c.loop-i.invariant.rest)
