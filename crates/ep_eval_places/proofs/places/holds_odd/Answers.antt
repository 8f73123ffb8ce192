use Rattle.std.proofs.Common.{arith, ap, sym, ◌∙◌, rules, FitsSigned, to_z-of_z, refl}
use Rattle.std.specs.Int.{w128}
use Rattle.std.proofs.lemmas.Int.{ints}
use Rattle.ep_eval_places.proofs.Odd.{begins, nowhere, next, goes_on, found, smaller, fits_more}
use Rattle.ep_eval_places.proofs.places.holds_odd.Goals as goal

pub loop-z-init : goal.loop-z-init
loop-z-init g c =
    let f : FitsSigned w128 c.least-z.result = search rules in
    let h : FitsSigned w128 c.greatest-high.result = search rules in
    simp to_z-of_z (begins g.N.Num.ops g.met.N.Num.laws c.args.n c.args.offsets.now c.least-z.result
    c.greatest-high.result c.least-z.ensures c.greatest-high.ensures)

pub returns-in_default : goal.returns-in_default
returns-in_default g c =
    let h : FitsSigned w128 c.greatest-high.result = search rules in
    let t = simp (to_z-of_z, c.loop-z.z-is) at c.loop-z-test.true in
    let q = simp (to_z-of_z, c.loop-z.z-is) at c.next_held.ensures in
    let i = simp (to_z-of_z, c.loop-z.z-is) at c.loop-z.invariant in
    nowhere g.N.Num.ops g.met.N.Num.laws c.args.n c.args.offsets.now c.loop-z.z c.greatest-high.result
    (omega (arith, ints, t)) (sym q ∙ c.in_default.is) i

pub returns-then-is_odd_held : goal.returns-then-is_odd_held
returns-then-is_odd_held g c =
    let h : FitsSigned w128 c.greatest-high.result = search rules in
    let k : FitsSigned w128 c.in-Some.low = search rules in
    let q = simp (to_z-of_z, c.loop-z.z-is) at c.next_held.ensures in
    let i = simp (to_z-of_z, c.loop-z.z-is) at c.loop-z.invariant in
    let o = simp to_z-of_z at c.is_odd_held.ensures in
    let n = next g.N.Num.ops g.met.N.Num.laws c.args.n c.args.offsets.now c.loop-z.z c.greatest-high.result
    c.in-Some.low (sym q ∙ c.in-Some.is) i in
    found g.N.Num.ops g.met.N.Num.laws c.args.n c.args.offsets.now c.loop-z.z c.greatest-high.result c.in-Some.low n
    (sym o ∙ c.if-is_odd_held.true)

pub overflow_add-z : goal.overflow_add-z
overflow_add-z g c =
    let h : FitsSigned w128 c.greatest-high.result = search rules in
    let k : FitsSigned w128 c.in-Some.low = search rules in
    let q = simp (to_z-of_z, c.loop-z.z-is) at c.next_held.ensures in
    let i = simp (to_z-of_z, c.loop-z.z-is) at c.loop-z.invariant in
    let n = next g.N.Num.ops g.met.N.Num.laws c.args.n c.args.offsets.now c.loop-z.z c.greatest-high.result
    c.in-Some.low (sym q ∙ c.in-Some.is) i in
    simp to_z-of_z (fits_more g.N.Num.ops g.met.N.Num.laws c.args.n c.args.offsets.now c.loop-z.z
    c.greatest-high.result c.in-Some.low n i)

pub loop-z-smaller : goal.loop-z-smaller
loop-z-smaller g c =
    let h : FitsSigned w128 c.greatest-high.result = search rules in
    let k : FitsSigned w128 c.in-Some.low = search rules in
    let q = simp (to_z-of_z, c.loop-z.z-is) at c.next_held.ensures in
    let i = simp (to_z-of_z, c.loop-z.z-is) at c.loop-z.invariant in
    let n = next g.N.Num.ops g.met.N.Num.laws c.args.n c.args.offsets.now c.loop-z.z c.greatest-high.result
    c.in-Some.low (sym q ∙ c.in-Some.is) i in
    let f = fits_more g.N.Num.ops g.met.N.Num.laws c.args.n c.args.offsets.now c.loop-z.z c.greatest-high.result
    c.in-Some.low n i in
    simp (to_z-of_z, c.loop-z.z-is) (smaller g.N.Num.ops g.met.N.Num.laws c.args.n c.args.offsets.now c.loop-z.z
    c.greatest-high.result c.in-Some.low _ refl n)

pub loop-z-preserved : goal.loop-z-preserved
loop-z-preserved g c =
    let h : FitsSigned w128 c.greatest-high.result = search rules in
    let k : FitsSigned w128 c.in-Some.low = search rules in
    let q = simp (to_z-of_z, c.loop-z.z-is) at c.next_held.ensures in
    let i = simp (to_z-of_z, c.loop-z.z-is) at c.loop-z.invariant in
    let o = simp to_z-of_z at c.is_odd_held.ensures in
    let n = next g.N.Num.ops g.met.N.Num.laws c.args.n c.args.offsets.now c.loop-z.z c.greatest-high.result
    c.in-Some.low (sym q ∙ c.in-Some.is) i in
    let f = fits_more g.N.Num.ops g.met.N.Num.laws c.args.n c.args.offsets.now c.loop-z.z c.greatest-high.result
    c.in-Some.low n i in
    simp to_z-of_z (goes_on g.N.Num.ops g.met.N.Num.laws c.args.n c.args.offsets.now c.loop-z.z
    c.greatest-high.result c.in-Some.low _ refl n i (sym o ∙ c.if-is_odd_held.false))
