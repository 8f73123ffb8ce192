use Rattle.std.proofs.Common.{refl, ◌+ℤ◌, ◌-ℤ◌, pos}
use Rattle.std.proofs.lemmas.Int.{to_z-of_z}
use Rattle.ep_int.specs.declared.types.Cmp.TheVariants.{Lt, Le, Gt, Ge}
use Rattle.ep_interval_laws.specs.Interval.{overlap}
use Rattle.ep_intervals.proofs.Machine.{seen, seen_overlap, low_fits, high_fits, above_fits, below_fits, zipped}
use Rattle.ep_intervals.proofs.interval.IntervalNum.filter.Goals as goal

pub returns-in-Lt : goal.returns-in-Lt
returns-in-Lt c =
    let a = seen c.x.inside in let b = seen c.y.inside in
    let p = low_fits a in let q = high_fits a in let r = low_fits b in let s = high_fits b in
    let u = above_fits a in let v = below_fits b in
    let m = simp to_z-of_z at c.overlap.ensures in
    let n = simp to_z-of_z at c.overlap-in-Lt.ensures in
    rw (← c.x.view_is, ← c.y.view_is) (zipped a b c.args.c Lt c.zip-in-Lt.result c.overlap.result c.overlap-in-Lt.result (overlap a a.lo (b.hi -ℤ pos 1)) (overlap b (a.lo +ℤ pos 1) b.hi) c.in-Lt.is refl (seen_overlap _ _ c.x.view_is m) (seen_overlap _ _ c.y.view_is n) c.zip-in-Lt.ensures)

pub returns-in-Le : goal.returns-in-Le
returns-in-Le c =
    let a = seen c.x.inside in let b = seen c.y.inside in
    let p = low_fits a in let q = high_fits a in let r = low_fits b in let s = high_fits b in
    let m = simp to_z-of_z at c.overlap-in-Le.ensures in
    let n = simp to_z-of_z at c.overlap-in-Le-2.ensures in
    rw (← c.x.view_is, ← c.y.view_is) (zipped a b c.args.c Le c.zip-in-Le.result c.overlap-in-Le.result c.overlap-in-Le-2.result (overlap a a.lo b.hi) (overlap b a.lo b.hi) c.in-Le.is refl (seen_overlap _ _ c.x.view_is m) (seen_overlap _ _ c.y.view_is n) c.zip-in-Le.ensures)

pub returns-in-Gt : goal.returns-in-Gt
returns-in-Gt c =
    let a = seen c.x.inside in let b = seen c.y.inside in
    let p = low_fits a in let q = high_fits a in let r = low_fits b in let s = high_fits b in
    let u = above_fits b in let v = below_fits a in
    let m = simp to_z-of_z at c.overlap-in-Gt.ensures in
    let n = simp to_z-of_z at c.overlap-in-Gt-2.ensures in
    rw (← c.x.view_is, ← c.y.view_is) (zipped a b c.args.c Gt c.zip-in-Gt.result c.overlap-in-Gt.result c.overlap-in-Gt-2.result (overlap a (b.lo +ℤ pos 1) a.hi) (overlap b b.lo (a.hi -ℤ pos 1)) c.in-Gt.is refl (seen_overlap _ _ c.x.view_is m) (seen_overlap _ _ c.y.view_is n) c.zip-in-Gt.ensures)

pub returns-in-Ge : goal.returns-in-Ge
returns-in-Ge c =
    let a = seen c.x.inside in let b = seen c.y.inside in
    let p = low_fits a in let q = high_fits a in let r = low_fits b in let s = high_fits b in
    let m = simp to_z-of_z at c.overlap-in-Ge.ensures in
    let n = simp to_z-of_z at c.overlap-in-Ge-2.ensures in
    rw (← c.x.view_is, ← c.y.view_is) (zipped a b c.args.c Ge c.zip-in-Ge.result c.overlap-in-Ge.result c.overlap-in-Ge-2.result (overlap a b.lo a.hi) (overlap b b.lo a.hi) c.in-Ge.is refl (seen_overlap _ _ c.x.view_is m) (seen_overlap _ _ c.y.view_is n) c.zip-in-Ge.ensures)
