use Rattle.std.proofs.Common.{rules, ◌≡◌, ◌<◌, pos, ◌*ℤ◌, ◌-ℤ◌, ◌+ℤ◌, FitsSigned, to_z-of_z}
use Rattle.std.specs.Int.{w128}
use Rattle.ep_pointers.proofs.Exact.{fits}
use Rattle.ep_pointers.proofs.sum.exact_at.Goals as goal

pub returns-then-subtract : goal.returns-then-subtract
returns-then-subtract c =
    let a : FitsSigned w128 c.args.offset = search rules in
    let b : FitsSigned w128 c.args.count = search rules in
    let u : c.from.result ≡ pos c.args.unit = search rules in
    let v : FitsSigned w128 (pos c.args.unit) = search rules in
    let h : c.args.unit < 4294967296 = search rules in
    let f = fits c.args.offset c.args.count c.args.unit c.requires.offset c.requires.count h in
    let p : FitsSigned w128 (c.args.count *ℤ pos c.args.unit) = f.product in
    let s : FitsSigned w128 (c.args.offset -ℤ (c.args.count *ℤ pos c.args.unit)) = f.difference in
    rw (c.if-subtract.true, u) (simp to_z-of_z)

pub returns-else-subtract : goal.returns-else-subtract
returns-else-subtract c =
    let a : FitsSigned w128 c.args.offset = search rules in
    let b : FitsSigned w128 c.args.count = search rules in
    let u : c.from.result ≡ pos c.args.unit = search rules in
    let v : FitsSigned w128 (pos c.args.unit) = search rules in
    let h : c.args.unit < 4294967296 = search rules in
    let f = fits c.args.offset c.args.count c.args.unit c.requires.offset c.requires.count h in
    let p : FitsSigned w128 (c.args.count *ℤ pos c.args.unit) = f.product in
    let s : FitsSigned w128 (c.args.offset +ℤ (c.args.count *ℤ pos c.args.unit)) = f.sum in
    rw (c.if-subtract.false, u) (simp to_z-of_z)
