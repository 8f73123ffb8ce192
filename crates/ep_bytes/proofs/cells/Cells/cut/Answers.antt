use Rattle.std.proofs.Common.{◌≡◌, ◌+◌, arith, ap, ◌∙◌, inr}
use Rattle.ep_bytes.specs.Cells.{cell_at, cut_by, unbroken}
use Rattle.ep_bytes.proofs.Written.{written_more}
use Rattle.ep_bytes.proofs.cells.Cells.cut.Goals as goal

pub loop-k-preserved : goal.loop-k-preserved
loop-k-preserved c =
    let s = c.args.place.now in
    let old = c.args.self.now in
    let k = c.loop-k.k in
    let w = c.loop-k.invariant in
    let at = s.start + c.args.low in
    let here : cell_at c.loop-k.self (at + k) ≡ cell_at old (at + k) = w.outside (at + k) (inr (omega arith)) in
    let x : c.kept-kept.result ≡ cut_by c.args.model old s c.args.low k =
    c.kept-kept.ensures.value
    ∙ ap (λ b. unbroken c.args.model s.here s.count b (c.args.low + k)) (c.get-byte.ensures.value ∙ here) in
    rw c.put.ensures (written_more old c.loop-k.self at k (cut_by c.args.model old s c.args.low) c.kept-kept.result w
    (omega arith) x)
