use Rattle.std.proofs.Common.{◌≡◌, ◌+◌, arith, ap, ◌∙◌, ⊎_elim, inl, inr}
use Rattle.ep_bytes.specs.Cells.{cell_at, taken_from, unbroken}
use Rattle.ep_bytes.proofs.Written.{written_more}
use Rattle.ep_bytes.proofs.cells.Cells.move_in.Goals as goal

pub loop-k-preserved : goal.loop-k-preserved
loop-k-preserved c =
    let s = c.args.from.now in
    let old = c.args.self.now in
    let k = c.loop-k.k in
    let w = c.loop-k.invariant in
    let from = s.start + s.here + k in
    let here : cell_at c.loop-k.self from ≡ cell_at old from =
    w.outside from (⊎_elim (λ b. inr (omega arith)) (λ b. inl (omega arith)) c.requires.apart) in
    let x : c.kept-kept.result ≡ taken_from c.args.model old s k =
    c.kept-kept.ensures.value
    ∙ ap (λ b. unbroken c.args.model s.here s.count b (s.here + k)) (c.get-byte.ensures.value ∙ here) in
    rw c.put.ensures (written_more old c.loop-k.self c.args.at k (taken_from c.args.model old s) c.kept-kept.result w
    (omega arith) x)
