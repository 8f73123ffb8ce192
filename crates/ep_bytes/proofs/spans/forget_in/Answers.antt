use Rattle.std.proofs.Common.{◌+◌, sym, subst}
use Rattle.ep_bytes.proofs.Sweeps.{IsSwept, swept_more, swept_skip}
use Rattle.ep_bytes.proofs.spans.forget_in.Goals as goal
use Rattle.ep_bytes.proofs.spans.forget_in.Goals.{then-marks, else-marks}

pub loop-page-preserved : goal.loop-page-preserved
loop-page-preserved c =
    let b = c.args.block in
    let s = c.args.span in
    let page = c.loop-page.page in
    let old = c.args.bytes.now.items in
    let mid = c.loop-page.bytes.items in
    let swept = c.loop-page.invariant in
    elim c.if-marks.branch [
      | then-marks w ↦
          subst (λ v. IsSwept b s (page + 1) old v.items) (sym w.bytes-is)
          (swept_more b s page w.max.result w.min-then-marks.result old mid w.forget_run.new.bytes.items swept
          (c.marks.ensures.0 w.if-marks.true) w.max.ensures w.min-then-marks.ensures w.forget_run.ensures)
      | else-marks w ↦
          subst (λ v. IsSwept b s (page + 1) old v.items) (sym w.bytes-is)
          (swept_skip b s page old mid swept
          (λ e. (let f = c.marks.ensures.1 e in let g = w.if-marks.false in cc)))
    ]
