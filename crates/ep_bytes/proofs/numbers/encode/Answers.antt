use Rattle.std.proofs.Common.{◌≡◌, ◌<◌, ◌≢◌, length, arith, ap, ◌∙◌, below_more, slice_set, get_or, get_or-set_same}
use Rattle.std.proofs.Common.{get_or-set_other, length-set}
use Rattle.ep_int.specs.Encoding.{byte_of, place}
use Rattle.ep_bytes.proofs.numbers.encode.Goals as goal

pub loop-p-preserved : goal.loop-p-preserved
loop-p-preserved c =
    let p = c.loop-p.p in
    let all = c.loop-p.all in
    let x = c.byte_at.result in
    let n = c.pattern-n.result in
    let w = c.bytes-width.result in
    let l : p < length all = omega (arith, c.loop-p.invariant.len) in
    let e : x ≡ byte_of (place c.args.order w p) n =
    c.byte_at.ensures ∙ ap (λ k. byte_of k n) c.place.ensures.value in
    record {
      len = length-set all p x ∙ c.loop-p.invariant.len;
      before = below_more (λ q. get_or (slice_set all p x) q 0 ≡ byte_of (place c.args.order w q) n) p
          (λ q b. (let apart : q ≢ p = omega arith in get_or-set_other all p q x 0 apart
          ∙ c.loop-p.invariant.before q b))
          (get_or-set_same all p x 0 l ∙ e);
      after = λ q b.
          (let apart : q ≢ p = omega arith in
          get_or-set_other all p q x 0 apart ∙ c.loop-p.invariant.after q (omega arith));
    }
