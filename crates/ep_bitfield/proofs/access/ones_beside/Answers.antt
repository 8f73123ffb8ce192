use Rattle.std.proofs.Common.{◌-◌, ◌*◌, ◌%◌, ◌^◌, ℕ, ap, ap₂, arith, ◌∙◌}
use Rattle.ep_bitfield.proofs.Masks.{ones_kept, ones_moved}
use Rattle.ep_bitfield.proofs.access.ones_beside.Goals as goal

pub overflow_sub-result : goal.overflow_sub-result
overflow_sub-result c =
    let moved = ap (λ n. n * 2 ^ c.args.shift % 2 ^ 64) c.ones-2.ensures ∙ ones_kept c.args.width c.args.shift c.requires in
    let below = ones_moved c.args.width c.args.shift c.requires in
    omega (arith, moved, below, c.ones.ensures)

pub returns : goal.returns
returns c =
    let moved = ap (λ n. n * 2 ^ c.args.shift % 2 ^ 64) c.ones-2.ensures ∙ ones_kept c.args.width c.args.shift c.requires in
    ap₂ (λ (m n : ℕ). m - n) c.ones.ensures moved
