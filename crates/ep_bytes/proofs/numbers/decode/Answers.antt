use Rattle.std.proofs.Common.{◌≡◌, ℕ, ◌+◌, ◌*◌, ◌^◌, ◌<◌, ◌≤◌, pos, FitsSigned, arith, rules, ap, sym, ◌∙◌, subst}
use Rattle.std.proofs.Common.{slice_index}
use mir.Val.{hbits}
use Rattle.std.specs.Int.{w128}
use Rattle.std.proofs.lemmas.Int.{to_z-of_z, to_z_pos}
use Rattle.ep_int.specs.Types.{bytes_of, wrapped}
use Rattle.ep_int.specs.Encoding.{place, sum_of_bytes}
use Rattle.ep_bytes.proofs.Sums.{decoded_by_sum, unit_small, scaled}
use Rattle.ep_bytes.proofs.numbers.decode.Goals as goal

unit_fits : (c : goal.After-from) → c.loop-k.unit ≤ 2 ^ 64
unit_fits c =
    let k : c.loop-k.k ≤ 8 = omega arith in
    subst (λ n. n ≤ 2 ^ 64) (sym c.loop-k.invariant.unit) (unit_small c.loop-k.k k)

part_fits : (c : goal.After-from) → c.from.result * c.loop-k.unit + c.loop-k.unit ≤ 256 * 2 ^ 64
part_fits c =
    let b = c.type_inv.bytes c.place.result in
    let small : c.from.result < 256 = omega (arith, c.from.ensures, b) in
    scaled c.from.result c.loop-k.unit small (unit_fits c)

pub overflow_mul-sum : goal.overflow_mul-sum
overflow_mul-sum c = omega (arith, part_fits c)

pub overflow_add-sum : goal.overflow_add-sum
overflow_add-sum c = omega (arith, part_fits c)

pub overflow_mul-unit : goal.overflow_mul-unit
overflow_mul-unit c = omega (arith, unit_fits c)

byte_fits : (c : goal.After-wrap) (p : ℕ) → slice_index c.args.bytes.now p < 256
byte_fits c p = let b = c.type_inv.bytes p in omega (arith, b)

sum_fits : (c : goal.After-wrap) → c.loop-k.sum < 2 ^ hbits w128
sum_fits c =
    let k : c.loop-k.k ≤ 8 = omega arith in
    let u : c.loop-k.unit ≤ 2 ^ 64 = subst (λ n. n ≤ 2 ^ 64) (sym c.loop-k.invariant.unit) (unit_small c.loop-k.k k) in
    omega (arith, c.loop-k.invariant.below)

pub returns-clause-value : goal.returns-clause-value
returns-clause-value c =
    let b : ℕ → ℕ = λ p. slice_index c.args.bytes.now p in
    let fits : FitsSigned w128 c.wrap.result = search rules in
    let k : c.loop-k.k ≡ bytes_of c.args.t = omega arith in
    let sum : c.loop-k.sum ≡ sum_of_bytes (λ k. b (place c.args.order (bytes_of c.args.t) k)) (bytes_of c.args.t) =
    c.loop-k.invariant.sum ∙ ap (sum_of_bytes (λ k. b (place c.args.order (bytes_of c.args.t) k))) k in
    to_z-of_z w128 c.wrap.result fits ∙ c.wrap.ensures.value
    ∙ ap (wrapped c.args.t) (to_z_pos w128 c.loop-k.sum (sum_fits c) ∙ ap pos sum)
    ∙ decoded_by_sum c.args.order c.args.t b (byte_fits c)
