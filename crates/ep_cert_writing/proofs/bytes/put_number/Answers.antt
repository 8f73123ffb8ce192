use Rattle.std.proofs.Common.{rules, FitsSigned, ℤ, pos, ap, ◌∙◌}
use Rattle.std.specs.Int.{w128}
use Rattle.std.proofs.lemmas.Int.{to_z-of_z}
use Rattle.ep_interval_laws.specs.Interval.{Interval}
use Rattle.ep_congruence_domain.specs.Congruence.{Congruence}
use Rattle.ep_cert_writing.proofs.Written.{number_written}
use Rattle.ep_cert_writing.proofs.bytes.put_number.Goals as goal

pub returns : goal.returns
returns c =
    let f : FitsSigned w128 c.range-range.result.0 = search rules in
    let g : FitsSigned w128 c.range-range.result.1 = search rules in
    let h : FitsSigned w128 c.remainder.result = search rules in
    let k : FitsSigned w128 c.modulus.result = search rules in
    let lo = simp to_z-of_z at c.in_ok-put_signed.ensures in
    let hi = simp to_z-of_z at c.in_ok-put_signed-2.ensures in
    let remainder = simp to_z-of_z at c.in_ok-put_signed-3.ensures in
    let modulus = simp to_z-of_z at c.put_signed-4.ensures in
    number_written c.put_signed-4.result c.args.number.now c.range-range.result.0 c.range-range.result.1
    c.remainder.result c.modulus.result _ _ _ _ _
    (ap (λ (p : ℤ × ℤ). p.0) c.range-range.ensures ∙ ap (λ (i : Interval). i.lo) c.left.ensures)
    (ap (λ (p : ℤ × ℤ). p.1) c.range-range.ensures ∙ ap (λ (i : Interval). i.hi) c.left.ensures)
    (c.remainder.ensures.value ∙ ap (λ (d : Congruence). d.remainder) c.right.ensures)
    (c.modulus.ensures.value ∙ ap (λ (d : Congruence). pos d.modulus) c.right-2.ensures) lo hi remainder modulus
