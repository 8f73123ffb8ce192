use Rattle.std.proofs.Common.{◌≡◌, ◌-◌, ◌∙◌, ap, sym, subst, true}
use Rattle.std.proofs.lemmas.Int.{to_z-of_z}
use Rattle.ep_bit_laws.specs.Patterns.{exactly, is_pattern}
use Rattle.ep_bit_laws.proofs.Patterns.{pattern_test, exact_pattern}
use Rattle.ep_bit_domain.specs.KnownBits.{single_of}
use Rattle.ep_bit_domain.proofs.Formed.{same_pattern}
use Rattle.ep_bit_domain.proofs.Simple.{single_pattern}
use Rattle.ep_bits.proofs.Machine.{both_masks}
use Rattle.ep_bits.proofs.known_bits.KnownBits.exactly.Goals as goal

pub invariant_of-result : goal.invariant_of-result
invariant_of-result c =
    let f = c.ranges.v in
    let e = simp to_z-of_z at c.low_bits-ones.ensures.value in (
      subst (λ n. is_pattern (36893488147419103231 - n) n ≡ true) (sym e)
          (pattern_test (exactly c.args.v) (exact_pattern c.args.v c.requires)),
      tt,
    )

pub returns : goal.returns
returns c =
    let f = c.ranges.v in
    let e = simp to_z-of_z at c.low_bits-ones.ensures.value in
    same_pattern _ (single_of c.args.v) (both_masks _ _ _ _ (ap (λ n. 36893488147419103231 - n) e) e ∙ sym
    (single_pattern c.args.v c.requires))
