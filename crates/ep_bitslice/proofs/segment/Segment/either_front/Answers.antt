use Rattle.std.proofs.Common.{◌≡◌, ℕ, ◌≤◌, Option, Some, None, IfNone, List, take, false, ◌++◌, sym, ap, ◌∙◌, arith}
use Rattle.ep_bitslice.specs.Bits.{Bit, are_disjoint}
use Rattle.ep_bitslice.specs.declared.segment.Segment.{Segment}
use Rattle.ep_bitslice.specs.Segments.{segment_width, segment_bits}
use Rattle.ep_bitslice.proofs.Joining.{length-segment_bits}
use Rattle.ep_bitslice.proofs.Cuts.{not_disjoint}
use Rattle.ep_bitslice.proofs.segment.Segment.either_front.Goals as goal

not_in_front : (r : Option Segment) (s o f g : Segment) (k : ℕ) → k ≤ segment_width s → k ≤ segment_width o → segment_bits f ≡ take k (segment_bits s) → segment_bits g ≡ take k (segment_bits o) → IfNone r (are_disjoint (segment_bits f) (segment_bits g) ≡ false) → IfNone r ((xs ys : List Bit) → are_disjoint (segment_bits s ++ xs) (segment_bits o ++ ys) ≡ false)
not_in_front (Some r) s o f g k p q a b h = tt
not_in_front None s o f g k p q a b h = λ xs ys.
    not_disjoint (segment_bits s) (segment_bits o) xs ys k (omega (arith, length-segment_bits s)) (omega (arith, length-segment_bits o))
    (ap (λ zs. are_disjoint zs (take k (segment_bits o))) (sym a) ∙ ap (λ zs. are_disjoint (segment_bits f) zs) (sym b) ∙ h)

pub returns-clause-none : goal.returns-clause-none
returns-clause-none c =
    not_in_front c.either.result c.args.self.now c.args.other.now c.first.result c.first-2.result c.min-count.result (omega arith) (omega arith) c.first.ensures.bits c.first-2.ensures.bits c.either.ensures.none
