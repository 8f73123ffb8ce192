use Rattle.std.proofs.Common.{◌≡◌, List, sym, ◌∙◌, subst}
use Rattle.ep_bitslice.specs.declared.segment.Segment.{Segment}
use Rattle.ep_bitslice.specs.Bits.{Numbers, AgreeOn}
use Rattle.ep_bitslice.specs.Segments.{IsForm, AreSegments, bits, number}
use Rattle.ep_bitslice.proofs.Numbers.{number-bits}
use Rattle.ep_bitslice.proofs.Operations.{number-agree}
use Rattle.ep_bitslice.proofs.Walks.{segment_at}
use Rattle.ep_bitslice.proofs.form.Form.mentions.Goals as goal

pub mentions-requires : goal.mentions-requires
mentions-requires c =
    let a = c.segments-s-items.ensures in
    segment_at c.segments-s-items.result.now _ _ (subst AreSegments (sym a.value) a.form.segments) c.loop-s-test.true

by_mentioned : (ss : List Segment) (n m : Numbers) → IsForm ss → AgreeOn (bits ss) n m → number n ss ≡ number m ss
by_mentioned ss n m f h =
    number-bits n ss f.segments ∙ number-agree n m (bits ss) h ∙ sym (number-bits m ss f.segments)

pub returns-then-mentions-clause-mentioned : goal.returns-then-mentions-clause-mentioned
returns-then-mentions-clause-mentioned c = λ n m h. by_mentioned c.args.self.now n m c.segments-s-items.ensures.form h

pub returns-clause-mentioned : goal.returns-clause-mentioned
returns-clause-mentioned c = λ n m h. by_mentioned c.args.self.now n m c.segments-s-items.ensures.form h
