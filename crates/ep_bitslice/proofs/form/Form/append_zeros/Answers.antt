use Rattle.std.proofs.Common.{◌≡◌, ℕ, ◌++◌, List, sym, ap, ◌∙◌, subst}
use Rattle.ep_bitslice.proofs.NormalForm.{append_nothing}
use Rattle.ep_bitslice.specs.declared.segment.Segment.{Segment}
use Rattle.ep_bitslice.specs.Bits.{Bit, zeros}
use Rattle.ep_bitslice.specs.Segments.{IsForm, IsAppended, TooMany, bits}
use Rattle.ep_bitslice.proofs.Pieces.{fixed_zeros}
use Rattle.ep_bitslice.proofs.form.Form.append_zeros.Goals as goal

none : (ss : List Segment) (k : ℕ) → k ≡ 0 → IsForm ss → IsAppended ss (zeros k) ss
none ss k e f = record { form = f; bits_are = sym (ap (λ n. bits ss ++ zeros n) e ∙ append_nothing (bits ss)) }

pub returns-then-count-eq0-clause-appended : goal.returns-then-count-eq0-clause-appended
returns-then-count-eq0-clause-appended c = λ _. none c.args.self.now c.args.count c.if-count-eq0.true c.requires.form

pub returns-else-count-eq0-clause-appended : goal.returns-else-count-eq0-clause-appended
returns-else-count-eq0-clause-appended c = λ h.
    subst (λ (bs : List Bit). IsAppended c.args.self.now bs c.try_push.new.self) (fixed_zeros c.args.count) (c.try_push.ensures.appended h)

pub returns-else-count-eq0-clause-full : goal.returns-else-count-eq0-clause-full
returns-else-count-eq0-clause-full c = λ h.
    subst (λ (bs : List Bit). TooMany (bits c.args.self.now ++ bs)) (fixed_zeros c.args.count) (c.try_push.ensures.full h)
