use Rattle.std.proofs.Common.{arith, sym, ap, ◌∙◌, ◌||◌, nat_eq}
use Rattle.ep_double.proofs.ByteSteps.{all_whole, goes_further, next_whole, stops_here}
use Rattle.ep_double.proofs.mover.numbers.are_whole.Goals as goal

pub returns-then-not-is_whole : goal.returns-then-not-is_whole
returns-then-not-is_whole c =
    stops_here _ _ _ _ c.loop-k.invariant (next_whole c.args.n c.loop-k.k (omega arith))
    (sym (c.is_whole.ensures ∙ ap (λ b. nat_eq b 0 || nat_eq b 255) c.byte_at.ensures) ∙ c.if-not-is_whole.true)

pub loop-k-preserved : goal.loop-k-preserved
loop-k-preserved c =
    goes_further _ _ _ _ c.loop-k.invariant (next_whole c.args.n c.loop-k.k (omega arith))
    (sym (c.is_whole.ensures ∙ ap (λ b. nat_eq b 0 || nat_eq b 255) c.byte_at.ensures) ∙ c.if-not-is_whole.false)

pub returns : goal.returns
returns c = sym (all_whole c.args.n c.loop-k.k (omega arith)) ∙ c.loop-k.invariant
