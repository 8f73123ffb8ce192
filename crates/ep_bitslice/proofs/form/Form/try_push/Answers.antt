use Rattle.std.proofs.Common.{◌≡◌, ◌<◌, ◌++◌, ◌∷◌, [], List, length, subst, sym, ap, ◌∙◌, arith, rules, eqb-true}
use Rattle.ep_bitslice.specs.declared.segment.Segment.{Segment}
use Rattle.ep_bitslice.specs.Segments.{IsAppended, width, segment_bits, bits, TooMany}
use Rattle.ep_bitslice.proofs.Walks.{last_segment, last_width, pushed_joined, pushed_apart, not_pushed}
use Rattle.ep_bitslice.proofs.form.Form.try_push.Goals as goal

pub joined-requires-clause-segment : goal.joined-requires-clause-segment
joined-requires-clause-segment c = last_segment _ _ _ c.in-Some.ensures.items c.self.invariant

pub joined-requires-clause-short : goal.joined-requires-clause-short
joined-requires-clause-short c =
    let w = last_width _ _ _ c.in-Some.ensures.items in
    omega (arith, w, ap width c.self.view_is, c.requires.short)

some : (c : goal.After-push-in-Some-joined) → IsAppended c.self.inside.segments.items (segment_bits c.args.s) c.push-in-Some-joined.new.self.items
some c =
    pushed_joined _ _ _ _ _ _ c.in-Some.ensures.items (sym c.joined.ensures ∙ c.in-Some-joined.is) c.self.invariant c.requires.segment (omega (arith, ap width c.self.view_is, c.requires.short)) c.push-in-Some-joined.ensures.items

pub invariant_of-self-in-Some-joined : goal.invariant_of-self-in-Some-joined
invariant_of-self-in-Some-joined c = (some c).form

pub returns-in-Some-joined-clause-appended : goal.returns-in-Some-joined-clause-appended
returns-in-Some-joined-clause-appended c = λ _. subst (λ (ss : List Segment). IsAppended ss (segment_bits c.args.s) c.push-in-Some-joined.new.self.items) c.self.view_is (some c)

apart : (c : goal.After-push-in-None-joined-2) → IsAppended c.self.inside.segments.items (segment_bits c.args.s) c.push-in-None-joined-2.new.self.items
apart c =
    let old : c.push-in-None-joined.new.self.items ≡ c.self.inside.segments.items = c.push-in-None-joined.ensures.items ∙ sym c.in-Some.ensures.items in
    let room : length c.push-in-None-joined.new.self.items < 8 = search rules in
    pushed_apart _ _ _ _ _ c.in-Some.ensures.items (sym c.joined.ensures ∙ c.in-None-joined.is) c.self.invariant c.requires.segment (omega (arith, ap width c.self.view_is, c.requires.short))
    (c.push-in-None-joined-2.ensures.items ∙ ap (λ ss. ss ++ c.args.s ∷ []) old) (omega (arith, room, ap length old))

pub invariant_of-self-in-None-joined : goal.invariant_of-self-in-None-joined
invariant_of-self-in-None-joined c = (apart c).form

pub returns-else-is_full-clause-appended : goal.returns-else-is_full-clause-appended
returns-else-is_full-clause-appended c = λ _. subst (λ (ss : List Segment). IsAppended ss (segment_bits c.args.s) c.push-in-None-joined-2.new.self.items) c.self.view_is (apart c)

pub returns-then-is_full-clause-full : goal.returns-then-is_full-clause-full
returns-then-is_full-clause-full c = λ _.
    let old : c.push-in-None-joined.new.self.items ≡ c.self.inside.segments.items = c.push-in-None-joined.ensures.items ∙ sym c.in-Some.ensures.items in
    let eight : length c.push-in-None-joined.new.self.items ≡ 8 = eqb-true _ _ (sym c.is_full.ensures.value ∙ c.if-is_full.true) in
    subst (λ (ss : List Segment). TooMany (bits ss ++ segment_bits c.args.s)) c.self.view_is
    (not_pushed _ _ _ _ c.in-Some.ensures.items (sym c.joined.ensures ∙ c.in-None-joined.is) c.self.invariant c.requires.segment (sym (ap length old) ∙ eight))
