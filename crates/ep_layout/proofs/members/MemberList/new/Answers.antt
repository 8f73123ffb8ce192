use Rattle.std.proofs.Common.{◌≡◌, ◌+◌, ◌∙◌, sym, ap, subst, arith, ℕ, List, [], ◌∷◌, ◌++◌, take, length-take-le}
use Rattle.std.proofs.lemmas.List.{take_more}
use Rattle.ep_layout.specs.declared.types.Member.{Member}
use Rattle.ep_layout.specs.Places.{ArePlaces}
use Rattle.ep_layout.proofs.Naming.{places_there, places_new}
use Rattle.ep_layout.proofs.members.MemberList.new.Goals as goal
use Rattle.ep_layout.proofs.members.MemberList.new.Goals.{then-not-contains_key+in_ok-name+in_ok-insert}
use Rattle.ep_layout.proofs.members.MemberList.new.Goals.{else-not-contains_key}

pub loop-place-preserved : goal.loop-place-preserved
loop-place-preserved c =
    let items : List Member = c.deref-member-items.result.now in
    let i : ℕ = c.loop-place.place in
    let m : Member = c.member-item.result in
    let front : List Member = take i items in
    let grown : take (i + 1) items ≡ front ++ m ∷ [] = take_more items i m c.loop-place-test.true ∙ ap (λ (x : Member). take i items ++ x ∷ []) (sym c.member-item.is) in
    subst (λ (l : List Member). ArePlaces l c.if-not-contains_key.places.entries) (sym grown) (elim c.if-not-contains_key.branch as (λ b. ArePlaces (front ++ m ∷ []) c.if-not-contains_key.places.entries) [
      | then-not-contains_key+in_ok-name+in_ok-insert w ↦ rw w.places-is (places_new front m c.loop-place.places.entries w.insert.new.self.entries w.in_ok-name.name i c.loop-place.invariant (sym c.contains_key.ensures ∙ w.if-not-contains_key.true) w.in_ok-insert.ensures.entries (w.in_ok-name.ensures.items ∙ w.deref.ensures.value) (sym (length-take-le i items (omega arith))))
      | else-not-contains_key w ↦ rw w.places-is (places_there front m c.loop-place.places.entries c.loop-place.invariant (sym c.contains_key.ensures ∙ w.if-not-contains_key.false))
    ])
