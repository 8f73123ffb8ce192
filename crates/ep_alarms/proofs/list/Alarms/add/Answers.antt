use Rattle.std.proofs.Common.{◌≡◌, ◌<◌, arith, refl, sym, ◌∙◌, subst, Bool, true, false, true≢false, OnOk, is_ok}
use Rattle.std.proofs.Common.{if◌then◌else◌, Result, Ok, Err, List, All, rules, length, insert, slice_index_or}
use Rattle.std.proofs.Common.{slice_set}
use Rattle.std.proofs.lemmas.List.{get_or_read_under}
use Rattle.ep_alarms.specs.declared.types.Alarm.{Alarm}
use Rattle.ep_alarms.specs.Alarm.{before, FitsTypes}
use Rattle.ep_alarms.specs.Report.{IsPlace, IsReport, added}
use Rattle.ep_alarms.proofs.Places.{added_widened, added_inserted, IsReport-added, no_place_there}
use Rattle.std.proofs.lemmas.Result.{on_ok_weaker}
use Rattle.ep_alarms.proofs.Others.{others_stay_in}
use Rattle.ep_alarms.proofs.Ranges.{FitsTypes-added}
use Rattle.ep_alarms.proofs.list.Alarms.add.Goals as goal
use Rattle.ep_alarms.proofs.list.Alarms.add.Goals.{else-place-len-via-then-place-len+else-not-is_before}
use Rattle.ep_alarms.proofs.list.Alarms.add.Goals.{else-place-len-via-else-place-len}

-- the alarm of this place widened
widened : (c : goal.After-self-1) → slice_set c.self.inside.alarms.items c.place_of-place.result c.joined.result ≡ added c.self.inside.alarms.items c.args.a
widened c =
    let items = c.self.inside.alarms.items in
    let i = c.place_of-place.result in
    let here : Alarm = c.index-then-not-is_before.result.now in
    let there : i < length items = omega (arith, c.self.inside.alarms.ok.0) in
    let found : IsPlace items c.args.a i = subst (λ (l : List Alarm). IsPlace l c.args.a i) c.deref.ensures.value c.place_of-place.ensures.place in
    let same : c.index.result.now ≡ here = get_or_read_under items i _ _ here c.index.ensures there refl ∙ sym c.index-then-not-is_before.ensures in
    let not_before : before c.args.a here ≡ false = subst (λ (b : Alarm). before c.args.a b ≡ false) same (sym c.is_before.ensures ∙ c.if-not-is_before.true) in
    rw c.joined.ensures (added_widened items c.args.a i here found there c.index-then-not-is_before.ensures not_before)

-- an alarm of another place stands there, or none
not_there : (c : goal.After-map_err) (d : Alarm) → c.place_of-place.result < length c.self.inside.alarms.items → before c.args.a (slice_index_or c.self.inside.alarms.items c.place_of-place.result d) ≡ true
not_there c d l =
    elim c.else-place-len.branch [
      | else-place-len-via-then-place-len+else-not-is_before w ↦ rw (← get_or_read_under c.self.inside.alarms.items c.place_of-place.result _ _ d w.index.ensures l refl) (sym w.is_before.ensures ∙ w.if-not-is_before.false)
      | else-place-len-via-else-place-len w ↦ absurd (omega (arith, c.self.inside.alarms.ok.0))
    ]

found : (c : goal.After-map_err) → IsPlace c.self.inside.alarms.items c.args.a c.place_of-place.result
found c = subst (λ (l : List Alarm). IsPlace l c.args.a c.place_of-place.result) c.deref.ensures.value c.place_of-place.ensures.place

inserted : (c : goal.After-map_err) → insert c.self.inside.alarms.items c.place_of-place.result c.args.a ≡ added c.self.inside.alarms.items c.args.a
inserted c = added_inserted c.self.inside.alarms.items c.args.a c.place_of-place.result (found c) (omega arith) (not_there c)

-- what is kept of each list
abbrev IsKept : List Alarm → Type 0
IsKept alarms = IsReport alarms × All FitsTypes alarms

kept : (alarms : List Alarm) (a : Alarm) → IsKept alarms → FitsTypes a → IsKept (added alarms a)
kept alarms a h f = (IsReport-added alarms a h.0, FitsTypes-added alarms a h.1 f)

kept_either_way : (b : Bool) (old new : List Alarm) → IsKept old → IsKept new → IsKept (if b then new else old)
kept_either_way true old new p q = q
kept_either_way false old new p q = p

on_success : {E D : Type 0} (r : Result (Unit {0}) E) (s : Result (Unit {0}) D) (now old new goal : List Alarm) → is_ok s ≡ is_ok r → now ≡ (if is_ok r then new else old) → new ≡ goal → OnOk s (now ≡ goal)
on_success r (Err e) now old new goal v n g = tt
on_success (Ok x) (Ok y) now old new goal v n g = n ∙ g
on_success (Err e) (Ok y) now old new goal v n g = absurd (true≢false v)

pub invariant_of-self : goal.invariant_of-self
invariant_of-self c = subst IsKept (sym (widened c)) (kept c.self.inside.alarms.items c.args.a c.self.invariant (record { line = search rules; left_least = search rules; left_greatest = search rules; right_least = search rules; right_greatest = search rules }))

pub returns-then-not-is_before-clause-ok : goal.returns-then-not-is_before-clause-ok
returns-then-not-is_before-clause-ok c = rw (← c.self.view_is) (widened c)

pub invariant_of-self-2 : goal.invariant_of-self-2
invariant_of-self-2 c =
    let typed : FitsTypes c.args.a = record { line = search rules; left_least = search rules; left_greatest = search rules; right_least = search rules; right_greatest = search rules } in
    rw (c.insert.ensures.items) (kept_either_way (is_ok c.insert.result) _ _ c.self.invariant (subst IsKept (sym (inserted c)) (kept _ c.args.a c.self.invariant typed)))

pub returns-clause-ok : goal.returns-clause-ok
returns-clause-ok c = rw (← c.self.view_is) (on_success c.insert.result c.map_err.result _ _ _ _ c.map_err.ensures.variant c.insert.ensures.items (inserted c))

pub returns-clause-widens : goal.returns-clause-widens
returns-clause-widens c = rw (← c.self.view_is) (λ h. absurd (true≢false (sym h ∙ no_place_there c.self.inside.alarms.items c.args.a c.place_of-place.result c.self.invariant.0 (found c) (not_there c))))

pub returns-then-not-is_before-clause-others : goal.returns-then-not-is_before-clause-others
returns-then-not-is_before-clause-others c = others_stay_in c.args.self.now _ c.args.a (returns-then-not-is_before-clause-ok c)

pub returns-clause-others : goal.returns-clause-others
returns-clause-others c = on_ok_weaker c.map_err.result (others_stay_in c.args.self.now _ c.args.a) (returns-clause-ok c)
