-- The first alarm of a statement's faults is the least of them.
use Rattle.std.proofs.Common.{◌≡◌, ℕ, ◌+◌, ◌*◌, ◌<◌, ◌≤◌, Bool, true, false, ltb, List, [], ◌∷◌, fold, refl, sym, ap}
use Rattle.std.proofs.Common.{◌∙◌, subst, arith, if◌then◌else◌, Result, Ok, Err, ltb-true, ltb-false}
use Rattle.ep_alarms.specs.declared.types.Alarm.{Alarm}
use Rattle.ep_alarms.specs.declared.types.AlarmKind.{AlarmKind}
use Rattle.ep_alarms.specs.Alarm.{before, joined, place_of}
use Rattle.ep_alarms.specs.Report.{added}
use Rattle.ep_alarms.proofs.Order.{lt_by_before, le_by_not_before}
use Rattle.ep_pass.specs.States.{Fault}
use Rattle.ep_pass.specs.Pass.{alarm, alarm_at, alarms_at, found_at}
use Rattle.ep_certcheck_laws.specs.Checked.{least, least_of}
use Rattle.ep_certcheck_walk.specs.declared.stop.Stop.{Stop}
use Rattle.ep_certcheck_walk.specs.Stops.{Course, Gives, IsStop, LooksAt, nothing_more}
use Rattle.ep_certcheck_walk.specs.declared.stop.Stop.TheVariants as stops

-- begins with an alarm of this line and kind
abbrev Starts : List Alarm → ℕ → AlarmKind → Type 0
Starts [] l k = ⊥
Starts (a ∷ more) l k = (a.line ≡ l) × (a.kind ≡ k)

abbrev lesser : Fault → Fault → Fault
lesser f g = if ltb (place_of g.kind) (place_of f.kind) then g else f

module _ (a : Alarm) (more : List Alarm) (l : ℕ) (f g : Fault) (el : a.line ≡ l) (ek : a.kind ≡ f.kind) where
  abbrev b : Alarm
  b = alarm_at l g

  places : place_of a.kind ≡ place_of f.kind
  places = ap place_of ek

  by_tests : (x y z : Bool) → before a b ≡ x → before b a ≡ y → ltb (place_of g.kind) (place_of f.kind) ≡ z
      → Starts (if x then a ∷ added more b else if y then b ∷ a ∷ more else joined a b ∷ more) l
      (if z then g else f).kind
  by_tests true y true p q r =
      let i : 14 * a.line + place_of a.kind < 14 * l + place_of g.kind = lt_by_before a b p in
      let j = ltb-true (place_of g.kind) (place_of f.kind) r in
      absurd (omega (arith, i, j, el, places))
  by_tests true y false p q r = (el, ek)
  by_tests false true true p q r = (refl, refl)
  by_tests false true false p q r =
      let i : 14 * l + place_of g.kind < 14 * a.line + place_of a.kind = lt_by_before b a q in
      let j = ltb-false (place_of g.kind) (place_of f.kind) r in
      absurd (omega (arith, i, j, el, places))
  by_tests false false true p q r =
      let i : 14 * a.line + place_of a.kind ≤ 14 * l + place_of g.kind = le_by_not_before b a q in
      let j = ltb-true (place_of g.kind) (place_of f.kind) r in
      absurd (omega (arith, i, j, el, places))
  by_tests false false false p q r = (el, ek)

  one_more : Starts (added (a ∷ more) b) l (lesser f g).kind
  one_more = by_tests (before a b) (before b a) (ltb (place_of g.kind) (place_of f.kind)) refl refl refl

step : (xs : List Alarm) (l : ℕ) (f g : Fault) → Starts xs l f.kind → Starts (added xs (alarm_at l g)) l
    (lesser f g).kind
step [] l f g s = absurd s
step (a ∷ more) l f g s = one_more a more l f g s.0 s.1

all_more : (fs : List Fault) (xs : List Alarm) (l : ℕ) (f : Fault) → Starts xs l f.kind
    → Starts (fold added xs (alarms_at l fs)) l (least_of f fs).kind
all_more [] xs l f s = s
all_more (g ∷ gs) xs l f s = all_more gs (added xs (alarm_at l g)) l (lesser f g) (step xs l f g s)

module _ {S : Type 0} (k : Course S) (l : ℕ) where
  meets : (f : Fault) (xs : List Alarm) (r : Result Unit Stop) → Starts xs l f.kind → LooksAt xs r
      → Gives k (alarm (alarm_at l f) ∷ []) nothing_more r
  meets f [] r s h = absurd s
  meets f (a ∷ more) (Ok u) s h = absurd h
  meets f (a ∷ more) (Err e) s h =
      let is : e ≡ stops.Fault l f.kind = h ∙ ap (λ z. stops.Fault z a.kind) s.0 ∙ ap (stops.Fault l) s.1 in
      subst (IsStop k (alarm (alarm_at l f) ∷ [])) (sym is)
      (record { event = alarm (alarm_at l f); rest = []; is = refl; shown = refl })

  none_there : (r : Result Unit Stop) → LooksAt [] r → Gives k [] nothing_more r
  none_there (Ok u) h = (refl, tt)
  none_there (Err e) h = absurd h

  looks_at : (fs : List Fault) (r : Result Unit Stop) → LooksAt (fold added [] (alarms_at l fs)) r
      → Gives k (found_at l (least fs)) nothing_more r
  looks_at [] r h = none_there r h
  looks_at (f ∷ fs) r h =
      meets (least_of f fs) (fold added (alarm_at l f ∷ []) (alarms_at l fs)) r
      (all_more fs (alarm_at l f ∷ []) l f (refl, refl)) h

  -- a look at alarms that were gathered from none
  pub looked : (fs : List Fault) (old xs : List Alarm) (r : Result Unit Stop) → old ≡ []
      → xs ≡ fold added old (alarms_at l fs) → LooksAt xs r → Gives k (found_at l (least fs)) nothing_more r
  looked fs old xs r e d h =
      looks_at fs r
      (subst (λ z. LooksAt (fold added z (alarms_at l fs)) r) e (subst (λ z. LooksAt z r) d h))
