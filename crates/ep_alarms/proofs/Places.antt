-- Where an alarm goes in a report, and what the report is then.
use Rattle.std.proofs.Common.{◌≡◌, ℕ, ◌<◌, ◌≤◌, zero, suc, Bool, true, false, ltb, eqb, ◌||◌, arith, refl, subst}
use Rattle.std.proofs.lemmas.Bool.{cases_Bool}
use Rattle.std.proofs.Common.{IsTrue, List, [], ◌∷◌, length, ◌-◌, eq-zero-or-pos, get_or, set, insert, if◌then◌else◌}
use Rattle.std.proofs.Common.{◌⊎◌, inl, inr}
use Rattle.std.specs.List.Sorted.{IsPartitionedBy}
use Rattle.std.proofs.lemmas.Bool.Decides.{nat_tests}
use Rattle.std.proofs.Math.Bool.{or-true}
use Rattle.ep_alarms.specs.declared.types.Alarm.{Alarm}
use Rattle.ep_alarms.specs.Alarm.{before, joined, stand_together}
use Rattle.ep_alarms.specs.Report.{IsPlace, IsReport, added, has_place}
use Rattle.ep_alarms.proofs.Order.{rank, before_by_rank, stand_together_by_rank, lt_by_before, before_by_lt}

later : (b a : Alarm) (bs : List Alarm) (i : ℕ) → IsPlace (b ∷ bs) a (suc i) → IsPlace bs a i
later b a bs i p = record { front = λ k d h. p.front (suc k) d (omega arith); rest = λ k d g h. p.rest (suc k) d (omega arith) (omega arith) }

pub added_widened : (alarms : List Alarm) (a : Alarm) (i : ℕ) (b : Alarm) → IsPlace alarms a i → i < length alarms → b ≡ get_or alarms i b → before a b ≡ false → set alarms i (joined b a) ≡ added alarms a
added_widened [] a i b p h e n = absurd (omega arith)
added_widened (c ∷ cs) a zero b p h e n =
    let free : before c a ≡ false = p.rest 0 c (omega arith) (omega arith) in
    let not_after : before a c ≡ false = subst (λ (x : Alarm). before a x ≡ false) e n in
    rw (e, free, not_after)
added_widened (c ∷ cs) a (suc i) b p h e n =
    let passed : before c a ≡ true = p.front 0 c (omega arith) in
    rw (passed, added_widened cs a i b (later c a cs i p) (omega arith) e n)

pub added_inserted : (alarms : List Alarm) (a : Alarm) (i : ℕ) → IsPlace alarms a i → i ≤ length alarms → ((d : Alarm) → i < length alarms → before a (get_or alarms i d) ≡ true) → insert alarms i a ≡ added alarms a
added_inserted [] a zero p h n = refl
added_inserted [] a (suc i) p h n = absurd (omega arith)
added_inserted (c ∷ cs) a zero p h n =
    let free : before c a ≡ false = p.rest 0 c (omega arith) (omega arith) in
    let after : before a c ≡ true = n c (omega arith) in
    rw (free, after)
added_inserted (c ∷ cs) a (suc i) p h n =
    let passed : before c a ≡ true = p.front 0 c (omega arith) in
    rw (passed, ← added_inserted cs a i (later c a cs i p) (omega arith) (λ d l. n d (omega arith)))

-- the first of the list stands after this alarm
abbrev LeadsTo : Alarm → List Alarm → Type 0
LeadsTo a [] = Unit {0}
LeadsTo a (b ∷ more) = IsTrue (before a b)

cons_report : (a : Alarm) (alarms : List Alarm) → LeadsTo a alarms → IsReport alarms → IsReport (a ∷ alarms)
cons_report a [] h r = tt
cons_report a (b ∷ more) h r = (h, r)

tail_report : (a : Alarm) (alarms : List Alarm) → IsReport (a ∷ alarms) → LeadsTo a alarms × IsReport alarms
tail_report a [] r = (tt, tt)
tail_report a (b ∷ more) r = r

leads_to_added : (a : Alarm) (alarms : List Alarm) (b : Alarm) → LeadsTo a alarms → before a b ≡ true → LeadsTo a (added alarms b)
leads_to_added a [] b h l = l
leads_to_added a (c ∷ cs) b h l =
    elim (before c b) as (λ t. LeadsTo a (if t then c ∷ added cs b else (if before b c then b ∷ c ∷ cs else joined c b ∷ cs))) [
      | true ↦ h
      | false ↦ elim (before b c) as (λ t. LeadsTo a (if t then b ∷ c ∷ cs else joined c b ∷ cs)) [ true ↦ l | false ↦ h ]
    ]

leads_joined : (b a : Alarm) (alarms : List Alarm) → LeadsTo b alarms → LeadsTo (joined b a) alarms
leads_joined b a [] h = tt
leads_joined b a (c ∷ more) h = h

pub IsReport-added : (alarms : List Alarm) (a : Alarm) → IsReport alarms → IsReport (added alarms a)
IsReport-added [] a r = tt
IsReport-added (b ∷ bs) a r =
    let leads = (tail_report b bs r).0 in
    let rest = (tail_report b bs r).1 in
    elim (cases_Bool (before b a)) [
      | inl passed ↦ rw passed (cons_report b (added bs a) (leads_to_added b bs a leads passed) (IsReport-added bs a rest))
      | inr not_passed ↦ rw not_passed (elim (cases_Bool (before a b)) [
        | inl after ↦ rw after (after, r)
        | inr same ↦ rw same (cons_report (joined b a) bs (leads_joined b a bs leads) rest)
      ])
    ]

above_first : (a : Alarm) (alarms : List Alarm) → IsReport (a ∷ alarms) → (j : ℕ) (d : Alarm) → j < length alarms → rank a < rank (get_or alarms j d)
above_first a [] r j d l = absurd (omega arith)
above_first a (b ∷ more) r zero d l = lt_by_before a b r.0
above_first a (b ∷ more) r (suc j) d l = omega (arith, lt_by_before a b r.0, above_first b more r.1 j d (omega arith))

-- in a report the numbers rise
pub ranks_rise : (alarms : List Alarm) → IsReport alarms → (i j : ℕ) (d : Alarm) → i < j → j < length alarms → rank (get_or alarms i d) < rank (get_or alarms j d)
ranks_rise [] r i j d h l = absurd (omega arith)
ranks_rise (a ∷ more) r i zero d h l = absurd (omega arith)
ranks_rise (a ∷ more) r zero (suc j) d h l = above_first a more r j d (omega arith)
ranks_rise (a ∷ more) r (suc i) (suc j) d h l = ranks_rise more (tail_report a more r).1 i j d (omega arith) (omega arith)

apart_numbers : (m n : ℕ) (x y z : Bool) → x ≡ ltb m n → y ≡ ltb n m → z ≡ eqb m n → x || y ≡ true → z ≡ false
apart_numbers m n x y z p q r h = grind (arith, nat_tests)

apart : (b a : Alarm) → before b a || before a b ≡ true → stand_together b a ≡ false
apart b a h = apart_numbers _ _ _ _ _ (before_by_rank b a) (before_by_rank a b) (stand_together_by_rank b a) h

-- in a report those that stand before an alarm are in front
pub in_front_together : (alarms : List Alarm) (a : Alarm) → IsReport alarms → IsPartitionedBy (λ b. before b a) alarms
in_front_together alarms a r i j d h l up = elim (eq-zero-or-pos (j - i)) [
  | inl e ↦ let same : i ≡ j = omega arith in rw same up
  | inr g ↦ before_by_lt (get_or alarms i d) a (omega (arith, ranks_rise alarms r i j d (omega arith) l, lt_by_before (get_or alarms j d) a up))
]

-- where each alarm is before this one or after it, none has its place
pub no_place : (alarms : List Alarm) (a : Alarm) → ((k : ℕ) (d : Alarm) → k < length alarms → before (get_or alarms k d) a || before a (get_or alarms k d) ≡ true) → has_place alarms a ≡ false
no_place [] a h = refl
no_place (b ∷ bs) a h = rw (apart b a (h 0 b (omega arith)), no_place bs a (λ k d l. h (suc k) d (omega arith)))

after_place : (alarms : List Alarm) (a : Alarm) (i : ℕ) → IsReport alarms → ((d : Alarm) → i < length alarms → before a (get_or alarms i d) ≡ true) → (k : ℕ) (d : Alarm) → i ≤ k → k < length alarms → before a (get_or alarms k d) ≡ true
after_place alarms a i r n k d g l = elim (eq-zero-or-pos (k - i)) [
  | inl e ↦ let same : k ≡ i = omega arith in rw same (n d (omega arith))
  | inr h ↦ before_by_lt a (get_or alarms k d) (omega (arith, ranks_rise alarms r i k d (omega arith) l, lt_by_before a (get_or alarms i d) (n d (omega arith))))
]

-- in a report no alarm has this one's place where those in front stand before it and the first of the rest after it
pub no_place_there : (alarms : List Alarm) (a : Alarm) (i : ℕ) → IsReport alarms → IsPlace alarms a i → ((d : Alarm) → i < length alarms → before a (get_or alarms i d) ≡ true) → has_place alarms a ≡ false
no_place_there alarms a i r p n = no_place alarms a (λ k d l. elim (eq-zero-or-pos (i - k)) [
  | inl e ↦ rw (after_place alarms a i r n k d (omega arith) l) (or-true _)
  | inr h ↦ rw (p.front k d (omega arith))
])
