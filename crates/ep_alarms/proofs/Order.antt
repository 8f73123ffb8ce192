-- The order of a report, by one number for each line and kind.
use Rattle.std.proofs.Common.{◌≡◌, ℕ, ◌+◌, ◌*◌, ◌<◌, ◌≤◌, true, false, ltb, eqb, ◌&&◌, ◌||◌, sym, ◌∙◌, arith}
use Rattle.std.proofs.Common.{ltb-true, ltb-false, lt-ltb}
use Rattle.std.proofs.lemmas.Bool.Decides.{nat_tests}
use Rattle.ep_alarms.specs.declared.types.Alarm.{Alarm}
use Rattle.ep_alarms.specs.declared.types.AlarmKind.{AlarmKind}
use Rattle.ep_alarms.specs.declared.types.AlarmKind.TheVariants.{U1, U2, U3, U4, U5, U6, U7, U8, U9, U10, E1, E2, E3}
use Rattle.ep_alarms.specs.declared.types.AlarmKind.TheVariants.{E4}
use Rattle.ep_alarms.specs.Alarm.{place_of, before, stand_together}

pub place_small : (k : AlarmKind) → place_of k < 14
place_small U1 = omega arith
place_small U2 = omega arith
place_small U3 = omega arith
place_small U4 = omega arith
place_small U5 = omega arith
place_small U6 = omega arith
place_small U7 = omega arith
place_small U8 = omega arith
place_small U9 = omega arith
place_small U10 = omega arith
place_small E1 = omega arith
place_small E2 = omega arith
place_small E3 = omega arith
place_small E4 = omega arith

-- the number of a line and a kind
abbrev pub rank : Alarm → ℕ
rank a = 14 * a.line + place_of a.kind

before_number : (l m p q : ℕ) → p < 14 → q < 14 → (ltb l m || (eqb l m && ltb p q)) ≡ ltb (14 * l + p) (14 * m + q)
before_number l m p q hp hq = grind (arith, nat_tests)

together_number : (l m p q : ℕ) → p < 14 → q < 14 → (eqb l m && eqb p q) ≡ eqb (14 * l + p) (14 * m + q)
together_number l m p q hp hq = grind (arith, nat_tests)

pub before_by_rank : (a b : Alarm) → before a b ≡ ltb (rank a) (rank b)
before_by_rank a b = before_number a.line b.line (place_of a.kind) (place_of b.kind) (place_small a.kind) (place_small b.kind)

pub stand_together_by_rank : (a b : Alarm) → stand_together a b ≡ eqb (rank a) (rank b)
stand_together_by_rank a b = together_number a.line b.line (place_of a.kind) (place_of b.kind) (place_small a.kind) (place_small b.kind)

pub lt_by_before : (a b : Alarm) → before a b ≡ true → rank a < rank b
lt_by_before a b h = ltb-true (rank a) (rank b) (sym (before_by_rank a b) ∙ h)

pub before_by_lt : (a b : Alarm) → rank a < rank b → before a b ≡ true
before_by_lt a b h = before_by_rank a b ∙ lt-ltb _ _ h

pub le_by_not_before : (a b : Alarm) → before a b ≡ false → rank b ≤ rank a
le_by_not_before a b h = ltb-false (rank a) (rank b) (sym (before_by_rank a b) ∙ h)
