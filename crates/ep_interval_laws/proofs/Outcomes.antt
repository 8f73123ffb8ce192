-- The laws of operators.
use Rattle.std.specs.Prelude.{◌≡◌, ℤ, ◌≤ℤ◌, Bool, true, false, cond, ◌&&◌, Option, Some, None, Result, Ok, Err}
use Rattle.ep_int.proofs.Arithmetic.{in_range_some_type}
use Rattle.ep_int.proofs.Basics.{is_some-value}
use Rattle.std.specs.Prelude.{IsTrue, IsSomeAnd, MatchResult, is_err, refl}
use Rattle.std.specs.Option.{option_and_then}
use Rattle.std.proofs.Common.{ap, sym, ◌∙◌, subst}
use Rattle.std.proofs.lemmas.Bool.{and_parts, and_from}
use Rattle.ep_int.specs.declared.types.IntType.{IntType}
use Rattle.ep_int.specs.declared.types.BinOp.{BinOp}
use Rattle.ep_int.specs.declared.types.BinOp.TheVariants.{Add, Sub, Mul, Div, Rem, And, Or, Xor, Shl, Shr}
use Rattle.ep_int.specs.declared.types.Undef.{Undef}
use Rattle.ep_int.specs.Types.{least_of, greatest_of, InRange}
use Rattle.ep_int.specs.Arith.{arith_of, int_eq, IsRightOperand}
use Rattle.ep_int.proofs.Arithmetic.{arith_in_range}
use Rattle.ep_range_laws.specs.Ranges.{IsRange}
use Rattle.ep_range_laws.specs.Faults.{Takes, MayFault, range_fault_of}
use Rattle.ep_domain.specs.Domain.{ShowsPart}
use Rattle.ep_range_laws.proofs.Comparisons.{between_true, from_between, le_self, le_trans, le_antisym}
use Rattle.ep_range_laws.proofs.RangeFaults.{fault_is_found, fault_is_shown}
use Rattle.ep_interval_laws.specs.Interval.{Interval, HasNumber, interval, ends_of, overlap}
use Rattle.ep_interval_laws.specs.Results.{single_result, results_of, results_between, right_operands, value_of}
use Rattle.ep_interval_laws.specs.Results.{outcome_of}
use Rattle.ep_interval_laws.specs.Domain.{interval_ops}
use Rattle.ep_interval_laws.proofs.Between.{between_holds, between_some}
use Rattle.ep_interval_laws.proofs.Simple.{has_low, has_high, overlap_holds, cut_single, range_encloses}
use Rattle.ep_interval_laws.proofs.Simple.{first_of_pair, second_of_pair}
use Rattle.ep_interval_laws.proofs.Results.{HaveNumber}
use Rattle.ep_interval_laws.proofs.Operators.{results_hold}

same_number : (l h x : ℤ) → int_eq l h ≡ true → l ≤ℤ x → x ≤ℤ h → x ≡ l
same_number l h x e p q = let r = from_between l h h l e in le_antisym x l (le_trans _ _ _ q r.1) p

results_between_hold : (o : BinOp) (t : IntType) (a b : Interval) (x y v : ℤ) → HasNumber a x → HasNumber b y → InRange t x → IsRightOperand o t y → arith_of o t x y ≡ Ok v → HaveNumber (results_between o t a b) v
results_between_hold o t a b x y v h k i j e = by_test (int_eq a.lo a.hi && int_eq b.lo b.hi) refl
  where
    of_single : (r : Result ℤ Undef) → r ≡ Ok v → HaveNumber (single_result r) v
    of_single r f = subst (λ r. HaveNumber (single_result r) v) (sym f) (let n = in_range_some_type t v (arith_in_range o t x y v i e) in between_holds v v v n.low n.high (le_self v) (le_self v))

    by_test : (s : Bool) → (int_eq a.lo a.hi && int_eq b.lo b.hi) ≡ s → HaveNumber (cond s (single_result (arith_of o t a.lo b.lo)) (results_of o t (ends_of a) (ends_of b))) v
    by_test true f =
        let p = and_parts (int_eq a.lo a.hi) (int_eq b.lo b.hi) f in
        let q : x ≡ a.lo = same_number a.lo a.hi x p.0 (has_low a x h) (has_high a x h) in
        let r : y ≡ b.lo = same_number b.lo b.hi y p.1 (has_low b y k) (has_high b y k) in
        of_single (arith_of o t a.lo b.lo) (subst (λ z. arith_of o t a.lo z ≡ Ok v) r (subst (λ z. arith_of o t z y ≡ Ok v) q e))
    by_test false f = results_hold o t a b x y v h k i j e

right_holds : (o : BinOp) (t : IntType) (b : Interval) (y : ℤ) → HasNumber b y → IsRightOperand o t y → HaveNumber (right_operands o t b) y
right_holds Add t b y h i = overlap_holds b (least_of t) (greatest_of t) y h i.low i.high
right_holds Sub t b y h i = overlap_holds b (least_of t) (greatest_of t) y h i.low i.high
right_holds Mul t b y h i = overlap_holds b (least_of t) (greatest_of t) y h i.low i.high
right_holds Div t b y h i = overlap_holds b (least_of t) (greatest_of t) y h i.low i.high
right_holds Rem t b y h i = overlap_holds b (least_of t) (greatest_of t) y h i.low i.high
right_holds And t b y h i = overlap_holds b (least_of t) (greatest_of t) y h i.low i.high
right_holds Or t b y h i = overlap_holds b (least_of t) (greatest_of t) y h i.low i.high
right_holds Xor t b y h i = overlap_holds b (least_of t) (greatest_of t) y h i.low i.high
right_holds Shl t b y h i = h
right_holds Shr t b y h i = h

then_holds : (o : Option Interval) (f : Interval → Option Interval) (x v : ℤ) → HaveNumber o x → ((c : Interval) → HasNumber c x → HaveNumber (f c) v) → HaveNumber (option_and_then f o) v
then_holds None f x v h g = absurd h
then_holds (Some c) f x v h g = g c h

pub value_holds : (o : BinOp) (t : IntType) (a b : Interval) (x y v : ℤ) → HasNumber a x → HasNumber b y → Takes o t x y → arith_of o t x y ≡ Ok v → HaveNumber (value_of o t a b) v
value_holds o t a b x y v h k i e =
    then_holds (overlap a (least_of t) (greatest_of t)) (λ c. option_and_then (λ d. results_between o t c d) (right_operands o t b)) x v
    (overlap_holds a (least_of t) (greatest_of t) x h i.left.low i.left.high)
    (λ c p. then_holds (right_operands o t b) (λ d. results_between o t c d) y v (right_holds o t b y k i.right) (λ d q. results_between_hold o t c d x y v p q i.left i.right e))

pub outcome_holds : (o : BinOp) (t : IntType) (a b : Interval) (x y : ℤ) → Takes o t x y → HasNumber a x → HasNumber b y →
    MatchResult (arith_of o t x y) (λ v. IsSomeAnd (outcome_of o t a b).value (λ c. HasNumber c v)) (λ _. IsTrue (outcome_of o t a b).fault)
outcome_holds o t a b x y i h k = by_result (arith_of o t x y) refl
  where
    by_result : (r : Result ℤ Undef) → arith_of o t x y ≡ r → MatchResult r (λ v. IsSomeAnd (outcome_of o t a b).value (λ c. HasNumber c v)) (λ _. IsTrue (outcome_of o t a b).fault)
    by_result (Ok v) e = value_holds o t a b x y v h k i e
    by_result (Err u) e = fault_is_shown o t (ends_of a) (ends_of b) (record { x = x; y = y; left = range_encloses a x h; right = range_encloses b y k; taken = i; undefined = ap is_err e })

pub outcome_faults : (o : BinOp) (t : IntType) (a b : Interval) → IsTrue (outcome_of o t a b).fault → MayFault o t (ends_of a) (ends_of b)
outcome_faults o t a b h = fault_is_found o t (ends_of a) (ends_of b) b.ends h

pub outcome_shows : (o : BinOp) (t : IntType) (a b : Interval) → IsTrue (outcome_of o t a b).fault → ShowsPart interval_ops o t a b (outcome_of o t a b).shown
outcome_shows o t a b h = record {
  left = ends_of a;
  right = ends_of b;
  left_inside = record { low = le_self _; high = le_self _ };
  right_inside = record { low = le_self _; high = le_self _ };
  left_has = λ z i k. range_encloses a z k;
  right_has = λ z i k. range_encloses b z k;
  shows = is_some-value (range_fault_of o t (ends_of a) (ends_of b)) h;
}

-- ---- single numbers

abbrev Single : ℤ → Interval → Type 0
Single v c = (let p : ℤ × ℤ = ends_of c in p) ≡ (v, v)

right_single : (o : BinOp) (t : IntType) (b : Interval) (y : ℤ) → Single y b → IsRightOperand o t y → IsSomeAnd (right_operands o t b) (Single y)
right_single Add t b y e i = cut_single b (least_of t) (greatest_of t) y e (record { low = i.low; high = i.high })
right_single Sub t b y e i = cut_single b (least_of t) (greatest_of t) y e (record { low = i.low; high = i.high })
right_single Mul t b y e i = cut_single b (least_of t) (greatest_of t) y e (record { low = i.low; high = i.high })
right_single Div t b y e i = cut_single b (least_of t) (greatest_of t) y e (record { low = i.low; high = i.high })
right_single Rem t b y e i = cut_single b (least_of t) (greatest_of t) y e (record { low = i.low; high = i.high })
right_single And t b y e i = cut_single b (least_of t) (greatest_of t) y e (record { low = i.low; high = i.high })
right_single Or t b y e i = cut_single b (least_of t) (greatest_of t) y e (record { low = i.low; high = i.high })
right_single Xor t b y e i = cut_single b (least_of t) (greatest_of t) y e (record { low = i.low; high = i.high })
right_single Shl t b y e i = e
right_single Shr t b y e i = e

then_single : (o : Option Interval) (f : Interval → Option Interval) (r : Option Interval) (v : ℤ) → IsSomeAnd o (Single v) → ((c : Interval) → Single v c → f c ≡ r) → option_and_then f o ≡ r
then_single None f r v h g = absurd h
then_single (Some c) f r v h g = g c h

ends_equal : (c : Interval) (v : ℤ) → Single v c → int_eq c.lo c.hi ≡ true
ends_equal c v e =
    let p = first_of_pair c.lo c.hi v v e in let q = second_of_pair c.lo c.hi v v e in
    let f : c.hi ≡ c.lo = q ∙ sym p in
    subst (λ z. int_eq c.lo z ≡ true) (sym f) (between_true c.lo c.lo c.lo c.lo (le_self c.lo) (le_self c.lo))

results_single : (o : BinOp) (t : IntType) (a b : Interval) (x y : ℤ) → Single x a → Single y b → results_between o t a b ≡ single_result (arith_of o t x y)
results_single o t a b x y e f =
    by_test (int_eq a.lo a.hi && int_eq b.lo b.hi) (and_from (int_eq a.lo a.hi) (int_eq b.lo b.hi) (ends_equal a x e) (ends_equal b y f))
    ∙ ap (λ z. single_result (arith_of o t z b.lo)) (first_of_pair a.lo a.hi x x e) ∙ ap (λ z. single_result (arith_of o t x z)) (first_of_pair b.lo b.hi y y f)
  where
    by_test : (s : Bool) → s ≡ true → cond s (single_result (arith_of o t a.lo b.lo)) (results_of o t (ends_of a) (ends_of b)) ≡ single_result (arith_of o t a.lo b.lo)
    by_test true g = refl
    by_test false g = absurd cc

pub value_single : (o : BinOp) (t : IntType) (a b : Interval) (x y : ℤ) → Takes o t x y → Single x a → Single y b → value_of o t a b ≡ single_result (arith_of o t x y)
value_single o t a b x y i e f =
    then_single (overlap a (least_of t) (greatest_of t)) (λ c. option_and_then (λ d. results_between o t c d) (right_operands o t b)) _ x
    (cut_single a (least_of t) (greatest_of t) x e (record { low = i.left.low; high = i.left.high }))
    (λ c p. then_single (right_operands o t b) (λ d. results_between o t c d) _ y (right_single o t b y f i.right) (λ d q. results_single o t c d x y p q))

pub outcome_single : (o : BinOp) (t : IntType) (a b : Interval) (x y : ℤ) → Takes o t x y → Single x a → Single y b →
    MatchResult (arith_of o t x y) (λ v. IsSomeAnd (outcome_of o t a b).value (Single v)) (λ _. (outcome_of o t a b).value ≡ None)
outcome_single o t a b x y i e f = by_result (arith_of o t x y) refl
  where
    some_single : (o : Option Interval) (v : ℤ) (c : Interval) → o ≡ Some c → Single v c → IsSomeAnd o (Single v)
    some_single o v c p q = subst (λ o. IsSomeAnd o (Single v)) (sym p) q

    by_result : (r : Result ℤ Undef) → arith_of o t x y ≡ r → MatchResult r (λ v. IsSomeAnd (outcome_of o t a b).value (Single v)) (λ _. (outcome_of o t a b).value ≡ None)
    by_result (Ok v) g =
        let n = in_range_some_type t v (arith_in_range o t x y v i.left g) in
        let r : IsRange v v = record { above = n.low; ordered = le_self v; below = n.high } in
        some_single (value_of o t a b) v (interval v v r) (value_single o t a b x y i e f ∙ ap single_result g ∙ between_some v v r) refl
    by_result (Err u) g = value_single o t a b x y i e f ∙ ap single_result g
