-- Each operator's results are held.
use Rattle.std.specs.Prelude.{◌≡◌, zero, suc, ℤ, pos, negsuc, ◌≤ℤ◌, ◌⊎◌, Bool, true, false, cond, not, Option, None}
use Rattle.ep_int.proofs.Arithmetic.{in_range_from_true, le_test}
use Rattle.std.specs.Prelude.{Result, Ok, Err, IsSomeAnd, refl, int_div}
use Rattle.std.specs.Int.{int_min, int_max}
use Rattle.std.proofs.Common.{arith, subst, inl, inr}
use Rattle.std.proofs.lemmas.Int.{ints, clamps}
use Rattle.ep_int.specs.declared.types.IntType.{IntType}
use Rattle.ep_int.specs.declared.types.IntType.TheVariants.{I64, U64}
use Rattle.ep_int.specs.declared.types.Undef.{Undef}
use Rattle.ep_int.specs.Types.{is_signed, least_of, greatest_of, InRange, wrapped}
use Rattle.ep_int.specs.Arith.{settled, is_in_range, int_eq}
use Rattle.ep_int.proofs.Wrapping.{wrapped_in_range}
use Rattle.ep_range_laws.specs.Ranges.{LiesIn}
use Rattle.ep_range_laws.specs.Faults.{is_ordered}
use Rattle.ep_range_laws.proofs.Comparisons.{le_trans}
use Rattle.ep_range_laws.proofs.Types.{number_low, number_high}
use Rattle.ep_interval_laws.specs.Ends.{in_one_stretch, wrapped_low, wrapped_high}
use Rattle.ep_interval_laws.specs.Interval.{Interval, HasNumber, between}
use Rattle.ep_interval_laws.specs.Results.{clipped, settled_between, negative_part, positive_part, quotients, hull}
use Rattle.ep_interval_laws.specs.Results.{divided}
use Rattle.ep_interval_laws.proofs.Between.{between_holds}
use Rattle.ep_interval_laws.proofs.Simple.{wrapped_ends_hold}
use Rattle.ep_interval_laws.proofs.Division.{quotient_of_positive, quotient_of_negative}

abbrev pub HaveNumber : Option Interval → ℤ → Type 0
HaveNumber o v = IsSomeAnd o (λ c. HasNumber c v)

pub ok_same : (w v : ℤ) (r : Result ℤ Undef) → Ok w ≡ r → r ≡ Ok v → w ≡ v
ok_same w v r e f = cc

pub ok_if : (b : Bool) (w v : ℤ) (u : Undef) → (let r : Result ℤ Undef = cond b (Ok w) (Err u) in r) ≡ Ok v → (b ≡ true) × (w ≡ v)
ok_if true w v u e = (refl, cc)
ok_if false w v u e = cc

-- ---- exact results

pub clipped_holds : (t : IntType) (e : ℤ × ℤ) (v : ℤ) → LiesIn e v → InRange t v → HaveNumber (clipped t e) v
clipped_holds t e v h i =
    let p = number_low t in let q = number_high t in let a = h.low in let b = h.high in let c = i.low in let d = i.high in
    between_holds (int_max e.0 (least_of t)) (int_min e.1 (greatest_of t)) v (omega (arith, ints, clamps)) (omega (arith, ints, clamps)) (omega (arith, ints, clamps)) (omega (arith, ints, clamps))

wrapped_low_least : (t : IntType) (l h v : ℤ) → least_of I64 ≤ℤ wrapped_low t l h
wrapped_low_least t l h v = by_test (in_one_stretch t l h)
  where
    by_test : (b : Bool) → least_of I64 ≤ℤ cond b (wrapped t l) (least_of t)
    by_test true = let i = wrapped_in_range t l in le_trans (least_of I64) (least_of t) (wrapped t l) (number_low t) i.low
    by_test false = number_low t

wrapped_high_greatest : (t : IntType) (l h v : ℤ) → wrapped_high t l h ≤ℤ greatest_of U64
wrapped_high_greatest t l h v = by_test (in_one_stretch t l h)
  where
    by_test : (b : Bool) → cond b (wrapped t h) (greatest_of t) ≤ℤ greatest_of U64
    by_test true = let i = wrapped_in_range t h in le_trans (wrapped t h) (greatest_of t) (greatest_of U64) i.high (number_high t)
    by_test false = number_high t

pub settled_holds : (u : Undef) (t : IntType) (e : ℤ × ℤ) (z v : ℤ) → LiesIn e z → settled u t z ≡ Ok v → HaveNumber (settled_between t e) v
settled_holds u t e z v h s = by_sign (is_signed t) s
  where
    by_sign : (b : Bool) → (let r : Result ℤ Undef = cond b (cond (is_in_range t z) (Ok z) (Err u)) (Ok (wrapped t z)) in r) ≡ Ok v → HaveNumber (cond b (clipped t e) (between (wrapped_low t e.0 e.1) (wrapped_high t e.0 e.1))) v
    by_sign true s =
        let p = ok_if (is_in_range t z) z v u s in
        clipped_holds t e v (subst (LiesIn e) p.1 h) (subst (InRange t) p.1 (in_range_from_true t z p.0))
    by_sign false s =
        let p : wrapped t z ≡ v = ok_same (wrapped t z) v _ refl s in
        let w = wrapped_ends_hold t e.0 e.1 z h.low h.high in
        between_holds (wrapped_low t e.0 e.1) (wrapped_high t e.0 e.1) v (wrapped_low_least t e.0 e.1 v) (wrapped_high_greatest t e.0 e.1 v) (subst (λ x. wrapped_low t e.0 e.1 ≤ℤ x) p w.0) (subst (λ x. x ≤ℤ wrapped_high t e.0 e.1) p w.1)

-- ---- division

hull_left : (d e : ℤ × ℤ) (v : ℤ) → LiesIn d v → LiesIn (hull d e) v
hull_left d e v h = let p = h.low in let q = h.high in record { low = omega (arith, ints, clamps); high = omega (arith, ints, clamps) }

hull_right : (d e : ℤ × ℤ) (v : ℤ) → LiesIn e v → LiesIn (hull d e) v
hull_right d e v h = let p = h.low in let q = h.high in record { low = omega (arith, ints, clamps); high = omega (arith, ints, clamps) }

not_zero : (y : ℤ) → not (int_eq y (pos 0)) ≡ true → (y ≤ℤ negsuc 0) ⊎ (pos 1 ≤ℤ y)
not_zero (pos zero) e = cc
not_zero (pos (suc n)) e = inr (omega (arith, ints))
not_zero (negsuc n) e = inl (omega (arith, ints))

pub divided_holds : (t : IntType) (r s : ℤ × ℤ) (x y : ℤ) → LiesIn r x → LiesIn s y → not (int_eq y (pos 0)) ≡ true → InRange t (int_div x y) → HaveNumber (divided t r s) (int_div x y)
divided_holds t r s x y h k n i = by_sign (not_zero y n)
  where
    of_negative : y ≤ℤ negsuc 0 → LiesIn (negative_part s) y
    of_negative p = let a = k.low in let b = k.high in record { low = a; high = omega (arith, ints, clamps) }

    of_positive : pos 1 ≤ℤ y → LiesIn (positive_part s) y
    of_positive p = let a = k.low in let b = k.high in record { low = omega (arith, ints, clamps); high = b }

    negative_low : (negative_part s).1 ≤ℤ negsuc 0
    negative_low = omega (arith, ints, clamps)

    positive_high : pos 1 ≤ℤ (positive_part s).0
    positive_high = omega (arith, ints, clamps)

    by_sign : (y ≤ℤ negsuc 0) ⊎ (pos 1 ≤ℤ y) → HaveNumber (divided t r s) (int_div x y)
    by_sign (inl p) =
        let m = of_negative p in
        let q = quotient_of_negative r (negative_part s) x y h m negative_low in
        by_tests (is_ordered (negative_part s)) (is_ordered (positive_part s)) (le_test _ _ (le_trans _ _ _ m.low m.high)) q
      where
        by_tests : (a b : Bool) → a ≡ true → LiesIn (quotients r (negative_part s)) (int_div x y) → HaveNumber (cond a (cond b (clipped t (hull (quotients r (negative_part s)) (quotients r (positive_part s)))) (clipped t (quotients r (negative_part s)))) (cond b (clipped t (quotients r (positive_part s))) None)) (int_div x y)
        by_tests true true e q = clipped_holds t _ _ (hull_left _ _ _ q) i
        by_tests true false e q = clipped_holds t _ _ q i
        by_tests false b e q = absurd cc
    by_sign (inr p) =
        let m = of_positive p in
        let q = quotient_of_positive r (positive_part s) x y h m positive_high in
        by_tests (is_ordered (negative_part s)) (is_ordered (positive_part s)) (le_test _ _ (le_trans _ _ _ m.low m.high)) q
      where
        by_tests : (a b : Bool) → b ≡ true → LiesIn (quotients r (positive_part s)) (int_div x y) → HaveNumber (cond a (cond b (clipped t (hull (quotients r (negative_part s)) (quotients r (positive_part s)))) (clipped t (quotients r (negative_part s)))) (cond b (clipped t (quotients r (positive_part s))) None)) (int_div x y)
        by_tests true true e q = clipped_holds t _ _ (hull_right _ _ _ q) i
        by_tests false true e q = clipped_holds t _ _ q i
        by_tests a false e q = absurd cc
