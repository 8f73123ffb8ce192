-- The laws of comparisons.
use Rattle.std.specs.Prelude.{◌≡◌, ℤ, pos, ◌+ℤ◌, ◌-ℤ◌, ◌≤ℤ◌, ◌<ℤ◌, ◌⊎◌, Bool, true, false, cond, Option, Some, None}
use Rattle.ep_domain.specs.Laws.Shared.{eq_true}
use Rattle.ep_domain.specs.Laws.Shared.{from_eq}
use Rattle.ep_int.proofs.Arithmetic.{le_fact}
use Rattle.std.specs.Prelude.{IsSomeAnd, refl, int_le}
use Rattle.std.specs.Option.{option_zip}
use Rattle.std.proofs.Common.{arith, ap, sym, ◌∙◌, subst, inl, inr}
use Rattle.std.proofs.lemmas.Bool.{not-true, not-false}
use Rattle.std.proofs.lemmas.Int.{ints}
use Rattle.ep_int.specs.declared.types.IntType.TheVariants.{I64, U64}
use Rattle.ep_int.specs.declared.types.Cmp.{Cmp}
use Rattle.ep_int.specs.declared.types.Cmp.TheVariants.{Eq, Ne, Lt, Le, Gt, Ge}
use Rattle.ep_int.specs.Types.{least_of, greatest_of}
use Rattle.ep_int.specs.Arith.{int_eq, compares}
use Rattle.ep_range_laws.proofs.Comparisons.{from_between_false}
use Rattle.ep_range_laws.proofs.Comparisons.{from_le_false, from_lt_true, from_lt_false, le_antisym}
use Rattle.ep_interval_laws.specs.Interval.{Interval, HasNumber, ends_of, between, apart_from, filter_of}
use Rattle.ep_interval_laws.proofs.Between.{between_none, between_holds}
use Rattle.ep_interval_laws.proofs.Simple.{has_low, has_high, overlap_holds, cut_single_away, first_of_pair}
use Rattle.ep_interval_laws.proofs.Simple.{second_of_pair}

different : (x y : ℤ) → int_eq x y ≡ false → (x ≡ y → ⊥)
different x y e f = by_order (from_between_false x y y x e)
  where
    by_order : (y <ℤ x) ⊎ (x <ℤ y) → ⊥
    by_order (inl h) = omega (arith, ints)
    by_order (inr h) = omega (arith, ints)

module _ (a b : Interval) (x y : ℤ) where
  abbrev HavePair : Interval × Interval → Type 0
  HavePair p = HasNumber p.0 x × HasNumber p.1 y

  both_hold : (o p : Option Interval) → IsSomeAnd o (λ c. HasNumber c x) → IsSomeAnd p (λ c. HasNumber c y) → IsSomeAnd (option_zip o p) HavePair
  both_hold None p h k = absurd h
  both_hold (Some c) None h k = absurd k
  both_hold (Some c) (Some d) h k = (h, k)

-- the number of a single is left out
apart_holds : (a b : Interval) (x y : ℤ) → (x ≡ y → ⊥) → HasNumber a x → HasNumber b y → IsSomeAnd (apart_from a b) (λ c. HasNumber c x)
apart_holds a b x y n h k = by_test (int_eq b.lo b.hi) refl
  where
    low_of : (t : Bool) → int_eq a.lo b.lo ≡ t → b.lo ≡ b.hi → cond t (a.lo +ℤ pos 1) a.lo ≤ℤ x
    low_of true e f = let p = has_low a x h in let q = has_low b y k in let r = has_high b y k in let g = from_eq a.lo b.lo e in above a.lo x b.lo y p (n) g (le_antisym b.lo y q (subst (λ z. y ≤ℤ z) (sym f) r))
      where
        above : (l x m y : ℤ) → l ≤ℤ x → (x ≡ y → ⊥) → l ≡ m → m ≡ y → (l +ℤ pos 1) ≤ℤ x
        above l x m y p n e f = by_test (int_le (l +ℤ pos 1) x) refl
          where
            by_test : (t : Bool) → int_le (l +ℤ pos 1) x ≡ t → (l +ℤ pos 1) ≤ℤ x
            by_test true e = le_fact _ _ e
            by_test false g = let w = from_le_false (l +ℤ pos 1) x g in absurd (n (omega (arith, ints)))
    low_of false e f = has_low a x h

    high_of : (t : Bool) → int_eq a.hi b.lo ≡ t → b.lo ≡ b.hi → x ≤ℤ cond t (a.hi -ℤ pos 1) a.hi
    high_of true e f = let p = has_high a x h in let q = has_low b y k in let r = has_high b y k in let g = from_eq a.hi b.lo e in below a.hi x b.lo y p (n) g (le_antisym b.lo y q (subst (λ z. y ≤ℤ z) (sym f) r))
      where
        below : (u x m y : ℤ) → x ≤ℤ u → (x ≡ y → ⊥) → u ≡ m → m ≡ y → x ≤ℤ (u -ℤ pos 1)
        below u x m y p n e f = by_test (int_le x (u -ℤ pos 1)) refl
          where
            by_test : (t : Bool) → int_le x (u -ℤ pos 1) ≡ t → x ≤ℤ (u -ℤ pos 1)
            by_test true e = le_fact _ _ e
            by_test false g = let w = from_le_false x (u -ℤ pos 1) g in absurd (n (omega (arith, ints)))
    high_of false e f = has_high a x h

    least_stays : (t : Bool) → least_of I64 ≤ℤ cond t (a.lo +ℤ pos 1) a.lo
    least_stays true = let p = a.ends.above in omega (arith, ints)
    least_stays false = a.ends.above

    greatest_stays : (t : Bool) → cond t (a.hi -ℤ pos 1) a.hi ≤ℤ greatest_of U64
    greatest_stays true = let p = a.ends.below in omega (arith, ints)
    greatest_stays false = a.ends.below

    by_test : (t : Bool) → int_eq b.lo b.hi ≡ t → IsSomeAnd (cond t (between (cond (int_eq a.lo b.lo) (a.lo +ℤ pos 1) a.lo) (cond (int_eq a.hi b.lo) (a.hi -ℤ pos 1) a.hi)) (Some a)) (λ c. HasNumber c x)
    by_test true e =
        let f = from_eq b.lo b.hi e in
        between_holds (cond (int_eq a.lo b.lo) (a.lo +ℤ pos 1) a.lo) (cond (int_eq a.hi b.lo) (a.hi -ℤ pos 1) a.hi) x (least_stays (int_eq a.lo b.lo)) (greatest_stays (int_eq a.hi b.lo)) (low_of (int_eq a.lo b.lo) refl f) (high_of (int_eq a.hi b.lo) refl f)
    by_test false e = h

pub filter_holds : (c : Cmp) (a b : Interval) (x y : ℤ) → compares c x y ≡ true → HasNumber a x → HasNumber b y → IsSomeAnd (filter_of c a b) (λ p. HasNumber p.0 x × HasNumber p.1 y)
filter_holds Eq a b x y e h k =
    let f = from_eq x y e in let p = has_low b y k in let q = has_high b y k in let r = has_low a x h in let s = has_high a x h in
    both_hold a b x y _ _ (overlap_holds a b.lo b.hi x h (omega (arith, ints)) (omega (arith, ints))) (overlap_holds b a.lo a.hi y k (omega (arith, ints)) (omega (arith, ints)))
filter_holds Ne a b x y e h k =
    let n = different x y (not-true _ e) in
    both_hold a b x y _ _ (apart_holds a b x y n h k) (apart_holds b a y x (λ f. n (sym f)) k h)
filter_holds Lt a b x y e h k =
    let f = from_lt_true x y e in let q = has_high b y k in let r = has_low a x h in
    both_hold a b x y _ _ (overlap_holds a a.lo (b.hi -ℤ pos 1) x h r (omega (arith, ints))) (overlap_holds b (a.lo +ℤ pos 1) b.hi y k (omega (arith, ints)) q)
filter_holds Le a b x y e h k =
    let f = le_fact x y e in let q = has_high b y k in let r = has_low a x h in
    both_hold a b x y _ _ (overlap_holds a a.lo b.hi x h r (omega (arith, ints))) (overlap_holds b a.lo b.hi y k (omega (arith, ints)) q)
filter_holds Gt a b x y e h k =
    let f = from_lt_true y x e in let q = has_low b y k in let r = has_high a x h in
    both_hold a b x y _ _ (overlap_holds a (b.lo +ℤ pos 1) a.hi x h (omega (arith, ints)) r) (overlap_holds b b.lo (a.hi -ℤ pos 1) y k q (omega (arith, ints)))
filter_holds Ge a b x y e h k =
    let f = le_fact y x e in let q = has_low b y k in let r = has_high a x h in
    both_hold a b x y _ _ (overlap_holds a b.lo a.hi x h (omega (arith, ints)) r) (overlap_holds b b.lo a.hi y k q (omega (arith, ints)))

both_none : (o p : Option Interval) → o ≡ None → option_zip o p ≡ None
both_none o p e = ap (λ o. option_zip o p) e

pub filter_single : (c : Cmp) (a b : Interval) (x y : ℤ) → compares c x y ≡ false → (let p : ℤ × ℤ = ends_of a in p) ≡ (x, x) → (let p : ℤ × ℤ = ends_of b in p) ≡ (y, y) → filter_of c a b ≡ None
filter_single Eq a b x y e f g =
    let p = first_of_pair b.lo b.hi y y g in let q = second_of_pair b.lo b.hi y y g in
    both_none _ _ (cut_single_away a b.lo b.hi x f (by_order b.lo b.hi p q (from_between_false x y y x e)))
  where
    by_order : (l h : ℤ) → l ≡ y → h ≡ y → (y <ℤ x) ⊎ (x <ℤ y) → (x <ℤ l) ⊎ (h <ℤ x)
    by_order l h p q (inl o) = inr (omega (arith, ints))
    by_order l h p q (inr o) = inl (omega (arith, ints))
filter_single Ne a b x y e f g =
    let same = from_eq x y (not-false _ e) in
    let p = first_of_pair b.lo b.hi y y g in let q = second_of_pair b.lo b.hi y y g in
    let r = first_of_pair a.lo a.hi x x f in let s = second_of_pair a.lo a.hi x x f in
    both_none _ _ (none_of (int_eq b.lo b.hi) (int_eq a.lo b.lo) (int_eq a.hi b.lo) (eq_true b.lo b.hi (p ∙ sym q)) (eq_true a.lo b.lo (r ∙ same ∙ sym p)) (eq_true a.hi b.lo (s ∙ same ∙ sym p)) (above a.lo a.hi r s))
  where
    above : (l h : ℤ) → l ≡ x → h ≡ x → (h -ℤ pos 1) <ℤ (l +ℤ pos 1)
    above l h p q = omega (arith, ints)

    none_of : (t u v : Bool) → t ≡ true → u ≡ true → v ≡ true → (a.hi -ℤ pos 1) <ℤ (a.lo +ℤ pos 1) → cond t (between (cond u (a.lo +ℤ pos 1) a.lo) (cond v (a.hi -ℤ pos 1) a.hi)) (Some a) ≡ None
    none_of true true true e f g h = between_none _ _ h
    none_of false u v e f g h = absurd cc
    none_of true false v e f g h = absurd cc
    none_of true true false e f g h = absurd cc
filter_single Lt a b x y e f g =
    let q = second_of_pair b.lo b.hi y y g in let o = from_lt_false x y e in
    both_none _ _ (cut_single_away a a.lo (b.hi -ℤ pos 1) x f (inr (omega (arith, ints))))
filter_single Le a b x y e f g =
    let q = second_of_pair b.lo b.hi y y g in let o = from_le_false x y e in
    both_none _ _ (cut_single_away a a.lo b.hi x f (inr (omega (arith, ints))))
filter_single Gt a b x y e f g =
    let q = first_of_pair b.lo b.hi y y g in let o = from_lt_false y x e in
    both_none _ _ (cut_single_away a (b.lo +ℤ pos 1) a.hi x f (inl (omega (arith, ints))))
filter_single Ge a b x y e f g =
    let q = first_of_pair b.lo b.hi y y g in let o = from_le_false y x e in
    both_none _ _ (cut_single_away a b.lo a.hi x f (inl (omega (arith, ints))))
