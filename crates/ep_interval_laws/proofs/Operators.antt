-- Each result of each operator is held.
use Rattle.std.specs.Prelude.{◌≡◌, ℕ, zero, suc, ◌-◌, ◌^◌, ◌<◌, ◌≤◌, ℤ, pos, negsuc, ◌+ℤ◌, ◌-ℤ◌, ◌*ℤ◌, ◌≤ℤ◌, ◌<ℤ◌}
use Rattle.ep_int.proofs.Arithmetic.{in_range_from_true, le_fact, le_test}
use Rattle.std.specs.Prelude.{Bool, true, false, cond, not, ◌&&◌, Option, None, Result, Ok, Err, refl, int_le, int_lt}
use Rattle.std.specs.Prelude.{int_div, int_rem, unsigned_abs, bit_and, bit_or, bit_xor}
use Rattle.std.specs.Int.{int_min, int_max, int_shr}
use Rattle.std.proofs.Common.{arith, sym, subst}
use Rattle.std.proofs.Math.Nat.{pow-le-pow_right}
use Rattle.std.proofs.lemmas.Bool.{and_parts, and_from}
use Rattle.std.proofs.lemmas.Int.{ints, clamps}
use Rattle.std.proofs.lemmas.Nat.{and_le_l, and_le_r, le_or_l, le_or_r}
use Rattle.ep_int.specs.declared.types.IntType.{IntType}
use Rattle.ep_int.specs.declared.types.IntType.TheVariants.{I64, U64}
use Rattle.ep_int.specs.declared.types.BinOp.{BinOp}
use Rattle.ep_int.specs.declared.types.BinOp.TheVariants.{Add, Sub, Mul, Div, Rem, And, Or, Xor, Shl, Shr}
use Rattle.ep_int.specs.declared.types.Undef.{Undef}
use Rattle.ep_int.specs.declared.types.Undef.TheVariants.{Overflow, Division, Shift}
use Rattle.ep_int.specs.Types.{bits_of, least_of, greatest_of, InRange, representation, represented}
use Rattle.ep_int.specs.Arith.{arith_of, settled, is_in_range, is_divisible, is_amount, int_eq, IsRightOperand}
use Rattle.ep_int.proofs.Arithmetic.{arith_in_range}
use Rattle.ep_range_laws.specs.Ranges.{LiesIn}
use Rattle.ep_range_laws.specs.Faults.{shown_range, least_of_four, greatest_of_four, nearest_amount}
use Rattle.ep_range_laws.proofs.Comparisons.{lt_true, le_trans}
use Rattle.ep_range_laws.proofs.Types.{number_low, number_high}
use Rattle.ep_range_laws.proofs.FaultAt.{each_shown}
use Rattle.ep_range_laws.proofs.Undefined.{amount_from, nearest_above, bits_positive}
use Rattle.ep_interval_laws.specs.Interval.{Interval, HasNumber, ends_of, between}
use Rattle.ep_interval_laws.specs.Results.{divided, remainders, greatest_size, whole, anded, ored, xored, ones_over}
use Rattle.ep_interval_laws.specs.Results.{has_amount, powers, shifted_left, shifted_right, results_of}
use Rattle.ep_interval_laws.proofs.Between.{between_holds}
use Rattle.ep_interval_laws.proofs.Results.{HaveNumber, ok_same, ok_if, settled_holds, divided_holds}
use Rattle.ep_interval_laws.proofs.Simple.{has_low, has_high, range_encloses}
use Rattle.ep_interval_laws.proofs.Division.{remainder_between, shift_between, shift_above, shift_below}
use Rattle.ep_interval_laws.proofs.Bits.{and_left_part, and_right_part, or_is, xor_is, ones_below, or_below, xor_below}

-- ---- remainders

size_positive : (y : ℤ) → not (int_eq y (pos 0)) ≡ true → 0 < unsigned_abs y
size_positive (pos zero) e = cc
size_positive (pos (suc n)) e = omega arith
size_positive (negsuc n) e = omega arith

remainders_hold : (a b : Interval) (x y : ℤ) → HasNumber a x → HasNumber b y → not (int_eq y (pos 0)) ≡ true → HaveNumber (remainders (ends_of a) (ends_of b)) (int_rem x y)
remainders_hold a b x y h k n =
    let l = remainder_between (ends_of a) (ends_of b) x y (range_encloses a x h) (range_encloses b y k) (size_positive y n) in
    let p = a.ends in let q = p.above in let r = p.below in
    let s = low_of (greatest_size (ends_of b)) a.lo q in
    let u = high_of (greatest_size (ends_of b)) a.hi r in
    between_holds _ _ (int_rem x y) s u l.low l.high
  where
    low_of : (m l : ℤ) → least_of I64 ≤ℤ l → least_of I64 ≤ℤ int_max (pos 1 -ℤ m) (int_min l (pos 0))
    low_of m l p = omega (arith, ints, clamps)

    high_of : (m h : ℤ) → h ≤ℤ greatest_of U64 → int_min (m -ℤ pos 1) (int_max h (pos 0)) ≤ℤ greatest_of U64
    high_of m h p = omega (arith, ints, clamps)

-- ---- bits

whole_holds : (t : IntType) (v : ℤ) → InRange t v → HaveNumber (whole t) v
whole_holds t v i = between_holds (least_of t) (greatest_of t) v (number_low t) (number_high t) i.low i.high

abbrev and_of : IntType → ℤ → ℤ → ℤ
and_of t x y = represented t (bit_and (representation t x) (representation t y))

least_below_zero : least_of I64 ≤ℤ pos 0
least_below_zero = omega (arith, ints)

-- with an operand that is not negative the result is from 0 to it
left_bound : (t : IntType) (x y : ℤ) → InRange t x → pos 0 ≤ℤ x → (pos 0 ≤ℤ and_of t x y) × (and_of t x y ≤ℤ x)
left_bound t (pos n) y i p =
    let l = and_le_l n (representation t y) in
    subst (λ v. (pos 0 ≤ℤ v) × (v ≤ℤ pos n)) (sym (and_left_part t n (representation t y) i.high)) (omega (arith, ints), omega (arith, ints))
left_bound t (negsuc n) y i p = absurd (omega (arith, ints))

right_bound : (t : IntType) (x y : ℤ) → InRange t y → pos 0 ≤ℤ y → (pos 0 ≤ℤ and_of t x y) × (and_of t x y ≤ℤ y)
right_bound t x (pos n) i p =
    let l = and_le_r (representation t x) n in
    subst (λ v. (pos 0 ≤ℤ v) × (v ≤ℤ pos n)) (sym (and_right_part t (representation t x) n i.high)) (omega (arith, ints), omega (arith, ints))
right_bound t x (negsuc n) i p = absurd (omega (arith, ints))

anded_holds : (t : IntType) (a b : Interval) (x y : ℤ) → HasNumber a x → HasNumber b y → InRange t x → InRange t y → InRange t (and_of t x y) → HaveNumber (anded t (ends_of a) (ends_of b)) (and_of t x y)
anded_holds t a b x y h k i j w = by_signs (int_le (pos 0) a.lo) (int_le (pos 0) b.lo) refl refl
  where
    v : ℤ
    v = and_of t x y

    by_signs : (p q : Bool) → int_le (pos 0) a.lo ≡ p → int_le (pos 0) b.lo ≡ q →
        HaveNumber (cond p (between (pos 0) (cond q (int_min a.hi b.hi) a.hi)) (cond q (between (pos 0) b.hi) (whole t))) (and_of t x y)
    by_signs true true e f =
        let l = left_bound t x y i (le_trans _ _ _ (le_fact (pos 0) a.lo e) (has_low a x h)) in
        let r = right_bound t x y j (le_trans _ _ _ (le_fact (pos 0) b.lo f) (has_low b y k)) in
        let p = has_high a x h in let q = has_high b y k in let g = a.ends.below in
        let l1 = l.1 in let r1 = r.1 in
        between_holds (pos 0) (int_min a.hi b.hi) (and_of t x y) least_below_zero (omega (arith, ints, clamps)) l.0 (min_of (and_of t x y) x y a.hi b.hi l1 r1 p q)
      where
        min_of : (v x y a b : ℤ) → v ≤ℤ x → v ≤ℤ y → x ≤ℤ a → y ≤ℤ b → v ≤ℤ int_min a b
        min_of v x y a b p q r s = omega (arith, ints, clamps)
    by_signs true false e f =
        let l = left_bound t x y i (le_trans _ _ _ (le_fact (pos 0) a.lo e) (has_low a x h)) in
        between_holds (pos 0) a.hi (and_of t x y) least_below_zero a.ends.below l.0 (le_trans _ _ _ l.1 (has_high a x h))
    by_signs false true e f =
        let r = right_bound t x y j (le_trans _ _ _ (le_fact (pos 0) b.lo f) (has_low b y k)) in
        between_holds (pos 0) b.hi (and_of t x y) least_below_zero b.ends.below r.0 (le_trans _ _ _ r.1 (has_high b y k))
    by_signs false false e f = whole_holds t _ w

abbrev or_of : IntType → ℤ → ℤ → ℤ
or_of t x y = represented t (bit_or (representation t x) (representation t y))

abbrev xor_of : IntType → ℤ → ℤ → ℤ
xor_of t x y = represented t (bit_xor (representation t x) (representation t y))

or_bounds : (t : IntType) (x y u : ℤ) → InRange t x → InRange t y → pos 0 ≤ℤ x → pos 0 ≤ℤ y → x ≤ℤ u → y ≤ℤ u → u ≤ℤ greatest_of U64 → (x ≤ℤ or_of t x y) × ((y ≤ℤ or_of t x y) × (or_of t x y ≤ℤ ones_over u))
or_bounds t (pos a) (pos b) u i j p q r s g =
    let l = le_or_l a b in let m = le_or_r a b in
    subst (λ v. (pos a ≤ℤ v) × ((pos b ≤ℤ v) × (v ≤ℤ ones_over u))) (sym (or_is t a b i.high j.high)) (omega (arith, ints), (omega (arith, ints), or_below a b u r s g))
or_bounds t (negsuc a) y u i j p q r s g = absurd (omega (arith, ints))
or_bounds t (pos a) (negsuc b) u i j p q r s g = absurd (omega (arith, ints))

xor_bounds : (t : IntType) (x y u : ℤ) → InRange t x → InRange t y → pos 0 ≤ℤ x → pos 0 ≤ℤ y → x ≤ℤ u → y ≤ℤ u → u ≤ℤ greatest_of U64 → (pos 0 ≤ℤ xor_of t x y) × (xor_of t x y ≤ℤ ones_over u)
xor_bounds t (pos a) (pos b) u i j p q r s g =
    subst (λ v. (pos 0 ≤ℤ v) × (v ≤ℤ ones_over u)) (sym (xor_is t a b i.high j.high)) (omega (arith, ints), xor_below a b u r s g)
xor_bounds t (negsuc a) y u i j p q r s g = absurd (omega (arith, ints))
xor_bounds t (pos a) (negsuc b) u i j p q r s g = absurd (omega (arith, ints))

module _ (t : IntType) (a b : Interval) (x y : ℤ) (h : HasNumber a x) (k : HasNumber b y) (i : InRange t x) (j : InRange t y) where
  greater : ℤ
  greater = int_max a.hi b.hi

  left_under : x ≤ℤ int_max a.hi b.hi
  left_under = let p = has_high a x h in omega (arith, ints, clamps)

  right_under : y ≤ℤ int_max a.hi b.hi
  right_under = let p = has_high b y k in omega (arith, ints, clamps)

  under_greatest : int_max a.hi b.hi ≤ℤ greatest_of U64
  under_greatest = let p = a.ends.below in let q = b.ends.below in omega (arith, ints, clamps)

  low_under : least_of I64 ≤ℤ int_max a.lo b.lo
  low_under = let p = a.ends.above in omega (arith, ints, clamps)

  ored_holds : InRange t (or_of t x y) → HaveNumber (ored t (ends_of a) (ends_of b)) (or_of t x y)
  ored_holds w = by_signs (int_le (pos 0) a.lo) (int_le (pos 0) b.lo) refl refl
    where
      by_signs : (p q : Bool) → int_le (pos 0) a.lo ≡ p → int_le (pos 0) b.lo ≡ q → HaveNumber (cond (p && q) (between (int_max a.lo b.lo) (ones_over (int_max a.hi b.hi))) (whole t)) (or_of t x y)
      by_signs true true e f =
          let p = le_trans _ _ _ (le_fact (pos 0) a.lo e) (has_low a x h) in
          let q = le_trans _ _ _ (le_fact (pos 0) b.lo f) (has_low b y k) in
          let o = or_bounds t x y (int_max a.hi b.hi) i j p q left_under right_under under_greatest in
          between_holds (int_max a.lo b.lo) (ones_over (int_max a.hi b.hi)) (or_of t x y) low_under (ones_below _ under_greatest (le_trans _ _ _ p left_under)) (max_of a.lo b.lo x y (or_of t x y) (has_low a x h) (has_low b y k) o.0 o.1.0) o.1.1
        where
          max_of : (a b x y v : ℤ) → a ≤ℤ x → b ≤ℤ y → x ≤ℤ v → y ≤ℤ v → int_max a b ≤ℤ v
          max_of a b x y v p q r s = omega (arith, ints, clamps)
      by_signs true false e f = whole_holds t _ w
      by_signs false q e f = whole_holds t _ w

  xored_holds : InRange t (xor_of t x y) → HaveNumber (xored t (ends_of a) (ends_of b)) (xor_of t x y)
  xored_holds w = by_signs (int_le (pos 0) a.lo) (int_le (pos 0) b.lo) refl refl
    where
      by_signs : (p q : Bool) → int_le (pos 0) a.lo ≡ p → int_le (pos 0) b.lo ≡ q → HaveNumber (cond (p && q) (between (pos 0) (ones_over (int_max a.hi b.hi))) (whole t)) (xor_of t x y)
      by_signs true true e f =
          let p = le_trans _ _ _ (le_fact (pos 0) a.lo e) (has_low a x h) in
          let q = le_trans _ _ _ (le_fact (pos 0) b.lo f) (has_low b y k) in
          let o = xor_bounds t x y (int_max a.hi b.hi) i j p q left_under right_under under_greatest in
          between_holds (pos 0) (ones_over (int_max a.hi b.hi)) (xor_of t x y) least_below_zero (ones_below _ under_greatest (le_trans _ _ _ p left_under)) o.0 o.1
      by_signs true false e f = whole_holds t _ w
      by_signs false q e f = whole_holds t _ w

-- ---- shifts

nearest_below : (t : IntType) (c y : ℤ) → is_amount t y ≡ true → c ≤ℤ y → nearest_amount t c ≤ unsigned_abs y
nearest_below t c y e h =
    let p = amount_from t y e in let q = p.0 in let r = p.1 in
    let w = bits_positive t in
    clamp_le c y (bits_of t) q r h w
  where
    abs_le : (a b : ℤ) → pos 0 ≤ℤ a → a ≤ℤ b → unsigned_abs a ≤ unsigned_abs b
    abs_le (pos a) (pos b) p q = omega (arith, ints)
    abs_le (pos a) (negsuc b) p q = absurd (omega (arith, ints))
    abs_le (negsuc a) b p q = absurd (omega (arith, ints))

    clamp_le : (c y : ℤ) (w : ℕ) → pos 0 ≤ℤ y → y <ℤ pos w → c ≤ℤ y → 1 ≤ w → unsigned_abs (int_max (pos 0) (int_min c (pos (w - 1)))) ≤ unsigned_abs y
    clamp_le c y w p q r s = abs_le (int_max (pos 0) (int_min c (pos (w - 1)))) y (omega (arith, ints, clamps)) (omega (arith, ints, clamps))

some_amount : (t : IntType) (s : ℤ × ℤ) (y : ℤ) → LiesIn s y → is_amount t y ≡ true → has_amount t s ≡ true
some_amount t s y h e =
    let p = amount_from t y e in let q = p.0 in let r = p.1 in let l = h.low in let u = h.high in
    and_from (int_le (pos 0) s.1) (int_lt s.0 (pos (bits_of t))) (le_test (pos 0) s.1 (omega (arith, ints))) (lt_true s.0 (pos (bits_of t)) (below_width s.0 y (bits_of t) l r))
  where
    below_width : (c y : ℤ) (w : ℕ) → c ≤ℤ y → y <ℤ pos w → c <ℤ pos w
    below_width c y w p q = omega (arith, ints)

if_true : (b : Bool) (o : Option Interval) (v : ℤ) → b ≡ true → HaveNumber o v → HaveNumber (cond b o None) v
if_true true o v e h = h
if_true false o v e h = absurd cc

power_le : (j k : ℕ) → j ≤ k → pos (2 ^ j) ≤ℤ pos (2 ^ k)
power_le j k h = let p = pow-le-pow_right {n = 2} (omega arith) h in omega (arith, ints)

shifted_left_holds : (t : IntType) (a b : Interval) (x y v : ℤ) → HasNumber a x → HasNumber b y → is_amount t y ≡ true → settled Shift t (x *ℤ pos (2 ^ unsigned_abs y)) ≡ Ok v → HaveNumber (shifted_left t (ends_of a) (ends_of b)) v
shifted_left_holds t a b x y v h k e s =
    let r = range_encloses a x h in
    let p : LiesIn (powers t (ends_of b)) (pos (2 ^ unsigned_abs y)) = record {
      low = power_le _ _ (nearest_below t b.lo y e (has_low b y k));
      high = power_le _ _ (nearest_above t y b.hi e (has_high b y k));
    } in
    if_true _ _ v (some_amount t (ends_of b) y (range_encloses b y k) e) (settled_holds Shift t (shown_range Mul (ends_of a) (powers t (ends_of b))) (x *ℤ pos (2 ^ unsigned_abs y)) v (each_shown Mul (ends_of a) (powers t (ends_of b)) x (pos (2 ^ unsigned_abs y)) r p) s)

pub four_above : (l a b c d : ℤ) → l ≤ℤ a → l ≤ℤ b → l ≤ℤ c → l ≤ℤ d → l ≤ℤ least_of_four a b c d
four_above l a b c d p q r s = omega (arith, ints, clamps)

four_below : (h a b c d : ℤ) → a ≤ℤ h → b ≤ℤ h → c ≤ℤ h → d ≤ℤ h → greatest_of_four a b c d ≤ℤ h
four_below h a b c d p q r s = omega (arith, ints, clamps)

shifted_right_holds : (t : IntType) (a b : Interval) (x y : ℤ) → HasNumber a x → HasNumber b y → is_amount t y ≡ true → HaveNumber (shifted_right t (ends_of a) (ends_of b)) (int_shr x (unsigned_abs y))
shifted_right_holds t a b x y h k e =
    let i = nearest_amount t b.lo in let j = nearest_amount t b.hi in
    let m = shift_between (ends_of a) x i (unsigned_abs y) j (range_encloses a x h) (nearest_below t b.lo y e (has_low b y k)) (nearest_above t y b.hi e (has_high b y k)) in
    let l = a.ends.above in let u = a.ends.below in
    let l1 = le_trans _ _ _ l a.ends.ordered in let u0 = le_trans _ _ _ a.ends.ordered u in
    if_true _ _ _ (some_amount t (ends_of b) y (range_encloses b y k) e)
    (between_holds _ _ (int_shr x (unsigned_abs y))
    (four_above (least_of I64) (int_shr a.lo i) (int_shr a.lo j) (int_shr a.hi i) (int_shr a.hi j) (shift_above a.lo i _ l) (shift_above a.lo j _ l) (shift_above a.hi i _ l1) (shift_above a.hi j _ l1))
    (four_below (greatest_of U64) (int_shr a.lo i) (int_shr a.lo j) (int_shr a.hi i) (int_shr a.hi j) (shift_below a.lo i _ u0) (shift_below a.lo j _ u0) (shift_below a.hi i _ u) (shift_below a.hi j _ u))
    m.low m.high)

-- ---- each operator

pub results_hold : (o : BinOp) (t : IntType) (a b : Interval) (x y v : ℤ) → HasNumber a x → HasNumber b y → InRange t x → IsRightOperand o t y → arith_of o t x y ≡ Ok v → HaveNumber (results_of o t (ends_of a) (ends_of b)) v
results_hold Add t a b x y v h k i j e = settled_holds Overflow t _ (x +ℤ y) v (each_shown Add (ends_of a) (ends_of b) x y (range_encloses a x h) (range_encloses b y k)) e
results_hold Sub t a b x y v h k i j e = settled_holds Overflow t _ (x -ℤ y) v (each_shown Sub (ends_of a) (ends_of b) x y (range_encloses a x h) (range_encloses b y k)) e
results_hold Mul t a b x y v h k i j e = settled_holds Overflow t _ (x *ℤ y) v (each_shown Mul (ends_of a) (ends_of b) x y (range_encloses a x h) (range_encloses b y k)) e
results_hold Div t a b x y v h k i j e =
    let p = ok_if (is_divisible t x y) (int_div x y) v Division e in
    let q = and_parts (not (int_eq y (pos 0))) (is_in_range t (int_div x y)) p.0 in
    subst (HaveNumber (divided t (ends_of a) (ends_of b))) p.1 (divided_holds t (ends_of a) (ends_of b) x y (range_encloses a x h) (range_encloses b y k) q.0 (in_range_from_true t (int_div x y) q.1))
results_hold Rem t a b x y v h k i j e =
    let p = ok_if (is_divisible t x y) (int_rem x y) v Division e in
    let q = and_parts (not (int_eq y (pos 0))) (is_in_range t (int_div x y)) p.0 in
    subst (HaveNumber (remainders (ends_of a) (ends_of b))) p.1 (remainders_hold a b x y h k q.0)
results_hold And t a b x y v h k i j e =
    subst (HaveNumber (anded t (ends_of a) (ends_of b))) (ok_same (and_of t x y) v _ refl e) (anded_holds t a b x y h k i j (arith_in_range And t x y (and_of t x y) i refl))
results_hold Or t a b x y v h k i j e =
    subst (HaveNumber (ored t (ends_of a) (ends_of b))) (ok_same (or_of t x y) v _ refl e) (ored_holds t a b x y h k i j (arith_in_range Or t x y (or_of t x y) i refl))
results_hold Xor t a b x y v h k i j e =
    subst (HaveNumber (xored t (ends_of a) (ends_of b))) (ok_same (xor_of t x y) v _ refl e) (xored_holds t a b x y h k i j (arith_in_range Xor t x y (xor_of t x y) i refl))
results_hold Shl t a b x y v h k i j e = by_test (is_amount t y && int_le (pos 0) x) refl e
  where
    by_test : (b' : Bool) → (is_amount t y && int_le (pos 0) x) ≡ b' → (let r : Result ℤ Undef = cond b' (settled Shift t (x *ℤ pos (2 ^ unsigned_abs y))) (Err Shift) in r) ≡ Ok v → HaveNumber (shifted_left t (ends_of a) (ends_of b)) v
    by_test true f e = shifted_left_holds t a b x y v h k (and_parts (is_amount t y) (int_le (pos 0) x) f).0 e
    by_test false f e = absurd cc
results_hold Shr t a b x y v h k i j e =
    let p = ok_if (is_amount t y) (int_shr x (unsigned_abs y)) v Shift e in
    subst (HaveNumber (shifted_right t (ends_of a) (ends_of b))) p.1 (shifted_right_holds t a b x y h k p.0)
