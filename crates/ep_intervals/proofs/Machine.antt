-- What the code of intervals needs.
use Rattle.std.proofs.Common.{◌≡◌, ℕ, ◌-◌, ◌^◌, ◌<◌, ◌≤◌, ◌*ℤ◌, ℤ, pos, negsuc, neg_ℤ, ◌+ℤ◌, ◌-ℤ◌, ◌≤ℤ◌, Bool, true}
use Rattle.ep_domain.specs.Laws.Shared.{eq_true}
use Rattle.ep_int.proofs.Arithmetic.{difference_fits, in_range_some_type, sum_fits}
use Rattle.ep_int.proofs.Basics.{of_z-injective}
use Rattle.ep_domain.proofs.FaultCode.{pair_same}
use Rattle.ep_interval_laws.proofs.Operators.{four_above}
use Rattle.std.proofs.Common.{false, cond, Option, Some, None, FitsSigned, refl, sym, ap, ◌∙◌, subst, arith}
use Rattle.std.proofs.Common.{of_z}
use mir.Syntax.{w128}
use Rattle.std.specs.Prelude.{int_le, unsigned_abs, IfSome}
use Rattle.std.specs.Option.{option_zip, option_and_then}
use Rattle.std.specs.Int.{int_min, int_max, int_shr}
use Rattle.std.proofs.lemmas.Int.{ints, clamps, fits_signed_mul}
use Rattle.ep_int.specs.declared.types.IntType.{IntType}
use Rattle.ep_int.specs.declared.types.Cmp.{Cmp}
use Rattle.ep_int.specs.declared.types.BinOp.{BinOp}
use Rattle.ep_int.specs.declared.types.BinOp.TheVariants.{Add, Sub, Mul, Div, Rem, And, Or, Xor, Shl, Shr}
use Rattle.ep_int.specs.Types.{is_signed, least_of, greatest_of, wrapped, InRange}
use Rattle.ep_int.specs.Arith.{IsOfSomeType, IsRightOperand}
use Rattle.ep_range_laws.specs.Ranges.{IsRange}
use Rattle.ep_range_laws.proofs.Comparisons.{from_between, le_trans, le_antisym}
use Rattle.ep_domain.proofs.FaultCode.{fits_number}
use Rattle.ep_intervals.specs.declared.interval.Interval.TheInside.{Inside}
use Rattle.ep_interval_laws.specs.Ends.{in_one_stretch, wrapped_low, wrapped_high, low_apart, high_apart}
use Rattle.ep_interval_laws.specs.Interval.{Interval, interval, between, overlap, apart_from, filter_of}
use Rattle.ep_interval_laws.specs.Results.{clipped, settled_between, negative_part, positive_part, quotients, hull}
use Rattle.ep_interval_laws.specs.Results.{divided, greatest_size, remainders, anded, ored, xored, ones_over, whole}
use Rattle.ep_interval_laws.specs.Results.{has_amount, powers, shifted_left, shifted_right, shifted_right_between}
use Rattle.ep_interval_laws.specs.Results.{results_between, right_operands, value_of}
use Rattle.ep_range_laws.specs.Faults.{is_ordered, least_of_four, greatest_of_four, shown_range, nearest_amount}
use Rattle.ep_range_laws.proofs.Types.{number_low, number_high, least_unsigned}
use Rattle.ep_int.proofs.Wrapping.{wrapped_in_range}
use Rattle.std.proofs.Math.Nat.{pow-le-pow_right, div-le_self}
use Rattle.ep_interval_laws.proofs.Between.{same_ends, between_some, between_parts}

-- the fields of an interval as its value
abbrev pub seen : Inside → Interval
seen i = record { lo = i.lo; hi = i.hi; ends = i.ends }

pub seen_overlap : {a b : Interval} {o : Option Interval} (lo hi : ℤ) → b ≡ a → o ≡ overlap a lo hi → o ≡ overlap b lo hi
seen_overlap {o = o} lo hi e h = subst (λ x. o ≡ overlap x lo hi) (sym e) h

-- the ends of intervals have 128 bits
pub low_number : (l h : ℤ) → IsRange l h → IsOfSomeType l
low_number l h r = record { low = r.above; high = le_trans _ _ _ r.ordered r.below }

pub high_number : (l h : ℤ) → IsRange l h → IsOfSomeType h
high_number l h r = record { low = le_trans _ _ _ r.above r.ordered; high = r.below }

pub low_fits : (a : Interval) → FitsSigned w128 a.lo
low_fits a = fits_number a.lo (low_number a.lo a.hi a.ends)

pub high_fits : (a : Interval) → FitsSigned w128 a.hi
high_fits a = fits_number a.hi (high_number a.lo a.hi a.ends)

pub some_interval : (l h k j : ℤ) (p : IsRange l h) → l ≡ k → h ≡ j → Some (interval l h p) ≡ between k j
some_interval l h k j p e f =
    let q : IsRange k j = subst (λ z. IsRange k z) f (subst (λ z. IsRange z h) e p) in
    ap Some (same_ends l h p k j q e f) ∙ sym (between_some k j q)

-- ---- conversion

pub apart_stretches : (t : IntType) (l h a b : ℤ) → a ≡ wrapped t l → b ≡ wrapped t h → ((of_z w128 (l -ℤ a) ≡ of_z w128 (h -ℤ b)) → ⊥) → in_one_stretch t l h ≡ false
apart_stretches t l h a b e f n = by_test (in_one_stretch t l h) refl
  where
    by_test : (s : Bool) → in_one_stretch t l h ≡ s → s ≡ false
    by_test false g = refl
    by_test true g =
        let r = from_between (l -ℤ wrapped t l) (h -ℤ wrapped t h) (h -ℤ wrapped t h) (l -ℤ wrapped t l) g in
        let d : (l -ℤ wrapped t l) ≡ (h -ℤ wrapped t h) = le_antisym _ _ r.0 r.1 in
        absurd (n (ap (of_z w128) (ap (λ z. l -ℤ z) e ∙ d ∙ ap (λ z. h -ℤ z) (sym f))))

pub whole_ends : (t : IntType) (l h a b : ℤ) → in_one_stretch t l h ≡ false → a ≡ least_of t → b ≡ greatest_of t → (let p : ℤ × ℤ = (a, b) in p) ≡ (wrapped_low t l h, wrapped_high t l h)
whole_ends t l h a b n e f = pair_same a b _ _ (e ∙ ap (λ s. cond s (wrapped t l) (least_of t)) (sym n)) (f ∙ ap (λ s. cond s (wrapped t h) (greatest_of t)) (sym n))

-- ---- comparisons

pub apart_is : (a b : Interval) (l h : ℤ) (r : Option Interval) → b.lo ≡ b.hi → l ≡ low_apart a.lo b.lo → h ≡ high_apart a.hi b.lo → r ≡ between l h → r ≡ apart_from a b
apart_is a b l h r e f g i = rw (eq_true b.lo b.hi e) (i ∙ ap (λ z. between z h) f ∙ ap (between (low_apart a.lo b.lo)) g)

pub zipped : (a b : Interval) (c d : Cmp) (r : Option (Interval × Interval)) (o p l h : Option Interval) → c ≡ d → filter_of d a b ≡ option_zip l h → o ≡ l → p ≡ h → r ≡ option_zip o p → r ≡ filter_of c a b
zipped a b c d r o p l h e f g i k = k ∙ ap (λ z. option_zip z p) g ∙ ap (option_zip l) i ∙ sym f ∙ ap (λ z. filter_of z a b) (sym e)

pub above_fits : (a : Interval) → FitsSigned w128 (a.lo +ℤ pos 1)
above_fits a = let p = low_number a.lo a.hi a.ends in sum_fits a.lo (pos 1) p (record { low = omega (arith, ints); high = omega (arith, ints) })

pub below_fits : (a : Interval) → FitsSigned w128 (a.hi -ℤ pos 1)
below_fits a = let p = high_number a.lo a.hi a.ends in difference_fits a.hi (pos 1) p (record { low = omega (arith, ints); high = omega (arith, ints) })

-- ---- operands

pub overlap_in_type : (a : Interval) (t : IntType) → IfSome (overlap a (least_of t) (greatest_of t)) (λ c. InRange t c.lo × InRange t c.hi)
overlap_in_type a t = between_parts (int_max a.lo (least_of t)) (int_min a.hi (greatest_of t)) (λ c. InRange t c.lo × InRange t c.hi) parts
  where
    parts : IsRange (int_max a.lo (least_of t)) (int_min a.hi (greatest_of t)) → InRange t (int_max a.lo (least_of t)) × InRange t (int_min a.hi (greatest_of t))
    parts p =
        let o = p.ordered in
        (record { low = omega (arith, ints, clamps); high = omega (arith, ints, clamps) }, record { low = omega (arith, ints, clamps); high = omega (arith, ints, clamps) })

of_some : (o : Option Interval) (c : Interval) (P : Interval → Type 0) → o ≡ Some c → IfSome o P → P c
of_some o c P e h = subst (λ z. IfSome z P) e h

pub left_in_type : (a c : Interval) (t : IntType) → overlap a (least_of t) (greatest_of t) ≡ Some c → InRange t c.lo × InRange t c.hi
left_in_type a c t e = of_some _ c (λ c. InRange t c.lo × InRange t c.hi) e (overlap_in_type a t)

pub right_in_type : (o : BinOp) (a c : Interval) (t : IntType) → right_operands o t a ≡ Some c → IsRightOperand o t c.lo × IsRightOperand o t c.hi
right_in_type Add a c t e = left_in_type a c t e
right_in_type Sub a c t e = left_in_type a c t e
right_in_type Mul a c t e = left_in_type a c t e
right_in_type Div a c t e = left_in_type a c t e
right_in_type Rem a c t e = left_in_type a c t e
right_in_type And a c t e = left_in_type a c t e
right_in_type Or a c t e = left_in_type a c t e
right_in_type Xor a c t e = left_in_type a c t e
right_in_type Shl a c t e = (low_number c.lo c.hi c.ends, high_number c.lo c.hi c.ends)
right_in_type Shr a c t e = (low_number c.lo c.hi c.ends, high_number c.lo c.hi c.ends)

pub value_is : (o : BinOp) (t : IntType) (a b l r : Interval) (v : Option Interval) → overlap a (least_of t) (greatest_of t) ≡ Some l → right_operands o t b ≡ Some r → v ≡ results_between o t l r → v ≡ value_of o t a b
value_is o t a b l r v e f g = g ∙ sym (ap (λ z. option_and_then (λ x. option_and_then (λ y. results_between o t x y) (right_operands o t b)) z) e ∙ ap (λ z. option_and_then (λ y. results_between o t l y) z) f)

pub value_none : (o : BinOp) (t : IntType) (a b l : Interval) (v : Option Interval) → overlap a (least_of t) (greatest_of t) ≡ Some l → right_operands o t b ≡ None → v ≡ None → v ≡ value_of o t a b
value_none o t a b l v e f g = g ∙ sym (ap (λ z. option_and_then (λ x. option_and_then (λ y. results_between o t x y) (right_operands o t b)) z) e ∙ ap (λ z. option_and_then (λ y. results_between o t l y) z) f)

-- ---- results

pub clipped_is : (t : IntType) (e : ℤ × ℤ) (r : Option Interval) → is_signed t ≡ true → r ≡ clipped t e → r ≡ settled_between t e
clipped_is t e r s h = h ∙ ap (λ b. cond b (clipped t e) (between (wrapped_low t e.0 e.1) (wrapped_high t e.0 e.1))) (sym s)

pub reduced_is : (t : IntType) (e : ℤ × ℤ) (r : Option Interval) → is_signed t ≡ false → r ≡ between (wrapped_low t e.0 e.1) (wrapped_high t e.0 e.1) → r ≡ settled_between t e
reduced_is t e r s h = h ∙ ap (λ b. cond b (clipped t e) (between (wrapped_low t e.0 e.1) (wrapped_high t e.0 e.1))) (sym s)

pub divided_at : (t : IntType) (x y : ℤ × ℤ) (a b : Bool) → is_ordered (negative_part y) ≡ a → is_ordered (positive_part y) ≡ b →
    divided t x y ≡ cond a (cond b (clipped t (hull (quotients x (negative_part y)) (quotients x (positive_part y)))) (clipped t (quotients x (negative_part y)))) (cond b (clipped t (quotients x (positive_part y))) None)
divided_at t x y a b e f = rw (e, f) refl

pub anded_at : (t : IntType) (x y : ℤ × ℤ) (a b : Bool) → int_le (pos 0) x.0 ≡ a → int_le (pos 0) y.0 ≡ b →
    anded t x y ≡ cond a (between (pos 0) (cond b (int_min x.1 y.1) x.1)) (cond b (between (pos 0) y.1) (whole t))
anded_at t x y a b e f = rw (e, f) refl

pub ored_at : (t : IntType) (x y : ℤ × ℤ) → int_le (pos 0) x.0 ≡ true → int_le (pos 0) y.0 ≡ true → ored t x y ≡ between (int_max x.0 y.0) (ones_over (int_max x.1 y.1))
ored_at t x y e f = rw (e, f) refl

pub xored_at : (t : IntType) (x y : ℤ × ℤ) → int_le (pos 0) x.0 ≡ true → int_le (pos 0) y.0 ≡ true → xored t x y ≡ between (pos 0) (ones_over (int_max x.1 y.1))
xored_at t x y e f = rw (e, f) refl

pub greater_number : (x y : ℤ × ℤ) → IsRange x.0 x.1 → IsRange y.0 y.1 → IsOfSomeType (int_max x.1 y.1)
greater_number x y h k =
    let p = high_number x.0 x.1 h in let q = high_number y.0 y.1 k in
    record { low = omega (arith, ints, clamps); high = omega (arith, ints, clamps) }

-- ---- shifts

abs_number : (x : ℤ) → IsOfSomeType x → unsigned_abs x ≤ 2 ^ 64 - 1
abs_number (pos n) h = let p = h.high in omega (arith, ints)
abs_number (negsuc n) h = let p = h.low in omega (arith, ints)

pub shift_fits : (t : IntType) (x p : ℤ) (n : ℕ) → InRange t x → n < 64 → p ≡ pos (2 ^ n) → FitsSigned w128 (x *ℤ p)
shift_fits t x p n i h e =
    let k : n ≤ 63 = omega arith in
    subst (λ q. FitsSigned w128 (x *ℤ q)) (sym e) (fits_signed_mul w128 x (pos (2 ^ n)) (2 ^ 64 - 1) (2 ^ 63) (abs_number x (in_range_some_type t x i)) (pow-le-pow_right {n = 2} (omega arith) k) (omega arith))

product_positive : (x p : ℤ) (n : ℕ) → pos 0 ≤ℤ x → p ≡ pos n → pos 0 ≤ℤ (x *ℤ p)
product_positive (pos x) p n h e = subst (λ q. pos 0 ≤ℤ (pos x *ℤ q)) (sym e) (omega (arith, ints))
product_positive (negsuc x) p n h e = absurd (omega (arith, ints))

four_first : (l a b c d : ℤ) → l ≤ℤ a → l ≤ℤ greatest_of_four a b c d
four_first l a b c d p = omega (arith, ints, clamps)

pub unsigned_shift : (t : IntType) (x y : ℤ × ℤ) (m n : ℕ) → is_signed t ≡ false → InRange t x.0 → InRange t x.1 → y.0 ≡ pos m → y.1 ≡ pos n → (pos 0 ≤ℤ (shown_range Mul x y).0) × (pos 0 ≤ℤ (shown_range Mul x y).1)
unsigned_shift t x y m n s i j e f =
    let z = least_unsigned t s in
    let p : pos 0 ≤ℤ x.0 = let l = i.low in omega (arith, ints) in
    let q : pos 0 ≤ℤ x.1 = let l = j.low in omega (arith, ints) in
    let a = product_positive x.0 y.0 m p e in let b = product_positive x.0 y.1 n p f in
    let c = product_positive x.1 y.0 m q e in let d = product_positive x.1 y.1 n q f in
    (four_above (pos 0) (x.0 *ℤ y.0) (x.0 *ℤ y.1) (x.1 *ℤ y.0) (x.1 *ℤ y.1) a b c d, four_first (pos 0) (x.0 *ℤ y.0) (x.0 *ℤ y.1) (x.1 *ℤ y.0) (x.1 *ℤ y.1) a)

fits_between : (v : ℤ) → negsuc 170141183460469231731687303715884105727 ≤ℤ v → v ≤ℤ pos 170141183460469231731687303715884105727 → FitsSigned w128 v
fits_between (pos n) p q = record { sfits = omega (arith, ints) }
fits_between (negsuc n) p q = record { sfits = omega (arith, ints) }

-- what conversion takes from a number fits where the number does and is not negative
pub taken_fits : (t : IntType) (e : ℤ) → is_signed t ≡ false → FitsSigned w128 e → pos 0 ≤ℤ e → FitsSigned w128 (e -ℤ wrapped t e)
taken_fits t e s f p =
    let i = wrapped_in_range t e in let z = least_unsigned t s in let l = i.low in let h = i.high in let g = number_high t in
    difference_between e (wrapped t e) f p (omega (arith, ints)) (omega (arith, ints))
  where
    difference_between : (e w : ℤ) → FitsSigned w128 e → pos 0 ≤ℤ e → pos 0 ≤ℤ w → w ≤ℤ pos 18446744073709551615 → FitsSigned w128 (e -ℤ w)
    difference_between (pos n) w f p q r = let h : n < 2 ^ 127 = f.sfits in fits_between (pos n -ℤ w) (omega (arith, ints)) (omega (arith, ints))
    difference_between (negsuc n) w f p q r = absurd (omega (arith, ints))

pub small_taken_fits : (t : IntType) (e : ℤ) → negsuc 340282366920938463463374607431768 ≤ℤ e → e ≤ℤ pos 340282366920938463463374607431768 → FitsSigned w128 (e -ℤ wrapped t e)
small_taken_fits t e p q =
    let i = wrapped_in_range t e in let l = i.low in let h = i.high in let g = number_high t in let k = number_low t in
    fits_between (e -ℤ wrapped t e) (omega (arith, ints)) (omega (arith, ints))

pub sum_taken_fits : (t : IntType) (x y : ℤ) → IsOfSomeType x → IsOfSomeType y → FitsSigned w128 ((x +ℤ y) -ℤ wrapped t (x +ℤ y))
sum_taken_fits t x y h k = let p = h.low in let q = h.high in let r = k.low in let s = k.high in small_taken_fits t (x +ℤ y) (omega (arith, ints)) (omega (arith, ints))

pub difference_taken_fits : (t : IntType) (x y : ℤ) → IsOfSomeType x → IsOfSomeType y → FitsSigned w128 ((x -ℤ y) -ℤ wrapped t (x -ℤ y))
difference_taken_fits t x y h k = let p = h.low in let q = h.high in let r = k.low in let s = k.high in small_taken_fits t (x -ℤ y) (omega (arith, ints)) (omega (arith, ints))

pub shr_fits : (x : ℤ) (k : ℕ) → FitsSigned w128 x → FitsSigned w128 (int_shr x k)
shr_fits (pos n) k f = let e = div-le_self n (2 ^ k) in let h : n < 2 ^ 127 = f.sfits in record { sfits = omega arith }
shr_fits (negsuc n) k f = let e = div-le_self n (2 ^ k) in let h : n < 2 ^ 127 = f.sfits in record { sfits = omega arith }

pub shifted_right_is : (t : IntType) (x y : ℤ × ℤ) (j k : ℕ) (e : ℤ × ℤ) (r : Option Interval) → has_amount t y ≡ true → j ≡ nearest_amount t y.0 → k ≡ nearest_amount t y.1 →
    e ≡ (least_of_four (int_shr x.0 j) (int_shr x.0 k) (int_shr x.1 j) (int_shr x.1 k), greatest_of_four (int_shr x.0 j) (int_shr x.0 k) (int_shr x.1 j) (int_shr x.1 k)) → r ≡ between e.0 e.1 → r ≡ shifted_right t x y
shifted_right_is t x y j k e r h p q f g =
    g ∙ ap (λ (z : ℤ × ℤ). between z.0 z.1) f ∙ ap (λ z. shifted_right_between x z k) p ∙ ap (shifted_right_between x (nearest_amount t y.0)) q
    ∙ ap (λ b. cond b (shifted_right_between x (nearest_amount t y.0) (nearest_amount t y.1)) None) (sym h)

pub shifted_left_is : (t : IntType) (x y : ℤ × ℤ) (m n : ℤ) (e : ℤ × ℤ) (r : Option Interval) → has_amount t y ≡ true → m ≡ pos (2 ^ nearest_amount t y.0) → n ≡ pos (2 ^ nearest_amount t y.1) →
    e ≡ shown_range Mul x (m, n) → r ≡ settled_between t e → r ≡ shifted_left t x y
shifted_left_is t x y m n e r h p q f g =
    g ∙ ap (settled_between t) f ∙ ap (λ z. settled_between t (shown_range Mul x (z, n))) p ∙ ap (λ z. settled_between t (shown_range Mul x (pos (2 ^ nearest_amount t y.0), z))) q
    ∙ ap (λ b. cond b (settled_between t (shown_range Mul x (powers t y))) None) (sym h)

-- ---- remainders

pub zero_less : (l : ℤ) → (pos 0 -ℤ l) ≡ neg_ℤ l
zero_less l = omega (arith, ints)

pub negation_fits : (l h : ℤ) → IsRange l h → FitsSigned w128 (pos 0 -ℤ l)
negation_fits l h r = let p = low_number l h r in let a = p.low in let b = p.high in fits_between (pos 0 -ℤ l) (omega (arith, ints)) (omega (arith, ints))

pub size_fits : (l h s : ℤ) → IsRange l h → s ≡ int_max (neg_ℤ l) h → FitsSigned w128 (pos 1 -ℤ s) × FitsSigned w128 (s -ℤ pos 1)
size_fits l h s r e =
    let p = low_number l h r in let a = p.low in let b = p.high in
    let q = high_number l h r in let c = q.low in let d = q.high in
    (fits_between (pos 1 -ℤ s) (omega (arith, ints, clamps)) (omega (arith, ints, clamps)), fits_between (s -ℤ pos 1) (omega (arith, ints, clamps)) (omega (arith, ints, clamps)))

pub remainders_is : (x y : ℤ × ℤ) (s a b c d : ℤ) (r : Option Interval) → s ≡ greatest_size y → a ≡ int_min x.0 (pos 0) → b ≡ int_max (pos 1 -ℤ s) a → c ≡ int_max x.1 (pos 0) → d ≡ int_min (s -ℤ pos 1) c → r ≡ between b d → r ≡ remainders x y
remainders_is x y s a b c d r e f g h i j =
    j ∙ ap (λ z. between z d) (g ∙ ap (λ z. int_max (pos 1 -ℤ z) a) e ∙ ap (int_max (pos 1 -ℤ greatest_size y)) f)
    ∙ ap (between (int_max (pos 1 -ℤ greatest_size y) (int_min x.0 (pos 0)))) (i ∙ ap (λ z. int_min (z -ℤ pos 1) c) e ∙ ap (int_min (greatest_size y -ℤ pos 1)) h)

-- ---- two intervals that are one value

pub same_interval : (a b : Interval) → of_z w128 a.lo ≡ of_z w128 b.lo → of_z w128 a.hi ≡ of_z w128 b.hi → a ≡ b
same_interval a b e f =
    same_ends a.lo a.hi a.ends b.lo b.hi b.ends (of_z-injective a.lo b.lo (low_fits a) (low_fits b) e)
    (of_z-injective a.hi b.hi (high_fits a) (high_fits b) f)
