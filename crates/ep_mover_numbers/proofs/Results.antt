-- Results of intervals in an unsigned type are numbers of it.
use Rattle.std.proofs.Common.{◌≡◌, ℕ, zero, suc, ◌+◌, ◌*◌, ◌≤◌, ◌<◌, ℤ, pos, ◌≤ℤ◌, ◌⊎◌, inl, inr, Bool, true, false, cond}
use Rattle.std.proofs.Common.{◌&&◌, Option, Some, None, Result, Ok, Err, IfSome, refl, sym, subst, arith}
use Rattle.std.specs.Prelude.{◌-◌, ◌^◌, ◌-ℤ◌, negsuc}
use Rattle.std.specs.Int.{int_min, int_max, int_shr}
use Rattle.std.proofs.Math.Nat.{pow-le-pow_right, div-le_self}
use Rattle.std.proofs.lemmas.Int.{ints, clamps}
use Rattle.ep_int.specs.declared.types.IntType.{IntType}
use Rattle.ep_int.specs.declared.types.IntType.TheVariants.{I8, U8, I16, U16, I32, U32, I64, U64}
use Rattle.ep_int.specs.declared.types.BinOp.{BinOp}
use Rattle.ep_int.specs.declared.types.BinOp.TheVariants.{Add, Sub, Mul, Div, Rem, And, Or, Xor, Shl, Shr}
use Rattle.ep_int.specs.declared.types.Undef.{Undef}
use Rattle.ep_int.specs.Types.{is_signed, least_of, greatest_of, InRange, wrapped}
use Rattle.ep_int.specs.Arith.{int_eq, arith_of}
use Rattle.ep_int.proofs.Arithmetic.{arith_in_range, zero_in_range}
use Rattle.ep_int.proofs.Basics.{if_some-map}
use Rattle.ep_int.proofs.Wrapping.{wrapped_in_range}
use Rattle.ep_range_laws.specs.Ranges.{Encloses}
use Rattle.ep_range_laws.specs.Faults.{is_shift, is_ordered, least_of_four, greatest_of_four, shown_range, nearest_amount}
use Rattle.ep_range_laws.proofs.Options.{then_if}
use Rattle.ep_range_laws.proofs.Comparisons.{le_self, le_trans}
use Rattle.ep_interval_laws.specs.Ends.{in_one_stretch, wrapped_low, wrapped_high}
use Rattle.ep_interval_laws.specs.Interval.{Interval, ends_of, between, overlap}
use Rattle.ep_interval_laws.specs.Results.{clipped, settled_between, negative_part, positive_part, quotients, hull, divided}
use Rattle.ep_interval_laws.specs.Results.{greatest_size, remainders, whole, is_positive, anded, length_in_bits, ones_over}
use Rattle.ep_interval_laws.specs.Results.{ored, xored, has_amount, powers, shifted_left, shifted_right_between}
use Rattle.ep_interval_laws.specs.Results.{shifted_right, single_result, results_of, right_operands, results_between, value_of}
use Rattle.ep_interval_laws.proofs.Between.{between_parts}
use Rattle.ep_interval_laws.proofs.Bits.{length_is, ones_below}

-- all of it is of the type
abbrev pub InType : IntType → Interval → Type 0
InType t c = Encloses (least_of t, greatest_of t) (ends_of c)

pub zero_least : (t : IntType) → is_signed t ≡ false → least_of t ≡ pos 0
zero_least U8 e = refl
zero_least U16 e = refl
zero_least U32 e = refl
zero_least U64 e = refl
zero_least I8 e = absurd (cc)
zero_least I16 e = absurd (cc)
zero_least I32 e = absurd (cc)
zero_least I64 e = absurd (cc)

-- ---- the greatest number of as many bits

split : (l k : ℕ) → (l ≤ k) ⊎ (k < l)
split zero k = inl (omega arith)
split (suc l) zero = inr (omega arith)
split (suc l) (suc k) = one_more (split l k)
  where
    one_more : (l ≤ k) ⊎ (k < l) → (suc l ≤ suc k) ⊎ (suc k < suc l)
    one_more (inl h) = inl (omega (arith, h))
    one_more (inr h) = inr (omega (arith, h))

power_up : (l k : ℕ) → l ≤ k → 2 ^ l ≤ 2 ^ k
power_up l k h = pow-le-pow_right {n = 2} (omega arith) h

ones_for : (n g p : ℕ) → n ≤ g → p ≤ 2 * n + 1 → (p ≤ suc g) ⊎ (2 * suc g ≤ p) → pos (p - 1) ≤ℤ pos g
ones_for n g p h l (inl q) = omega (arith, ints, h, l, q)
ones_for n g p h l (inr q) = absurd (omega (arith, h, l, q))

power_split : (l : ℕ) (k : ℕ) (g : ℕ) → 2 ^ k ≡ suc g → 2 ^ suc k ≡ 2 * suc g
    → (2 ^ l ≤ suc g) ⊎ (2 * suc g ≤ 2 ^ l)
power_split l k g e f = at (split l k)
  where
    at : (l ≤ k) ⊎ (k < l) → (2 ^ l ≤ suc g) ⊎ (2 * suc g ≤ 2 ^ l)
    at (inl h) = inl (subst (λ x. 2 ^ l ≤ x) e (power_up l k h))
    at (inr h) = inr (subst (λ x. x ≤ 2 ^ l) f (power_up (suc k) l h))

pub ones_in : (t : IntType) → is_signed t ≡ false → (v : ℤ) → pos 0 ≤ℤ v → v ≤ℤ greatest_of t
    → ones_over v ≤ℤ greatest_of t
ones_in U64 s v p h = ones_below v h p
ones_in U8 s (pos n) p h =
    ones_for n 255 (2 ^ length_in_bits n) (omega (arith, ints)) (length_is n (omega (arith, ints))).1.0
    (power_split (length_in_bits n) 8 255 refl refl)
ones_in U16 s (pos n) p h =
    ones_for n 65535 (2 ^ length_in_bits n) (omega (arith, ints)) (length_is n (omega (arith, ints))).1.0
    (power_split (length_in_bits n) 16 65535 refl refl)
ones_in U32 s (pos n) p h =
    ones_for n 4294967295 (2 ^ length_in_bits n) (omega (arith, ints)) (length_is n (omega (arith, ints))).1.0
    (power_split (length_in_bits n) 32 4294967295 refl refl)
ones_in U8 s (negsuc n) p h = absurd (omega (arith, ints))
ones_in U16 s (negsuc n) p h = absurd (omega (arith, ints))
ones_in U32 s (negsuc n) p h = absurd (omega (arith, ints))
ones_in I8 s v p h = absurd (cc)
ones_in I16 s v p h = absurd (cc)
ones_in I32 s v p h = absurd (cc)
ones_in I64 s v p h = absurd (cc)

-- ---- ends

max_above : (x l : ℤ) → l ≤ℤ int_max x l
max_above x l = omega (arith, ints, clamps)

min_below : (x g : ℤ) → int_min x g ≤ℤ g
min_below x g = omega (arith, ints, clamps)

min_left : (u v g : ℤ) → u ≤ℤ g → int_min u v ≤ℤ g
min_left u v g h = omega (arith, ints, clamps)

max_left : (u v l : ℤ) → l ≤ℤ u → l ≤ℤ int_max u v
max_left u v l h = omega (arith, ints, clamps)

max_below : (u v g : ℤ) → u ≤ℤ g → v ≤ℤ g → int_max u v ≤ℤ g
max_below u v g h k = omega (arith, ints, clamps)

rest_low : (w r l : ℤ) → l ≤ℤ pos 0 → l ≤ℤ r → l ≤ℤ int_max w (int_min r (pos 0))
rest_low w r l z h = omega (arith, ints, clamps)

rest_high : (w r g : ℤ) → pos 0 ≤ℤ g → r ≤ℤ g → int_min w (int_max r (pos 0)) ≤ℤ g
rest_high w r g z h = omega (arith, ints, clamps)

four_above : (l a b c d : ℤ) → l ≤ℤ a → l ≤ℤ b → l ≤ℤ c → l ≤ℤ d → l ≤ℤ least_of_four a b c d
four_above l a b c d p q r s = omega (arith, ints, clamps)

four_below : (g a b c d : ℤ) → a ≤ℤ g → b ≤ℤ g → c ≤ℤ g → d ≤ℤ g → greatest_of_four a b c d ≤ℤ g
four_below g a b c d p q r s = omega (arith, ints, clamps)

shr_in : (x g : ℤ) (k : ℕ) → pos 0 ≤ℤ x → x ≤ℤ g → (pos 0 ≤ℤ int_shr x k) × (int_shr x k ≤ℤ g)
shr_in (pos n) (pos m) k p h = let e = div-le_self n (2 ^ k) in (omega (arith, ints), omega (arith, ints))
shr_in (pos n) (negsuc m) k p h = absurd (omega (arith, ints))
shr_in (negsuc n) g k p h = absurd (omega (arith, ints))

pub low_in : (t : IntType) (l h : ℤ) → least_of t ≤ℤ wrapped_low t l h
low_in t l h = by_test (in_one_stretch t l h)
  where
    by_test : (b : Bool) → least_of t ≤ℤ cond b (wrapped t l) (least_of t)
    by_test true = let i = wrapped_in_range t l in i.low
    by_test false = le_self (least_of t)

pub high_in : (t : IntType) (l h : ℤ) → wrapped_high t l h ≤ℤ greatest_of t
high_in t l h = by_test (in_one_stretch t l h)
  where
    by_test : (b : Bool) → cond b (wrapped t h) (greatest_of t) ≤ℤ greatest_of t
    by_test true = let i = wrapped_in_range t h in i.high
    by_test false = le_self (greatest_of t)

either_in : (P : Interval → Type 0) (b : Bool) (o n : Option Interval) → IfSome o P → IfSome n P
    → IfSome (cond b o n) P
either_in P true o n h k = h
either_in P false o n h k = k

-- ---- results

module _ (t : IntType) (s : is_signed t ≡ false) where
  in_between : (l h : ℤ) → least_of t ≤ℤ l → h ≤ℤ greatest_of t → IfSome (between l h) (InType t)
  in_between l h p q = between_parts l h (InType t) (λ r. record { low = p; high = q })

  clipped_in : (e : ℤ × ℤ) → IfSome (clipped t e) (InType t)
  clipped_in e =
      in_between (int_max e.0 (least_of t)) (int_min e.1 (greatest_of t)) (max_above e.0 (least_of t))
      (min_below e.1 (greatest_of t))

  whole_in : IfSome (whole t) (InType t)
  whole_in = in_between (least_of t) (greatest_of t) (le_self (least_of t)) (le_self (greatest_of t))

  zero_low : least_of t ≤ℤ pos 0
  zero_low = let z = zero_in_range t in z.low

  zero_high : pos 0 ≤ℤ greatest_of t
  zero_high = let z = zero_in_range t in z.high

  settled_in : (e : ℤ × ℤ) → IfSome (settled_between t e) (InType t)
  settled_in e =
      either_in (InType t) (is_signed t) (clipped t e) (between (wrapped_low t e.0 e.1) (wrapped_high t e.0 e.1))
      (clipped_in e)
      (in_between (wrapped_low t e.0 e.1) (wrapped_high t e.0 e.1) (low_in t e.0 e.1) (high_in t e.0 e.1))

  divided_by : (p q : Bool) (x y w : ℤ × ℤ)
      → IfSome (cond p (cond q (clipped t x) (clipped t y)) (cond q (clipped t w) None)) (InType t)
  divided_by true true x y w = clipped_in x
  divided_by true false x y w = clipped_in y
  divided_by false true x y w = clipped_in w
  divided_by false false x y w = tt

  and_by : (p q : Bool) (u v : ℤ) → u ≤ℤ greatest_of t → v ≤ℤ greatest_of t
      → IfSome (cond p (between (pos 0) (cond q (int_min u v) u)) (cond q (between (pos 0) v) (whole t))) (InType t)
  and_by true true u v h k = in_between (pos 0) (int_min u v) zero_low (min_left u v (greatest_of t) h)
  and_by true false u v h k = in_between (pos 0) u zero_low h
  and_by false true u v h k = in_between (pos 0) v zero_low k
  and_by false false u v h k = whole_in

  natural : (x : Interval) → InType t x → (pos 0 ≤ℤ x.lo) × (pos 0 ≤ℤ x.hi)
  natural x h =
      let p : pos 0 ≤ℤ x.lo = subst (λ z. z ≤ℤ x.lo) (zero_least t s) h.low in
      (p, le_trans (pos 0) x.lo x.hi p x.ends.ordered)

  ones : (x y : Interval) → InType t x → InType t y → ones_over (int_max x.hi y.hi) ≤ℤ greatest_of t
  ones x y h k =
      ones_in t s (int_max x.hi y.hi) (max_left x.hi y.hi (pos 0) (natural x h).1)
      (max_below x.hi y.hi (greatest_of t) h.high k.high)

  shifted_in : (x : Interval) (j k : ℕ) → InType t x → IfSome (shifted_right_between (ends_of x) j k) (InType t)
  shifted_in x j k h =
      let n = natural x h in
      let low : (v : ℤ) → pos 0 ≤ℤ v → least_of t ≤ℤ v = λ v p. le_trans (least_of t) (pos 0) v zero_low p in
      let lo_top : x.lo ≤ℤ greatest_of t = le_trans x.lo x.hi (greatest_of t) x.ends.ordered h.high in
      let a = shr_in x.lo (greatest_of t) j n.0 lo_top in
      let b = shr_in x.lo (greatest_of t) k n.0 lo_top in
      let c = shr_in x.hi (greatest_of t) j n.1 h.high in
      let d = shr_in x.hi (greatest_of t) k n.1 h.high in
      in_between (least_of_four (int_shr x.lo j) (int_shr x.lo k) (int_shr x.hi j) (int_shr x.hi k))
      (greatest_of_four (int_shr x.lo j) (int_shr x.lo k) (int_shr x.hi j) (int_shr x.hi k))
      (four_above (least_of t) (int_shr x.lo j) (int_shr x.lo k) (int_shr x.hi j) (int_shr x.hi k) (low _ a.0) (low _ b.0)
      (low _ c.0) (low _ d.0))
      (four_below (greatest_of t) (int_shr x.lo j) (int_shr x.lo k) (int_shr x.hi j) (int_shr x.hi k) a.1 b.1 c.1 d.1)

  result_in : (o : BinOp) (x y : Interval) → InType t x → (is_shift o ≡ false → InType t y)
      → IfSome (results_of o t (ends_of x) (ends_of y)) (InType t)
  result_in Add x y h k = settled_in (shown_range Add (ends_of x) (ends_of y))
  result_in Sub x y h k = settled_in (shown_range Sub (ends_of x) (ends_of y))
  result_in Mul x y h k = settled_in (shown_range Mul (ends_of x) (ends_of y))
  result_in Div x y h k =
      divided_by (is_ordered (negative_part (ends_of y))) (is_ordered (positive_part (ends_of y)))
      (hull (quotients (ends_of x) (negative_part (ends_of y))) (quotients (ends_of x) (positive_part (ends_of y))))
      (quotients (ends_of x) (negative_part (ends_of y))) (quotients (ends_of x) (positive_part (ends_of y)))
  result_in Rem x y h k =
      in_between (int_max (pos 1 -ℤ greatest_size (ends_of y)) (int_min x.lo (pos 0)))
      (int_min (greatest_size (ends_of y) -ℤ pos 1) (int_max x.hi (pos 0)))
      (rest_low (pos 1 -ℤ greatest_size (ends_of y)) x.lo (least_of t) zero_low h.low)
      (rest_high (greatest_size (ends_of y) -ℤ pos 1) x.hi (greatest_of t) zero_high h.high)
  result_in And x y h k =
      let i = k refl in
      and_by (is_positive (ends_of x)) (is_positive (ends_of y)) x.hi y.hi h.high i.high
  result_in Or x y h k =
      let i = k refl in
      either_in (InType t) (is_positive (ends_of x) && is_positive (ends_of y))
      (between (int_max x.lo y.lo) (ones_over (int_max x.hi y.hi))) (whole t)
      (in_between (int_max x.lo y.lo) (ones_over (int_max x.hi y.hi)) (max_left x.lo y.lo (least_of t) h.low)
      (ones x y h i))
      whole_in
  result_in Xor x y h k =
      let i = k refl in
      either_in (InType t) (is_positive (ends_of x) && is_positive (ends_of y))
      (between (pos 0) (ones_over (int_max x.hi y.hi))) (whole t)
      (in_between (pos 0) (ones_over (int_max x.hi y.hi)) zero_low (ones x y h i)) whole_in
  result_in Shl x y h k =
      either_in (InType t) (has_amount t (ends_of y))
      (settled_between t (shown_range Mul (ends_of x) (powers t (ends_of y)))) None
      (settled_in (shown_range Mul (ends_of x) (powers t (ends_of y)))) tt
  result_in Shr x y h k =
      either_in (InType t) (has_amount t (ends_of y))
      (shifted_right_between (ends_of x) (nearest_amount t y.lo) (nearest_amount t y.hi)) None
      (shifted_in x (nearest_amount t y.lo) (nearest_amount t y.hi) h) tt

  one_in : (o : Result ℤ Undef) → ((v : ℤ) → o ≡ Ok v → InRange t v) → IfSome (single_result o) (InType t)
  one_in (Err u) go = tt
  one_in (Ok v) go = let h = go v refl in in_between v v h.low h.high

  overlap_in : (a : Interval) → IfSome (overlap a (least_of t) (greatest_of t)) (InType t)
  overlap_in a = clipped_in (ends_of a)

  right_in : (k : Bool) (b : Interval)
      → IfSome (cond k (Some b) (overlap b (least_of t) (greatest_of t))) (λ y. k ≡ false → InType t y)
  right_in true b = λ e. absurd (cc)
  right_in false b =
      if_some-map (InType t) (λ y. false ≡ false → InType t y) (overlap b (least_of t) (greatest_of t)) (λ y h e. h)
      (overlap_in b)

  pub value_in : (o : BinOp) (a b : Interval) → IfSome (value_of o t a b) (InType t)
  value_in o a b =
      then_if (InType t) (InType t) (overlap a (least_of t) (greatest_of t)) _ (overlap_in a)
      (λ x h. then_if (λ y. is_shift o ≡ false → InType t y) (InType t) (right_operands o t b) (results_between o t x)
      (right_in (is_shift o) b)
      (λ y k. either_in (InType t) (int_eq x.lo x.hi && int_eq y.lo y.hi) (single_result (arith_of o t x.lo y.lo))
      (results_of o t (ends_of x) (ends_of y))
      (one_in (arith_of o t x.lo y.lo) (λ v e. arith_in_range o t x.lo y.lo v
      (record { low = h.low; high = le_trans x.lo x.hi (greatest_of t) x.ends.ordered h.high }) e))
      (result_in o x y h k)))
