-- Laws of what does not depend on an operator.
use Prim.Native.Nat.{◌∣◌}
use Rattle.ep_congruence_laws.proofs.Multiples.{eq_zero, zero_eq}
use Rattle.ep_int.proofs.Arithmetic.{le_fact}
use Rattle.std.proofs.lemmas.Bool.{leb-true}
use Rattle.std.proofs.Common.{◌≡◌, ℕ, zero, suc, ◌+◌, ◌-◌, ◌*◌, ◌/◌, ◌%◌, ◌^◌, ◌<◌, ◌≤◌, ℤ, pos, negsuc, ◌+ℤ◌, ◌-ℤ◌}
use Rattle.std.proofs.Common.{◌*ℤ◌, ◌≤ℤ◌, ◌<ℤ◌, neg_ℤ, Bool, true, false, cond, ◌&&◌, Some, None, nat_eq, nat_le}
use Rattle.std.proofs.Common.{arith, refl, sym, ap, ◌∙◌, subst}
use Rattle.std.specs.Prelude.{unsigned_abs, int_le, IfSome, IsSomeAnd, nat_lt}
use Rattle.std.specs.Int.{w128, leading_zeros}
use Rattle.std.proofs.lemmas.Int.{ints}
use Rattle.std.proofs.lemmas.Nat.{div-add-mod', leading_top}
use Rattle.std.proofs.Math.Pow.{pow_mono}
use Rattle.std.proofs.Math.IntN.{*ℤ_comm, zero-*ℤ}
use Rattle.std.proofs.Math.Nat.{eq-zero_of_zero-dvd, mod-eq_of_lt}
use Rattle.std.proofs.lemmas.Bool.Decides.{nat_tests}
use Rattle.std.proofs.lemmas.Nat.Gcd.{dvd_trans, le_of_dvd, mod-eq-zero_of_dvd}
use Rattle.std.proofs.lemmas.Bool.{and_parts, and_from}
use Rattle.ep_int.specs.declared.types.IntType.TheVariants.{I64, U64}
use Rattle.ep_int.specs.Types.{least_of, greatest_of, residue}
use Rattle.ep_int.specs.Arith.{IsOfSomeType}
use Rattle.ep_int.proofs.Wrapping.{residue_below}
use Rattle.ep_range_laws.specs.Ranges.{LiesIn, Encloses}
use Rattle.ep_domain.specs.Laws.Shared.{pair}
use Rattle.ep_range_laws.proofs.Comparisons.{le_false, from_le_false, between_true, from_between, le_self}
use Rattle.ep_congruence_laws.specs.Multiples.{IsMultiple, is_multiple, gcd_steps, gcd}
use Rattle.ep_congruence_laws.specs.Classes.{Class, class, one, greatest_modulus, is_class, reduced, distance}
use Rattle.ep_congruence_laws.specs.Classes.{is_within, joined_modulus, join_of, range_of, rank_of, edges_from}
use Rattle.ep_congruence_laws.specs.Classes.{first_from, last_to}
use Rattle.ep_congruence_laws.proofs.Multiples.{multiple_of, multiple_by_size, size_of_multiple, none_of, of_dvd}
use Rattle.ep_congruence_laws.proofs.Multiples.{test_multiple, multiple_test, is_gcd}
use Rattle.ep_congruence_laws.proofs.Classes.{nonzero_from, nonzero_test}
use Rattle.ep_congruence_laws.proofs.Classes.{residue_multiple, small_multiple, chain, turn, in_reduced}
use Rattle.ep_congruence_laws.proofs.Classes.{reduced_modulus, class_with, class_small, class_remainder, class_one}
use Rattle.ep_congruence_laws.proofs.Classes.{class_has}

-- the number is in the class, of whichever size it is
abbrev pub In : Class → ℤ → Type 0
In c z = IsMultiple c.modulus (z -ℤ c.remainder)

abbrev pub Is : Class → Type 0
Is c = is_class c.remainder c.modulus ≡ true

-- the two divide it
pub gcd_left : (a b : ℕ) → gcd a b ∣ a
gcd_left a b = (is_gcd a b).0

pub gcd_right : (a b : ℕ) → gcd a b ∣ b
gcd_right a b = (is_gcd a b).1

pub gcd_greatest : (a b d : ℕ) → d ∣ a → d ∣ b → d ∣ gcd a b
gcd_greatest a b d h k = (is_gcd a b).2 d h k

-- the one number of a class of the modulus 0
pub one_member : (c : Class) (z : ℤ) → c.modulus ≡ 0 → In c z → z ≡ c.remainder
one_member c z e h = let k = subst (λ m. IsMultiple m (z -ℤ c.remainder)) e h in last z c.remainder (k.0 *ℤ pos 0) k.1 (*ℤ_comm k.0 (pos 0) ∙ zero-*ℤ k.0)
  where
    last : (z r x : ℤ) → z -ℤ r ≡ x → x ≡ pos 0 → z ≡ r
    last z r x e f = omega (arith, ints)

-- ---- the join

joined_left : (a b : Class) → joined_modulus a b ∣ a.modulus
joined_left a b = dvd_trans (joined_modulus a b) (gcd_left (gcd a.modulus b.modulus) (unsigned_abs (distance a b))) (gcd_left a.modulus b.modulus)

joined_right : (a b : Class) → joined_modulus a b ∣ b.modulus
joined_right a b = dvd_trans (joined_modulus a b) (gcd_left (gcd a.modulus b.modulus) (unsigned_abs (distance a b))) (gcd_right a.modulus b.modulus)

joined_apart : (a b : Class) → IsMultiple (joined_modulus a b) (distance a b)
joined_apart a b = multiple_by_size _ _ (gcd_right (gcd a.modulus b.modulus) (unsigned_abs (distance a b)))

pub join_left : (a b : Class) (z : ℤ) → In a z → In (join_of a b) z
join_left a b z h = in_reduced a.remainder z (joined_modulus a b) (multiple_of _ _ _ (joined_left a b) h)

pub join_right : (a b : Class) (z : ℤ) → In b z → In (join_of a b) z
join_right a b z h =
    in_reduced a.remainder z (joined_modulus a b)
    (chain (joined_modulus a b) z b.remainder a.remainder (multiple_of _ _ _ (joined_right a b) h) (turn (joined_modulus a b) a.remainder b.remainder (joined_apart a b)))

divisor_small : (d m n : ℕ) → d ∣ m → m ≤ n → 0 < m → d ≤ n
divisor_small d m n h k p = let l = le_of_dvd p h in omega arith

-- two numbers of the types are less than 2^65 apart
apart_small : (x y : ℤ) → IsOfSomeType x → IsOfSomeType y → unsigned_abs (x -ℤ y) ≤ greatest_modulus
apart_small x y h k = at (x -ℤ y) (low h.low k.high) (high h.high k.low)
  where
    low : least_of I64 ≤ℤ x → y ≤ℤ greatest_of U64 → neg_ℤ (pos greatest_modulus) ≤ℤ (x -ℤ y)
    low p q = omega (arith, ints)

    high : x ≤ℤ greatest_of U64 → least_of I64 ≤ℤ y → (x -ℤ y) ≤ℤ pos greatest_modulus
    high p q = omega (arith, ints)

    at : (z : ℤ) → neg_ℤ (pos greatest_modulus) ≤ℤ z → z ≤ℤ pos greatest_modulus → unsigned_abs z ≤ greatest_modulus
    at (pos n) p q = omega (arith, ints)
    at (negsuc n) p q = omega (arith, ints)

pub gcd_small : (a b n : ℕ) → a ≤ n → b ≤ n → gcd a b ≤ n
unfolding gcd_steps
gcd_small a b n h k = at (nat_eq a 0) refl
  where
    second : (t : Bool) → nat_eq b 0 ≡ t → a ≡ 0 → gcd a b ≤ n
    second true e d = let f : gcd a b ∣ b = gcd_right a b in subst (λ (m : ℕ). m ≤ n) (sym (both_zero d (eq_zero b e))) (omega arith)
      where
        both_zero : a ≡ 0 → b ≡ 0 → gcd a b ≡ 0
        both_zero p q = ap (λ (m : ℕ). gcd m b) p ∙ ap (gcd 0) q
    second false e d = divisor_small _ _ n (gcd_right a b) k (nonzero_from b e)

    at : (t : Bool) → nat_eq a 0 ≡ t → gcd a b ≤ n
    at true e = second (nat_eq b 0) refl (eq_zero a e)
    at false e = divisor_small _ _ n (gcd_left a b) h (nonzero_from a e)

joined_small : (a b : Class) → Is a → Is b → joined_modulus a b ≤ greatest_modulus
joined_small a b h k = at (nat_eq a.modulus 0) (nat_eq b.modulus 0) refl refl
  where
    at : (t u : Bool) → nat_eq a.modulus 0 ≡ t → nat_eq b.modulus 0 ≡ u → joined_modulus a b ≤ greatest_modulus
    at false u e f = divisor_small _ _ _ (joined_left a b) (class_small a.remainder a.modulus h) (nonzero_from _ e)
    at true false e f = divisor_small _ _ _ (joined_right a b) (class_small b.remainder b.modulus k) (nonzero_from _ f)
    at true true e f =
        let p = class_one a.remainder (subst (λ m. is_class a.remainder m ≡ true) (eq_zero _ e) h) in
        let q = class_one b.remainder (subst (λ m. is_class b.remainder m ≡ true) (eq_zero _ f) k) in
        gcd_small (gcd a.modulus b.modulus) (unsigned_abs (distance a b)) greatest_modulus
        (gcd_small a.modulus b.modulus greatest_modulus (class_small a.remainder a.modulus h) (class_small b.remainder b.modulus k)) (apart_small a.remainder b.remainder p q)

pub join_class : (a b : Class) → Is a → Is b → Is (join_of a b)
join_class a b h k =
    let m = class_has a.remainder a.modulus h in
    class_with a.remainder m.0 (joined_modulus a b) (joined_small a b h k) m.1 (multiple_of _ _ _ (joined_left a b) m.2)

-- ---- inclusion

pub within_holds : (a b : Class) (z : ℤ) → is_within a b ≡ true → In a z → In b z
within_holds a b z h k =
    let p = and_parts (is_multiple b.modulus (pos a.modulus)) (is_multiple b.modulus (distance a b)) h in
    chain b.modulus z a.remainder b.remainder (multiple_of b.modulus a.modulus _ (size_of_multiple b.modulus (pos a.modulus) (test_multiple _ _ p.0)) k) (test_multiple _ _ p.1)

-- ---- rank

rank_more : (c : Class) → 0 < c.modulus → rank_of c ≡ 127 - leading_zeros w128 c.modulus
rank_more c h = ap (λ t. cond t 65 (127 - leading_zeros w128 c.modulus)) (nonzero_test c.modulus h)

rank_zero : (c : Class) → c.modulus ≡ 0 → rank_of c ≡ 65
rank_zero c h = ap (λ t. cond t 65 (127 - leading_zeros w128 c.modulus)) (zero_eq c.modulus h)

-- the whole part of the logarithm
log_of : (m : ℕ) → 0 < m → m < 2 ^ 128 → (j : ℕ) × (127 - leading_zeros w128 m ≡ j) × (2 ^ j ≤ m) × (m < 2 ^ suc j)
log_of m h k = let t = leading_top 128 m h k in (t.0, of_sum _ _ t.1, t.2, t.3)
  where
    of_sum : (l j : ℕ) → l + suc j ≡ 128 → 127 - l ≡ j
    of_sum l j e = omega arith

log_below : (i j k m n : ℕ) → 2 ^ i ≤ m → m * 2 ≤ n → n < 2 ^ suc j → i < j
log_below i j k m n p q r = at (nat_lt i j) refl
  where
    from_lt : nat_lt i j ≡ true → i < j
    from_lt e = grind (arith, nat_tests)

    from_not : nat_lt i j ≡ false → j ≤ i
    from_not e = grind (arith, nat_tests)

    shifted : (i j : ℕ) → j ≤ i → suc j ≤ suc i
    shifted i j h = omega arith

    at : (t : Bool) → nat_lt i j ≡ t → i < j
    at true e = from_lt e
    at false e = let l : 2 ^ suc j ≤ 2 ^ suc i = pow_mono (shifted i j (from_not e)) in absurd (omega arith)

log_small : (j m : ℕ) → 2 ^ j ≤ m → m ≤ greatest_modulus → j ≤ 64
log_small j m p q = at (nat_le j 64) refl
  where
    at : (t : Bool) → nat_le j 64 ≡ t → j ≤ 64
    at true e = leb-true j 64 e
    at false e = let l : 2 ^ 65 ≤ 2 ^ j = pow_mono (above j e) in absurd (omega arith)
      where
        above : (j : ℕ) → nat_le j 64 ≡ false → 65 ≤ j
        above j e = grind (arith, nat_tests)

pub rank_bound : (c : Class) → Is c → rank_of c ≤ 65
rank_bound c h = at (nat_eq c.modulus 0) refl
  where
    at : (t : Bool) → nat_eq c.modulus 0 ≡ t → rank_of c ≤ 65
    at true e = let f = rank_zero c (eq_zero c.modulus e) in omega arith
    at false e =
        let p = nonzero_from c.modulus e in let s = class_small c.remainder c.modulus h in let f = rank_more c p in
        let t = log_of c.modulus p (omega arith) in let l = log_small t.0 c.modulus t.2 s in let g = t.1 in omega arith

-- a class inside another with another modulus has a lower rank
pub rank_falls : (c d : Class) → Is c → Is d → d.modulus ∣ c.modulus → (d.modulus ≡ c.modulus → ⊥) → rank_of d < rank_of c
rank_falls c d h k v n = at (nat_eq d.modulus 0) (nat_eq c.modulus 0) refl refl
  where
    only : (n : ℕ) → 0 ∣ n → n ≡ 0
    only n h = eq-zero_of_zero-dvd h

    half : (d c q : ℕ) → c ≡ q * d → (d ≡ c → ⊥) → 0 < c → d * 2 ≤ c
    half d c zero e n p = absurd (omega arith)
    half d c (suc zero) e n p = absurd (n (omega arith))
    half d c (suc (suc q)) e n p = omega arith

    quotient : (d c : ℕ) → d ∣ c → c ≡ c / d * d
    quotient d c h = let f = mod-eq-zero_of_dvd d h in let g = div-add-mod' c d in omega arith

    at : (t u : Bool) → nat_eq d.modulus 0 ≡ t → nat_eq c.modulus 0 ≡ u → rank_of d < rank_of c
    at true u e f =
        let z = eq_zero d.modulus e in
        absurd (n (z ∙ sym (only c.modulus (subst (λ (m : ℕ). m ∣ c.modulus) z v))))
    at false true e f =
        let p = nonzero_from d.modulus e in let s = class_small d.remainder d.modulus k in
        let t = log_of d.modulus p (omega arith) in let l = log_small t.0 d.modulus t.2 s in let g = t.1 in
        let i = rank_more d p in let j = rank_zero c (eq_zero c.modulus f) in omega arith
    at false false e f =
        let p = nonzero_from d.modulus e in let q = nonzero_from c.modulus f in
        let s = class_small d.remainder d.modulus k in let r = class_small c.remainder c.modulus h in
        let t = log_of d.modulus p (omega arith) in let u = log_of c.modulus q (omega arith) in
        let l = log_below t.0 u.0 0 d.modulus c.modulus t.2 (half d.modulus c.modulus (c.modulus / d.modulus) (quotient _ _ v) n q) u.3 in
        let i = rank_more d p in let j = rank_more c q in let a = t.1 in let b = u.1 in omega arith

-- a join of the same modulus is the first class
pub join_same : (a b : Class) → Is a → joined_modulus a b ≡ a.modulus → join_of a b ≡ a
join_same a b h e = ap (reduced a.remainder) e ∙ at (nat_eq a.modulus 0) refl
  where
    at : (t : Bool) → nat_eq a.modulus 0 ≡ t → cond t (one a.remainder) (class (pos (residue a.modulus a.remainder)) a.modulus) ≡ a
    at true f = ap (class a.remainder) (sym (eq_zero _ f))
    at false f =
        let r = class_remainder a.remainder a.modulus h (nonzero_from _ f) in
        ap (λ z. class z a.modulus) (back a.remainder a.modulus r.0 r.1)
      where
        back : (r : ℤ) (m : ℕ) → pos 0 ≤ℤ r → r <ℤ pos m → pos (residue m r) ≡ r
        back (pos n) m p q = ap pos (mod_small n m (omega (arith, ints)))
          where
            mod_small : (n m : ℕ) → n < m → n % m ≡ n
            mod_small n m h = mod-eq_of_lt h
        back (negsuc n) m p q = absurd (omega (arith, ints))

pub widen_changes : (a b : Class) → Is a → Is b → (join_of a b ≡ a → ⊥) → rank_of (join_of a b) < rank_of a
widen_changes a b h k n =
    let e = reduced_modulus a.remainder (joined_modulus a b) in
    rank_falls a (join_of a b) h (join_class a b h k) (subst (λ (m : ℕ). m ∣ a.modulus) (sym e) (joined_left a b))
    (λ d. n (join_same a b h (sym e ∙ d)))

pub widen_falls : (a b : Class) → Is a → Is b → is_within b a ≡ false → rank_of (join_of a b) < rank_of a
widen_falls a b h k f = widen_changes a b h k (λ e. not_both _ (and_from _ _ (inside e) (apart e)) f)
  where
    not_both : (t : Bool) → t ≡ true → t ≡ false → ⊥
    not_both t p q = cc

    modulus : join_of a b ≡ a → joined_modulus a b ≡ a.modulus
    modulus e = sym (reduced_modulus a.remainder (joined_modulus a b)) ∙ ap (λ (c : Class). c.modulus) e

    inside : join_of a b ≡ a → is_multiple a.modulus (pos b.modulus) ≡ true
    inside e = multiple_test _ _ (subst (λ m. IsMultiple m (pos b.modulus)) (modulus e) (of_dvd _ _ (joined_right a b)))

    apart : join_of a b ≡ a → is_multiple a.modulus (distance b a) ≡ true
    apart e = multiple_test _ _ (subst (λ m. IsMultiple m (distance b a)) (modulus e) (turn (joined_modulus a b) a.remainder b.remainder (joined_apart a b)))

-- ---- the members of a part

number_range : (z : ℤ) → IsOfSomeType z → LiesIn (pair (least_of I64) (greatest_of U64)) z
number_range z h = record { low = h.low; high = h.high }

pub range_encloses : (c : Class) (z : ℤ) → IsOfSomeType z → In c z → LiesIn (range_of c) z
range_encloses c z i h = at (nat_eq c.modulus 0) refl
  where
    at : (t : Bool) → nat_eq c.modulus 0 ≡ t → LiesIn (cond t (pair c.remainder c.remainder) (pair (least_of I64) (greatest_of U64))) z
    at true e = let s = one_member c z (eq_zero c.modulus e) h in record { low = subst (λ x. c.remainder ≤ℤ x) (sym s) (le_self c.remainder); high = subst (λ x. x ≤ℤ c.remainder) (sym s) (le_self c.remainder) }
    at false e = record { low = i.low; high = i.high }

pub range_one : (c : Class) → c.modulus ≡ 0 → range_of c ≡ pair c.remainder c.remainder
range_one c e = ap (λ t. cond t (pair c.remainder c.remainder) (pair (least_of I64) (greatest_of U64))) (zero_eq c.modulus e)

pub range_more : (c : Class) → 0 < c.modulus → range_of c ≡ pair (least_of I64) (greatest_of U64)
range_more c e = ap (λ t. cond t (pair c.remainder c.remainder) (pair (least_of I64) (greatest_of U64))) (nonzero_test c.modulus e)

-- a single range is that of one number
pub single_is : (c : Class) (v : ℤ) → range_of c ≡ pair v v → (c.modulus ≡ 0) × (c.remainder ≡ v)
single_is c v e = at (nat_eq c.modulus 0) refl
  where
    apart : (l h : ℤ) → l ≡ v → h ≡ v → l <ℤ h → ⊥
    apart l h p q r = omega (arith, ints)

    at : (t : Bool) → nat_eq c.modulus 0 ≡ t → (c.modulus ≡ 0) × (c.remainder ≡ v)
    at true f = let z = eq_zero c.modulus f in (z, ap (λ (r : ℤ × ℤ). r.0) (sym (range_one c z) ∙ e))
    at false f =
        let r : pair (least_of I64) (greatest_of U64) ≡ pair v v = sym (range_more c (nonzero_from c.modulus f)) ∙ e in
        absurd (apart (least_of I64) (greatest_of U64) (ap (λ (r : ℤ × ℤ). r.0) r) (ap (λ (r : ℤ × ℤ). r.1) r) (omega (arith, ints)))

first_member : (c : Class) (l : ℤ) → 0 < c.modulus → In c (first_from c l)
first_member c l h = turn c.modulus c.remainder (first_from c l) (subst (IsMultiple c.modulus) (moved c.remainder l (pos (residue c.modulus (c.remainder -ℤ l)))) (residue_multiple c.modulus (c.remainder -ℤ l) h))
  where
    moved : (r l x : ℤ) → (r -ℤ l) -ℤ x ≡ r -ℤ (l +ℤ x)
    moved r l x = omega (arith, ints)

last_member : (c : Class) (h : ℤ) → 0 < c.modulus → In c (last_to c h)
last_member c h p = subst (IsMultiple c.modulus) (moved h c.remainder (pos (residue c.modulus (h -ℤ c.remainder)))) (residue_multiple c.modulus (h -ℤ c.remainder) p)
  where
    moved : (h r x : ℤ) → (h -ℤ r) -ℤ x ≡ (h -ℤ x) -ℤ r
    moved h r x = omega (arith, ints)

-- members are a modulus apart at least
apart_by : (m : ℕ) (x y : ℤ) → IsMultiple m (x -ℤ y) → x <ℤ y → (x +ℤ pos m) ≤ℤ y
apart_by m x y h l = at (int_le (x +ℤ pos m) y) refl
  where
    at : (t : Bool) → int_le (x +ℤ pos m) y ≡ t → (x +ℤ pos m) ≤ℤ y
    at true e = le_fact _ _ e
    at false e = let f = from_le_false (x +ℤ pos m) y e in let n = small_multiple m (x -ℤ y) (omega (arith, ints)) (omega (arith, ints)) h in absurd (omega (arith, ints))

between_members : (c : Class) (x y : ℤ) → In c x → In c y → IsMultiple c.modulus (x -ℤ y)
between_members c x y h k = chain c.modulus x c.remainder y h (turn c.modulus y c.remainder k)

first_least : (c : Class) (l z : ℤ) → 0 < c.modulus → In c z → l ≤ℤ z → first_from c l ≤ℤ z
first_least c l z p h k = at (int_le (first_from c l) z) refl
  where
    near : (l x y : ℤ) (m s : ℕ) → s < m → x ≡ l +ℤ pos s → l ≤ℤ y → (y +ℤ pos m) ≤ℤ x → ⊥
    near l x y m s b e k f = omega (arith, ints)

    at : (t : Bool) → int_le (first_from c l) z ≡ t → first_from c l ≤ℤ z
    at true e = le_fact (first_from c l) z e
    at false e = absurd (near l (first_from c l) z c.modulus (residue c.modulus (c.remainder -ℤ l)) (residue_below c.modulus (c.remainder -ℤ l) p) refl k
        (apart_by c.modulus z (first_from c l) (between_members c z (first_from c l) h (first_member c l p)) (from_le_false (first_from c l) z e)))

last_greatest : (c : Class) (h z : ℤ) → 0 < c.modulus → In c z → z ≤ℤ h → z ≤ℤ last_to c h
last_greatest c h z p i k = at (int_le z (last_to c h)) refl
  where
    near : (h x y : ℤ) (m s : ℕ) → s < m → x ≡ h -ℤ pos s → y ≤ℤ h → (x +ℤ pos m) ≤ℤ y → ⊥
    near h x y m s b e k f = omega (arith, ints)

    at : (t : Bool) → int_le z (last_to c h) ≡ t → z ≤ℤ last_to c h
    at true e = le_fact z (last_to c h) e
    at false e = absurd (near h (last_to c h) z c.modulus (residue c.modulus (h -ℤ c.remainder)) (residue_below c.modulus (h -ℤ c.remainder) p) refl k
        (apart_by c.modulus (last_to c h) z (between_members c (last_to c h) z (last_member c h p) i) (from_le_false z (last_to c h) e)))

-- Where there are edges, both are members of the part; and a member of the part lies between them.
pub record AreEdges (c : Class) (l h : ℤ) (e : ℤ × ℤ) : Type 0 where
  pub ordered : e.0 ≤ℤ e.1
  pub inside : Encloses (pair l h) e
  pub first : In c e.0
  pub last : In c e.1

pub edges_are : (c : Class) (l h : ℤ) → IfSome (edges_from c l h) (AreEdges c l h)
edges_are c l h = at (nat_eq c.modulus 0) refl
  where
    nothing : (r : ℤ) → r -ℤ r ≡ pos 0
    nothing r = omega (arith, ints)

    below : (x y : ℤ) (s : ℕ) → x ≡ y +ℤ pos s → y ≤ℤ x
    below x y s e = omega (arith, ints)

    above : (x y : ℤ) (s : ℕ) → x ≡ y -ℤ pos s → x ≤ℤ y
    above x y s e = omega (arith, ints)

    at_one : (t : Bool) → (int_le l c.remainder && int_le c.remainder h) ≡ t → IfSome (cond t (Some (pair c.remainder c.remainder)) None) (AreEdges c l h)
    at_one false e = tt
    at_one true e =
        let p = from_between l c.remainder c.remainder h e in
        let m = subst (IsMultiple c.modulus) (sym (nothing c.remainder)) (none_of c.modulus) in
        record { ordered = le_self c.remainder; inside = record { low = p.0; high = p.1 }; first = m; last = m }

    at_more : 0 < c.modulus → (t : Bool) → int_le (first_from c l) h ≡ t → IfSome (cond t (Some (pair (first_from c l) (last_to c h))) None) (AreEdges c l h)
    at_more p false e = tt
    at_more p true e =
        let f = le_fact (first_from c l) h e in
        let o = last_greatest c h (first_from c l) p (first_member c l p) f in
        let x = below (first_from c l) l (residue c.modulus (c.remainder -ℤ l)) refl in
        let y = above (last_to c h) h (residue c.modulus (h -ℤ c.remainder)) refl in
        record { ordered = o; inside = record { low = x; high = y }; first = first_member c l p; last = last_member c h p }

    at : (t : Bool) → nat_eq c.modulus 0 ≡ t →
        IfSome (cond t (cond (int_le l c.remainder && int_le c.remainder h) (Some (pair c.remainder c.remainder)) None) (cond (int_le (first_from c l) h) (Some (pair (first_from c l) (last_to c h))) None)) (AreEdges c l h)
    at true e = at_one (int_le l c.remainder && int_le c.remainder h) refl
    at false e = at_more (nonzero_from c.modulus e) (int_le (first_from c l) h) refl

pub edges_enclose : (c : Class) (l h z : ℤ) → In c z → l ≤ℤ z → z ≤ℤ h → IsSomeAnd (edges_from c l h) (λ e. LiesIn e z)
edges_enclose c l h z i p q = at (nat_eq c.modulus 0) refl
  where
    at_one : c.modulus ≡ 0 → (t : Bool) → (int_le l c.remainder && int_le c.remainder h) ≡ t → IsSomeAnd (cond t (Some (pair c.remainder c.remainder)) None) (λ e. LiesIn e z)
    at_one z0 t e = by t e (one_member c z z0 i)
      where
        by : (t : Bool) → (int_le l c.remainder && int_le c.remainder h) ≡ t → z ≡ c.remainder → IsSomeAnd (cond t (Some (pair c.remainder c.remainder)) None) (λ e. LiesIn e z)
        by true e s = record { low = subst (λ x. c.remainder ≤ℤ x) (sym s) (le_self c.remainder); high = subst (λ x. x ≤ℤ c.remainder) (sym s) (le_self c.remainder) }
        by false e s = absurd (not_both _ (between_true l c.remainder c.remainder h (subst (λ x. l ≤ℤ x) s p) (subst (λ x. x ≤ℤ h) s q)) e)
          where
            not_both : (t : Bool) → t ≡ true → t ≡ false → ⊥
            not_both t p q = cc

    at_more : 0 < c.modulus → (t : Bool) → int_le (first_from c l) h ≡ t → IsSomeAnd (cond t (Some (pair (first_from c l) (last_to c h))) None) (λ e. LiesIn e z)
    at_more m true e = record { low = first_least c l z m i p; high = last_greatest c h z m i q }
    at_more m false e = let f = from_le_false (first_from c l) h e in let g = first_least c l z m i p in absurd (far (first_from c l) z h g q f)
      where
        far : (x z h : ℤ) → x ≤ℤ z → z ≤ℤ h → h <ℤ x → ⊥
        far x z h a b c = omega (arith, ints)

    at : (t : Bool) → nat_eq c.modulus 0 ≡ t →
        IsSomeAnd (cond t (cond (int_le l c.remainder && int_le c.remainder h) (Some (pair c.remainder c.remainder)) None) (cond (int_le (first_from c l) h) (Some (pair (first_from c l) (last_to c h))) None)) (λ e. LiesIn e z)
    at true e = at_one (eq_zero c.modulus e) (int_le l c.remainder && int_le c.remainder h) refl
    at false e = at_more (nonzero_from c.modulus e) (int_le (first_from c l) h) refl

-- how great a remainder may be
pub remainder_bounds : (r : ℤ) (m : ℕ) → is_class r m ≡ true → (least_of I64 ≤ℤ r) × (r ≤ℤ pos greatest_modulus)
remainder_bounds r m h = at (nat_eq m 0) refl
  where
    at : (t : Bool) → nat_eq m 0 ≡ t → (least_of I64 ≤ℤ r) × (r ≤ℤ pos greatest_modulus)
    at true e = let i = class_one r (subst (λ n. is_class r n ≡ true) (eq_zero m e) h) in let p = i.low in let q = i.high in (omega (arith, ints), omega (arith, ints))
    at false e = let i = class_remainder r m h (nonzero_from m e) in let p = i.0 in let q = i.1 in let s = class_small r m h in (omega (arith, ints), omega (arith, ints))

-- the edges of a class of another modulus than 0, and where the ends are out of order
pub edges_more : (c : Class) (l h : ℤ) → nat_eq c.modulus 0 ≡ false → edges_from c l h ≡ cond (int_le (first_from c l) h) (Some (pair (first_from c l) (last_to c h))) None
edges_more c l h e = ap (λ t. cond t (cond (int_le l c.remainder && int_le c.remainder h) (Some (pair c.remainder c.remainder)) None) (cond (int_le (first_from c l) h) (Some (pair (first_from c l) (last_to c h))) None)) e

pub edges_none : (c : Class) (l h : ℤ) → nat_eq c.modulus 0 ≡ false → h <ℤ l → edges_from c l h ≡ None
edges_none c l h e k = edges_more c l h e ∙ ap (λ t. cond t (Some (pair (first_from c l) (last_to c h))) None) (le_false (first_from c l) h (after l h (residue c.modulus (c.remainder -ℤ l)) k))
  where
    after : (l h : ℤ) (s : ℕ) → h <ℤ l → h <ℤ (l +ℤ pos s)
    after l h s k = omega (arith, ints)
