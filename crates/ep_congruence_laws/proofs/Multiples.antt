-- Laws of multiples.
use Prim.Native.Nat.{◌∣◌}
use Rattle.std.proofs.Common.{◌≡◌, ℕ, zero, suc, ◌*◌, ◌/◌, ◌%◌, ◌<◌, ℤ, pos, negsuc, ◌+ℤ◌, ◌-ℤ◌, ◌*ℤ◌, neg_ℤ, Bool}
use Rattle.std.proofs.Common.{true, false, cond, nat_eq, arith, refl, sym, ap, ◌∙◌, subst}
use Rattle.std.proofs.Math.IntN.{suc_ℤ, pred_ℤ, suc_ℤ-*ℤ, pred_ℤ-*ℤ, *ℤ_comm, zero-*ℤ, pos-*ℤ-pos, +ℤ_one, -ℤ_one}
use Rattle.std.specs.Prelude.{unsigned_abs}
use Rattle.std.specs.Int.{IsGcd}
use Rattle.std.proofs.lemmas.Int.{ints, unsigned_abs-mul}
use Rattle.std.proofs.lemmas.Nat.{div-add-mod', mod_below}
use Rattle.std.proofs.lemmas.Nat.Gcd.{IsGcd-from_zero, IsGcd-from_mod, same_from_IsGcd, dvd_of_mod-eq-zero}
use Rattle.std.proofs.lemmas.Nat.Gcd.{mod-eq-zero_of_dvd}
use Rattle.std.proofs.lemmas.Bool.Decides.{nat_tests}
use Rattle.std.proofs.Math.Nat.{dvd-mul_left}
use Rattle.ep_congruence_laws.specs.Multiples.{IsMultiple, is_multiple, gcd_steps, gcd}

-- ---- products of whole numbers

-- a sum times a number
times_pos : (x : ℤ) (n : ℕ) (w : ℤ) → (x +ℤ pos n) *ℤ w ≡ (x *ℤ w) +ℤ (pos n *ℤ w)
times_pos x zero w = let e : x +ℤ pos 0 ≡ x = omega (arith, ints) in rw (e, zero-*ℤ w) (omega (arith, ints))
times_pos x (suc n) w =
    let e : x +ℤ pos (suc n) ≡ suc_ℤ (x +ℤ pos n) = sum_suc x n in
    rw e (suc_ℤ-*ℤ (x +ℤ pos n) w ∙ joined _ _ _ _ _ (times_pos x n w) (suc_ℤ-*ℤ (pos n) w))
  where
    sum_suc : (x : ℤ) (n : ℕ) → x +ℤ pos (suc n) ≡ suc_ℤ (x +ℤ pos n)
    sum_suc x n = let h = +ℤ_one (x +ℤ pos n) in omega (arith, ints)

    joined : (a b c d w : ℤ) → a ≡ b +ℤ c → d ≡ c +ℤ w → a +ℤ w ≡ b +ℤ d
    joined a b c d w e f = omega (arith, ints)

times_negsuc : (x : ℤ) (n : ℕ) (w : ℤ) → (x +ℤ negsuc n) *ℤ w ≡ (x *ℤ w) +ℤ (negsuc n *ℤ w)
times_negsuc x zero w =
    let e : x +ℤ negsuc 0 ≡ pred_ℤ x = sum_pred x in
    let f = pred_ℤ-*ℤ (pos 0) w in
    rw e (pred_ℤ-*ℤ x w ∙ joined _ _ _ _ (zero-*ℤ w) f)
  where
    sum_pred : (x : ℤ) → x +ℤ negsuc 0 ≡ pred_ℤ x
    sum_pred x = let h = -ℤ_one x in omega (arith, ints)

    joined : (a c d w : ℤ) → c ≡ pos 0 → d ≡ c -ℤ w → a -ℤ w ≡ a +ℤ d
    joined a c d w e f = omega (arith, ints)
times_negsuc x (suc n) w =
    let e : x +ℤ negsuc (suc n) ≡ pred_ℤ (x +ℤ negsuc n) = sum_pred x n in
    rw e (pred_ℤ-*ℤ (x +ℤ negsuc n) w ∙ joined _ _ _ _ _ (times_negsuc x n w) (pred_ℤ-*ℤ (negsuc n) w))
  where
    sum_pred : (x : ℤ) (n : ℕ) → x +ℤ negsuc (suc n) ≡ pred_ℤ (x +ℤ negsuc n)
    sum_pred x n = let h = -ℤ_one (x +ℤ negsuc n) in omega (arith, ints)

    joined : (a b c d w : ℤ) → a ≡ b +ℤ c → d ≡ c -ℤ w → a -ℤ w ≡ b +ℤ d
    joined a b c d w e f = omega (arith, ints)

pub times_sum : (x y w : ℤ) → (x +ℤ y) *ℤ w ≡ (x *ℤ w) +ℤ (y *ℤ w)
times_sum x (pos n) w = times_pos x n w
times_sum x (negsuc n) w = times_negsuc x n w

pub times_difference : (x y w : ℤ) → (x -ℤ y) *ℤ w ≡ (x *ℤ w) -ℤ (y *ℤ w)
times_difference x y w = let e = times_sum (x -ℤ y) y w in let f : (x -ℤ y) +ℤ y ≡ x = omega (arith, ints) in last _ _ _ (sym (ap (λ z. z *ℤ w) f) ∙ e)
  where
    last : (a b c : ℤ) → a ≡ b +ℤ c → b ≡ a -ℤ c
    last a b c e = omega (arith, ints)

assoc_pos : (n : ℕ) (b c : ℤ) → (pos n *ℤ b) *ℤ c ≡ pos n *ℤ (b *ℤ c)
assoc_pos zero b c = rw (zero-*ℤ b, zero-*ℤ c, zero-*ℤ (b *ℤ c)) refl
assoc_pos (suc n) b c = rw (suc_ℤ-*ℤ (pos n) b, suc_ℤ-*ℤ (pos n) (b *ℤ c)) (times_sum (pos n *ℤ b) b c ∙ ap (λ z. z +ℤ (b *ℤ c)) (assoc_pos n b c))

negated : (x w : ℤ) → neg_ℤ x *ℤ w ≡ neg_ℤ (x *ℤ w)
negated x w = let e : neg_ℤ x ≡ pos 0 -ℤ x = omega (arith, ints) in rw e (times_difference (pos 0) x w ∙ last (pos 0 *ℤ w) (x *ℤ w) (zero-*ℤ w))
  where
    last : (a b : ℤ) → a ≡ pos 0 → a -ℤ b ≡ neg_ℤ b
    last a b e = omega (arith, ints)

pub times_assoc : (a b c : ℤ) → (a *ℤ b) *ℤ c ≡ a *ℤ (b *ℤ c)
times_assoc (pos n) b c = assoc_pos n b c
times_assoc (negsuc n) b c = ap (λ z. z *ℤ c) (negated (pos (suc n)) b) ∙ negated (pos (suc n) *ℤ b) c ∙ ap neg_ℤ (assoc_pos (suc n) b c) ∙ sym (negated (pos (suc n)) (b *ℤ c))

-- ---- multiples

pub multiple_sum : (m : ℕ) (x y : ℤ) → IsMultiple m x → IsMultiple m y → IsMultiple m (x +ℤ y)
multiple_sum m x y h k = (h.0 +ℤ k.0, ap (λ z. z +ℤ y) h.1 ∙ ap (λ z. (h.0 *ℤ pos m) +ℤ z) k.1 ∙ sym (times_sum h.0 k.0 (pos m)))

pub multiple_difference : (m : ℕ) (x y : ℤ) → IsMultiple m x → IsMultiple m y → IsMultiple m (x -ℤ y)
multiple_difference m x y h k = (h.0 -ℤ k.0, ap (λ z. z -ℤ y) h.1 ∙ ap (λ z. (h.0 *ℤ pos m) -ℤ z) k.1 ∙ sym (times_difference h.0 k.0 (pos m)))

pub multiple_product : (m : ℕ) (x y : ℤ) → IsMultiple m x → IsMultiple m (x *ℤ y)
multiple_product m x y h = (h.0 *ℤ y, ap (λ z. z *ℤ y) h.1 ∙ times_assoc h.0 (pos m) y ∙ ap (λ z. h.0 *ℤ z) (*ℤ_comm (pos m) y) ∙ sym (times_assoc h.0 y (pos m)))

-- a multiple of a multiple
pub multiple_of : (d m : ℕ) (z : ℤ) → d ∣ m → IsMultiple m z → IsMultiple d z
multiple_of d m z h k =
    let e : m ≡ m / d * d = let f = mod-eq-zero_of_dvd d h in let g = div-add-mod' m d in omega arith in
    (k.0 *ℤ pos (m / d), k.1 ∙ ap (λ (n : ℕ). k.0 *ℤ pos n) e ∙ ap (λ z. k.0 *ℤ z) (sym (pos-*ℤ-pos (m / d) d)) ∙ sym (times_assoc k.0 (pos (m / d)) (pos d)))

pub itself : (m : ℕ) → IsMultiple m (pos m)
itself m = (pos 1, let e = suc_ℤ-*ℤ (pos 0) (pos m) in let f = zero-*ℤ (pos m) in last (pos 1 *ℤ pos m) (pos 0 *ℤ pos m) (pos m) e f)
  where
    last : (a b c : ℤ) → a ≡ b +ℤ c → b ≡ pos 0 → c ≡ a
    last a b c e f = omega (arith, ints)

pub none_of : (m : ℕ) → IsMultiple m (pos 0)
none_of m = (pos 0, sym (zero-*ℤ (pos m)))

pub of_dvd : (d n : ℕ) → d ∣ n → IsMultiple d (pos n)
of_dvd d n h = multiple_of d n (pos n) h (itself n)

pub multiple_by : (m n : ℕ) (y : ℤ) → m ∣ n → IsMultiple m (pos n *ℤ y)
multiple_by m n y h = multiple_product m (pos n) y (of_dvd m n h)

-- ---- the test

pub size_of_multiple : (m : ℕ) (z : ℤ) → IsMultiple m z → m ∣ unsigned_abs z
size_of_multiple m z h = subst (λ (n : ℕ). m ∣ n) (sym (ap unsigned_abs h.1 ∙ unsigned_abs-mul h.0 (pos m))) (dvd-mul_left m (unsigned_abs h.0))

pub multiple_by_size : (m : ℕ) (z : ℤ) → m ∣ unsigned_abs z → IsMultiple m z
multiple_by_size m (pos n) h = of_dvd m n h
multiple_by_size m (negsuc n) h = let k = of_dvd m (suc n) h in subst (IsMultiple m) (flip n) (multiple_difference m (pos 0) (pos (suc n)) (none_of m) k)
  where
    flip : (n : ℕ) → pos 0 -ℤ pos (suc n) ≡ negsuc n
    flip n = omega (arith, ints)

pub eq_zero : (n : ℕ) → nat_eq n 0 ≡ true → n ≡ 0
eq_zero n h = grind (arith, nat_tests)

pub zero_eq : (n : ℕ) → n ≡ 0 → nat_eq n 0 ≡ true
zero_eq n h = grind (arith, nat_tests)

pub test_multiple : (m : ℕ) (z : ℤ) → is_multiple m z ≡ true → IsMultiple m z
test_multiple m z h = multiple_by_size m z (dvd_of_mod-eq-zero m (eq_zero _ h))

pub multiple_test : (m : ℕ) (z : ℤ) → IsMultiple m z → is_multiple m z ≡ true
multiple_test m z h = zero_eq _ (mod-eq-zero_of_dvd m (size_of_multiple m z h))

-- ---- the greatest common divisor

steps_gcd : (n a b : ℕ) → b < n → IsGcd a b (gcd_steps n a b)
unfolding gcd_steps
steps_gcd zero a b h = absurd (omega arith)
steps_gcd (suc n) a b h = at (nat_eq b 0) refl (steps_gcd n b (a % b))
  where
    nonzero : (b : ℕ) → nat_eq b 0 ≡ false → 0 < b
    nonzero b e = grind (arith, nat_tests)

    at : (t : Bool) → nat_eq b 0 ≡ t → (a % b < n → IsGcd b (a % b) (gcd_steps n b (a % b))) → IsGcd a b (cond t a (gcd_steps n b (a % b)))
    at true e go = IsGcd-from_zero a b (eq_zero b e)
    at false e go = let k = mod_below a b (nonzero b e) in IsGcd-from_mod a b (gcd_steps n b (a % b)) (go (omega arith))

pub is_gcd : (a b : ℕ) → IsGcd a b (gcd a b)
is_gcd a b = steps_gcd (suc b) a b (omega arith)

-- one step of Euclid's algorithm, and its end
pub gcd_step : (a b : ℕ) → gcd b (a % b) ≡ gcd a b
gcd_step a b = same_from_IsGcd a b (gcd b (a % b)) (gcd a b) (IsGcd-from_mod a b (gcd b (a % b)) (is_gcd b (a % b))) (is_gcd a b)

pub gcd_end : (a b : ℕ) → b ≡ 0 → gcd a b ≡ a
gcd_end a b e = same_from_IsGcd a b (gcd a b) a (is_gcd a b) (IsGcd-from_zero a b e)
