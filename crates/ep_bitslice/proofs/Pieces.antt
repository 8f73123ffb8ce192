-- Parts of segments, and segments one over the other.
use Rattle.std.proofs.Common.{◌≡◌, ℕ, zero, suc, ◌+◌, ◌-◌, ◌*◌, ◌/◌, ◌%◌, ◌^◌, ◌<◌, ◌≤◌, Bool, true, false, not, ◌&&◌}
use Rattle.ep_int.proofs.Basics.{or-assoc, or-true}
use Rattle.std.proofs.Common.{◌||◌, nat_eq, cond, List, [], ◌∷◌, ◌++◌, length, take, drop, bit_and, bit_or, sym, refl}
use Rattle.std.proofs.Common.{ap, ◌∙◌, subst, arith, add-zero, ◌⊎◌, inl, inr, ⊎_elim}
use Rattle.std.specs.Int.{bit_at, w64, trailing_zeros, trailing_ones}
use Rattle.std.specs.Int.Count.{trailing_of_zero}
use Rattle.std.proofs.lemmas.Nat.{pow_pos, and_mask, and_block, or_block, and_le_l, shr-shr, mod_below, mod-mul-add}
use Rattle.std.proofs.lemmas.Nat.Bits.{bit_at_lowest, bit_at-suc, bit_at-zero, bit_at-trailing_zeros}
use Rattle.std.proofs.lemmas.Nat.Bits.{bit_at-trailing_ones, bit_at_ones, ones_shr}
use Rattle.std.proofs.Math.Nat.{pow-suc}
use Rattle.ep_bitslice.specs.declared.cell.CellName.{CellName}
use Rattle.ep_bitslice.specs.Bits.{Bit, fixed, cell_bit, zeros, is_odd, masked, is_zero, are_disjoint, either_of}
use Rattle.ep_bitslice.specs.Bits.{is_same_cell, renamed_cell, renamed_bit, renamed, is_bit_of, mentions}
use Rattle.ep_bitslice.specs.Segments.{fixed_bits, run_bits}

-- ---- the lowest bits, and those above them

pub take-fixed_bits : (k w v : ℕ) → k ≤ w → take k (fixed_bits w v) ≡ fixed_bits k v
take-fixed_bits zero w v h = refl
take-fixed_bits (suc k) zero v h = absurd (omega arith)
take-fixed_bits (suc k) (suc w) v h = ap (λ bs. fixed (is_odd v) ∷ bs) (take-fixed_bits k w (v / 2) (omega arith))

pub drop-fixed_bits : (k w v : ℕ) → k ≤ w → drop k (fixed_bits w v) ≡ fixed_bits (w - k) (v / 2 ^ k)
drop-fixed_bits zero w v h =
    let e : v / 2 ^ 0 ≡ v = omega arith in
    let f : w - 0 ≡ w = omega arith in
    rw (e, f) refl
drop-fixed_bits (suc k) zero v h = absurd (omega arith)
drop-fixed_bits (suc k) (suc w) v h =
    let e : suc w - suc k ≡ w - k = omega arith in
    let d : suc k ≡ 1 + k = omega arith in
    let f : v / 2 ^ suc k ≡ v / 2 / 2 ^ k = ap (λ n. v / 2 ^ n) d ∙ sym (shr-shr v 1 k) in
    rw (e, f) (drop-fixed_bits k w (v / 2) (omega arith))

pub take-run_bits : (c : CellName) (k f n : ℕ) → k ≤ n → take k (run_bits c f n) ≡ run_bits c f k
take-run_bits c zero f n h = refl
take-run_bits c (suc k) f zero h = absurd (omega arith)
take-run_bits c (suc k) f (suc n) h = ap (λ bs. cell_bit c f ∷ bs) (take-run_bits c k (f + 1) n (omega arith))

pub drop-run_bits : (c : CellName) (k f n : ℕ) → k ≤ n → drop k (run_bits c f n) ≡ run_bits c (f + k) (n - k)
drop-run_bits c zero f n h =
    let e : n - 0 ≡ n = omega arith in
    rw (e, add-zero) refl
drop-run_bits c (suc k) f zero h = absurd (omega arith)
drop-run_bits c (suc k) f (suc n) h =
    let e : suc n - suc k ≡ n - k = omega arith in
    let d : f + suc k ≡ f + 1 + k = omega arith in
    rw (e, d) (drop-run_bits c k (f + 1) n (omega arith))

-- Only the lowest bits count.
pub fixed_bits-mod : (k v : ℕ) → fixed_bits k (v % 2 ^ k) ≡ fixed_bits k v
fixed_bits-mod zero v = refl
fixed_bits-mod (suc k) v =
    let low : v % 2 ^ suc k % 2 ≡ v % 2 = odd (2 ^ k) v (2 ^ suc k) (pow_pos k) (pow-suc 2 k) in
    let high : v % 2 ^ suc k / 2 ≡ v / 2 % 2 ^ k = half (2 ^ k) v (2 ^ suc k) (pow_pos k) (pow-suc 2 k) in
    rw (low, high) (ap (λ bs. fixed (is_odd v) ∷ bs) (fixed_bits-mod k (v / 2)))
  where
    parts : (p v q : ℕ) → 0 < p → q ≡ p * 2 → v % q ≡ v % 2 + 2 * (v / 2 % p)
    parts p v q z e =
        let a : v ≡ v % 2 + 2 * (v / 2) = omega arith in
        let b : v / 2 ≡ v / 2 % p + v / 2 / p * p = omega arith in
        let c : v ≡ v / 2 / p * q + (v % 2 + 2 * (v / 2 % p)) = rw e (omega arith) in
        let l : v / 2 % p < p = mod_below (v / 2) p z in
        let s : v % 2 + 2 * (v / 2 % p) < q = omega arith in
        ap (λ n. n % q) c ∙ mod-mul-add (v / 2 / p) q (v % 2 + 2 * (v / 2 % p)) s

    odd : (p v q : ℕ) → 0 < p → q ≡ p * 2 → v % q % 2 ≡ v % 2
    odd p v q z e = omega (arith, parts p v q z e)

    half : (p v q : ℕ) → 0 < p → q ≡ p * 2 → v % q / 2 ≡ v / 2 % p
    half p v q z e = omega (arith, parts p v q z e)

-- the mask of the lowest bits
pub low_ones : (v k : ℕ) → k ≤ 64 → bit_and v (18446744073709551615 / 2 ^ (64 - k)) ≡ v % 2 ^ k
low_ones v k h =
    let e : 18446744073709551615 / 2 ^ (64 - k) ≡ 2 ^ (64 - (64 - k)) - 1 = ones_shr 64 (64 - k) (omega arith) in
    let f : 64 - (64 - k) ≡ k = omega arith in
    rw (e, f) (and_mask v k)

pub fixed_zeros : (k : ℕ) → fixed_bits k 0 ≡ zeros k
fixed_zeros zero = refl
fixed_zeros (suc k) = ap (λ bs. fixed false ∷ bs) (fixed_zeros k)

-- ---- masks

pub masked-ones : (m : ℕ) (bs : List Bit) → ((i : ℕ) → i < length bs → bit_at m i ≡ 1) → masked m bs ≡ bs
masked-ones m [] h = refl
masked-ones m (b ∷ bs) h =
    let low : m % 2 ≡ 1 = sym (bit_at_lowest m) ∙ h 0 (omega arith) in
    rw low (ap (λ xs. b ∷ xs) (masked-ones (m / 2) bs (λ i k. sym (bit_at-suc m i) ∙ h (suc i) (omega arith))))

pub masked-zeros : (m : ℕ) (bs : List Bit) → ((i : ℕ) → i < length bs → bit_at m i ≡ 0) → masked m bs ≡ zeros (length bs)
masked-zeros m [] h = refl
masked-zeros m (b ∷ bs) h =
    let low : m % 2 ≡ 0 = sym (bit_at_lowest m) ∙ h 0 (omega arith) in
    rw low (ap (λ xs. fixed false ∷ xs) (masked-zeros (m / 2) bs (λ i k. sym (bit_at-suc m i) ∙ h (suc i) (omega arith))))

pub masked-append : (m : ℕ) (xs ys : List Bit) → masked m (xs ++ ys) ≡ masked m xs ++ masked (m / 2 ^ length xs) ys
masked-append m [] ys = let e : m / 2 ^ 0 ≡ m = omega arith in rw e refl
masked-append m (x ∷ xs) ys =
    let d : suc (length xs) ≡ 1 + length xs = omega arith in
    let f : m / 2 ^ suc (length xs) ≡ m / 2 / 2 ^ length xs = ap (λ n. m / 2 ^ n) d ∙ sym (shr-shr m 1 (length xs)) in
    rw f (ap (λ bs. cond (is_odd m) x (fixed false) ∷ bs) (masked-append (m / 2) xs ys))

zero_or : (n : ℕ) → (n ≡ 0) ⊎ (0 < n)
zero_or zero = inl refl
zero_or (suc n) = inr (omega arith)

most_or : (n : ℕ) → n < 2 ^ 64 → (n ≡ 2 ^ 64 - 1) ⊎ (n + 1 < 2 ^ 64)
most_or n h = ⊎_elim (λ z. inl (omega arith)) (λ z. inr (omega arith)) (zero_or (2 ^ 64 - 1 - n))

pub zeros_below : (m i : ℕ) → m < 2 ^ 64 → i < trailing_zeros w64 m → bit_at m i ≡ 0
zeros_below m i h k =
    ⊎_elim (λ (e : m ≡ 0). subst (λ n. bit_at n i ≡ 0) (sym e) (bit_at-zero i))
    (λ (p : 0 < m). (bit_at-trailing_zeros w64 m p h).2 i k) (zero_or m)

pub ones_below : (m i : ℕ) → m < 2 ^ 64 → i < 64 → i < trailing_ones w64 m → bit_at m i ≡ 1
ones_below m i h b k =
    ⊎_elim (λ (e : m ≡ 2 ^ 64 - 1). subst (λ n. bit_at n i ≡ 1) (sym e) (bit_at_ones 64 i b))
    (λ (p : m + 1 < 2 ^ 64). (bit_at-trailing_ones w64 m p).2 i k) (most_or m h)

pub some_zeros : (m : ℕ) → m < 2 ^ 64 → (bit_and m 1 ≡ 1 → ⊥) → 0 < trailing_zeros w64 m
some_zeros m h no_one =
    ⊎_elim (λ (e : m ≡ 0). subst (λ n. 0 < trailing_zeros w64 n) (sym e) (rw (trailing_of_zero 64) (omega arith)))
    (λ (p : 0 < m). ⊎_elim (λ (z : trailing_zeros w64 m ≡ 0). absurd (no_one (and_mask m 1 ∙ sym (bit_at_lowest m) ∙ ap (bit_at m) (sym z) ∙ (bit_at-trailing_zeros w64 m p h).1)))
    (λ (z : 0 < trailing_zeros w64 m). z) (zero_or (trailing_zeros w64 m))) (zero_or m)

pub some_ones : (m : ℕ) → m < 2 ^ 64 → bit_and m 1 ≡ 1 → 0 < trailing_ones w64 m
some_ones m h one =
    ⊎_elim (λ (e : m ≡ 2 ^ 64 - 1). subst (λ n. 0 < trailing_ones w64 n) (sym e) (rw (trailing_of_zero 64) (omega arith)))
    (λ (p : m + 1 < 2 ^ 64). ⊎_elim (λ (z : trailing_ones w64 m ≡ 0). absurd (omega (arith, one, and_mask m 1 ∙ sym (bit_at_lowest m) ∙ ap (bit_at m) (sym z) ∙ (bit_at-trailing_ones w64 m p).1)))
    (λ (z : 0 < trailing_ones w64 m). z) (zero_or (trailing_ones w64 m))) (most_or m h)

-- ---- one over the other

-- the lowest bits of two numbers, and those above
and_parts : (a b : ℕ) → bit_and a b ≡ bit_and (a / 2) (b / 2) * 2 + bit_and (a % 2) (b % 2)
and_parts a b =
    let e : a ≡ a / 2 * 2 ^ 1 + a % 2 = omega arith in
    let f : b ≡ b / 2 * 2 ^ 1 + b % 2 = omega arith in
    ap (λ n. bit_and n b) e ∙ ap (λ n. bit_and (a / 2 * 2 ^ 1 + a % 2) n) f
    ∙ and_block 1 (a / 2) (b / 2) (a % 2) (b % 2) (omega arith) (omega arith)

or_parts : (a b : ℕ) → bit_or a b ≡ bit_or (a / 2) (b / 2) * 2 + bit_or (a % 2) (b % 2)
or_parts a b =
    let e : a ≡ a / 2 * 2 ^ 1 + a % 2 = omega arith in
    let f : b ≡ b / 2 * 2 ^ 1 + b % 2 = omega arith in
    ap (λ n. bit_or n b) e ∙ ap (λ n. bit_or (a / 2 * 2 ^ 1 + a % 2) n) f
    ∙ or_block 1 (a / 2) (b / 2) (a % 2) (b % 2) (omega arith) (omega arith)

-- two digits
record Digits (a b : ℕ) : Type 0 where
  pub apart : (not (nat_eq a 1) || not (nat_eq b 1)) ≡ nat_eq (bit_and a b) 0
  pub either : cond (not (nat_eq a 1)) (fixed (nat_eq b 1)) (fixed (nat_eq a 1)) ≡ fixed (nat_eq (bit_or a b) 1)
  pub low : bit_and a b < 2
  pub high : bit_or a b < 2

digits : (a b : ℕ) → a < 2 → b < 2 → Digits a b
digits zero zero h k = record { apart = refl; either = refl; low = omega arith; high = omega arith }
digits zero (suc zero) h k = record { apart = refl; either = refl; low = omega arith; high = omega arith }
digits (suc zero) zero h k = record { apart = refl; either = refl; low = omega arith; high = omega arith }
digits (suc zero) (suc zero) h k = record { apart = refl; either = refl; low = omega arith; high = omega arith }
digits (suc (suc a)) b h k = absurd (omega arith)
digits a (suc (suc b)) h k = absurd (omega arith)

zero_sum : (h l : ℕ) → (nat_eq l 0 && nat_eq h 0) ≡ nat_eq (h * 2 + l) 0
zero_sum zero zero = refl
zero_sum zero (suc l) = search arith
zero_sum (suc h) zero = search arith
zero_sum (suc h) (suc l) = search arith

pub disjoint-fixed : (w a b : ℕ) → a < 2 ^ w → b < 2 ^ w → are_disjoint (fixed_bits w a) (fixed_bits w b) ≡ nat_eq (bit_and a b) 0
disjoint-fixed zero a b h k =
    let e : bit_and a b ≡ 0 = omega (arith, and_le_l a b) in
    rw e refl
disjoint-fixed (suc w) a b h k =
    let d = digits (a % 2) (b % 2) (omega arith) (omega arith) in
    let p : a / 2 < 2 ^ w = omega (arith, pow-suc 2 w) in
    let q : b / 2 < 2 ^ w = omega (arith, pow-suc 2 w) in
    ap (λ t. t && are_disjoint (fixed_bits w (a / 2)) (fixed_bits w (b / 2))) d.apart
    ∙ ap (λ t. nat_eq (bit_and (a % 2) (b % 2)) 0 && t) (disjoint-fixed w (a / 2) (b / 2) p q)
    ∙ zero_sum (bit_and (a / 2) (b / 2)) (bit_and (a % 2) (b % 2))
    ∙ ap (λ n. nat_eq n 0) (sym (and_parts a b))

pub either-fixed : (w a b : ℕ) → either_of (fixed_bits w a) (fixed_bits w b) ≡ fixed_bits w (bit_or a b)
either-fixed zero a b = refl
either-fixed (suc w) a b =
    let d = digits (a % 2) (b % 2) (omega arith) (omega arith) in
    let low : bit_or a b % 2 ≡ bit_or (a % 2) (b % 2) = omega (arith, or_parts a b, d.high) in
    let high : bit_or a b / 2 ≡ bit_or (a / 2) (b / 2) = omega (arith, or_parts a b, d.high) in
    rw (low, high)
    (ap (λ x. x ∷ either_of (fixed_bits w (a / 2)) (fixed_bits w (b / 2))) d.either
    ∙ ap (λ bs. fixed (nat_eq (bit_or (a % 2) (b % 2)) 1) ∷ bs) (either-fixed w (a / 2) (b / 2)))

pub disjoint-zeros : (bs : List Bit) → are_disjoint (zeros (length bs)) bs ≡ true
disjoint-zeros [] = refl
disjoint-zeros (b ∷ bs) = disjoint-zeros bs

pub either-zeros : (bs : List Bit) → either_of (zeros (length bs)) bs ≡ bs
either-zeros [] = refl
either-zeros (b ∷ bs) = ap (λ xs. b ∷ xs) (either-zeros bs)

pub zeros-disjoint : (bs : List Bit) → are_disjoint bs (zeros (length bs)) ≡ true
zeros-disjoint [] = refl
zeros-disjoint (b ∷ bs) = rw (or-true (is_zero b)) (zeros-disjoint bs)

-- A run of a cell is disjoint from zeros alone.
pub run-zeros : (c : CellName) (f n : ℕ) → either_of (run_bits c f n) (zeros n) ≡ run_bits c f n
run-zeros c f zero = refl
run-zeros c f (suc n) = ap (λ bs. cell_bit c f ∷ bs) (run-zeros c (f + 1) n)

half_zero : (l h : ℕ) → l < 2 → (not (nat_eq l 1) && nat_eq h 0) ≡ nat_eq (h * 2 + l) 0
half_zero zero h k = zero_sum h 0
half_zero (suc zero) zero k = refl
half_zero (suc zero) (suc h) k = search arith
half_zero (suc (suc l)) h k = absurd (omega arith)

pub disjoint-run : (c : CellName) (f w a : ℕ) → a < 2 ^ w → are_disjoint (fixed_bits w a) (run_bits c f w) ≡ nat_eq a 0
disjoint-run c f zero a h = let e : a ≡ 0 = omega arith in rw e refl
disjoint-run c f (suc w) a h =
    let p : a / 2 < 2 ^ w = omega (arith, pow-suc 2 w) in
    let e : a / 2 * 2 + a % 2 ≡ a = omega arith in
    ap (λ t. t && are_disjoint (fixed_bits w (a / 2)) (run_bits c (f + 1) w)) (or_false (not (is_odd a)))
    ∙ ap (λ t. not (is_odd a) && t) (disjoint-run c (f + 1) w (a / 2) p)
    ∙ half_zero (a % 2) (a / 2) (omega arith) ∙ ap (λ n. nat_eq n 0) e
  where
    or_false : (t : Bool) → (t || false) ≡ t
    or_false true = refl
    or_false false = refl

pub run-disjoint : (c : CellName) (f w a : ℕ) → a < 2 ^ w → are_disjoint (run_bits c f w) (fixed_bits w a) ≡ nat_eq a 0
run-disjoint c f zero a h = let e : a ≡ 0 = omega arith in rw e refl
run-disjoint c f (suc w) a h =
    let p : a / 2 < 2 ^ w = omega (arith, pow-suc 2 w) in
    let e : a / 2 * 2 + a % 2 ≡ a = omega arith in
    ap (λ t. not (is_odd a) && t) (run-disjoint c (f + 1) w (a / 2) p)
    ∙ half_zero (a % 2) (a / 2) (omega arith) ∙ ap (λ n. nat_eq n 0) e

pub runs-meet : (c : CellName) (f : ℕ) (d : CellName) (g n : ℕ) → 0 < n → are_disjoint (run_bits c f n) (run_bits d g n) ≡ false
runs-meet c f d g zero h = absurd (omega arith)
runs-meet c f d g (suc n) h = refl

and_assoc : (a b c : Bool) → ((a && b) && c) ≡ (a && (b && c))
and_assoc true b c = refl
and_assoc false b c = refl

pub disjoint-append : (xs ys us vs : List Bit) → length xs ≡ length ys → are_disjoint (xs ++ us) (ys ++ vs) ≡ (are_disjoint xs ys && are_disjoint us vs)
disjoint-append [] [] us vs h = refl
disjoint-append [] (y ∷ ys) us vs h = absurd (omega arith)
disjoint-append (x ∷ xs) [] us vs h = absurd (omega arith)
disjoint-append (x ∷ xs) (y ∷ ys) us vs h =
    ap (λ t. (is_zero x || is_zero y) && t) (disjoint-append xs ys us vs (omega arith))
    ∙ sym (and_assoc (is_zero x || is_zero y) (are_disjoint xs ys) (are_disjoint us vs))

pub either-append : (xs ys us vs : List Bit) → length xs ≡ length ys → either_of (xs ++ us) (ys ++ vs) ≡ either_of xs ys ++ either_of us vs
either-append [] [] us vs h = refl
either-append [] (y ∷ ys) us vs h = absurd (omega arith)
either-append (x ∷ xs) [] us vs h = absurd (omega arith)
either-append (x ∷ xs) (y ∷ ys) us vs h = ap (λ bs. cond (is_zero x) y x ∷ bs) (either-append xs ys us vs (omega arith))

-- ---- names

pub renamed-fixed : (from to : CellName) (w v : ℕ) → renamed from to (fixed_bits w v) ≡ fixed_bits w v
renamed-fixed from to zero v = refl
renamed-fixed from to (suc w) v = ap (λ bs. fixed (is_odd v) ∷ bs) (renamed-fixed from to w (v / 2))

pub renamed-run : (from to c : CellName) (f n : ℕ) → renamed from to (run_bits c f n) ≡ run_bits (renamed_cell from to c) f n
renamed-run from to c f zero = refl
renamed-run from to c f (suc n) = ap (λ bs. cell_bit (renamed_cell from to c) f ∷ bs) (renamed-run from to c (f + 1) n)

pub renamed-append : (from to : CellName) (xs ys : List Bit) → renamed from to (xs ++ ys) ≡ renamed from to xs ++ renamed from to ys
renamed-append from to [] ys = refl
renamed-append from to (x ∷ xs) ys = ap (λ bs. renamed_bit from to x ∷ bs) (renamed-append from to xs ys)

pub mentions-fixed : (c : CellName) (w v : ℕ) → mentions c (fixed_bits w v) ≡ false
mentions-fixed c zero v = refl
mentions-fixed c (suc w) v = mentions-fixed c w (v / 2)

or_self : (t : Bool) → (t || t) ≡ t
or_self true = refl
or_self false = refl

run_mentions : (c d : CellName) (f n : ℕ) → mentions c (run_bits d f (suc n)) ≡ is_same_cell d c
run_mentions c d f zero = none (is_same_cell d c)
  where
    none : (t : Bool) → (t || false) ≡ t
    none true = refl
    none false = refl
run_mentions c d f (suc n) = ap (λ t. is_same_cell d c || t) (run_mentions c d (f + 1) n) ∙ or_self (is_same_cell d c)

pub mentions-run : (c d : CellName) (f n : ℕ) → 0 < n → mentions c (run_bits d f n) ≡ is_same_cell d c
mentions-run c d f zero h = absurd (omega arith)
mentions-run c d f (suc n) h = run_mentions c d f n

pub mentions-append : (c : CellName) (xs ys : List Bit) → mentions c (xs ++ ys) ≡ (mentions c xs || mentions c ys)
mentions-append c [] ys = refl
mentions-append c (x ∷ xs) ys = ap (λ t. is_bit_of c x || t) (mentions-append c xs ys) ∙ sym (or-assoc (is_bit_of c x) (mentions c xs) (mentions c ys))
