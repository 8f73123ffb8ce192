-- What each operation on bits does to their number.
use Rattle.std.proofs.Common.{◌≡◌, ℕ, zero, suc, ◌+◌, ◌-◌, ◌*◌, ◌/◌, ◌%◌, ◌^◌, ◌<◌, ◌≤◌, Bool, true, false, ◌&&◌}
use Rattle.std.proofs.lemmas.Bool.{and_parts, or_left, or_right}
use Rattle.std.proofs.Common.{◌||◌, nat_eq, cond, List, [], ◌∷◌, ◌++◌, length, take, drop, bit_and, bit_or, sym, refl}
use Rattle.std.proofs.Common.{ap, ◌∙◌, subst, arith, length-drop}
use Rattle.std.proofs.lemmas.List.{take-append-drop}
use Rattle.std.proofs.lemmas.Nat.{pow_pos, mod_low, shr_high, mod-pow-add, shl-shr, and_block, and_le_l, and_le_r}
use Rattle.std.proofs.lemmas.Nat.{or_disjoint}
use Rattle.ep_bitslice.specs.declared.cell.CellName.{CellName}
use Rattle.ep_bitslice.specs.Bits.{Bit, fixed, cell_bit, Numbers, bit_of, digit, number_of_bits, zeros, part_of}
use Rattle.ep_bitslice.specs.Bits.{shifted_left, shifted_right, extended, masked, is_zero, are_disjoint, either_of}
use Rattle.ep_bitslice.specs.Bits.{is_same_cell, renamed_bit, renamed, is_bit_of, mentions, AgreeOn}
use Rattle.ep_bitslice.proofs.Joining.{same_cell, cell_itself}
use Rattle.ep_bitslice.proofs.Numbers.{number_below, number-append, digit_below}

-- ---- parts

pub length_take : (k : ℕ) (bs : List Bit) → k ≤ length bs → length (take k bs) ≡ k
length_take zero bs h = refl
length_take (suc k) [] h = absurd (omega arith)
length_take (suc k) (b ∷ bs) h = ap suc (length_take k bs (omega arith))

number-both : (n : Numbers) (k : ℕ) (bs : List Bit) → k ≤ length bs → number_of_bits n bs ≡ number_of_bits n (drop k bs) * 2 ^ k + number_of_bits n (take k bs)
number-both n k bs h =
    ap (number_of_bits n) (sym (take-append-drop k bs)) ∙ number-append n (take k bs) (drop k bs)
    ∙ rw (length_take k bs h) (omega arith)

take_below : (n : Numbers) (k : ℕ) (bs : List Bit) → k ≤ length bs → number_of_bits n (take k bs) < 2 ^ k
take_below n k bs h = subst (λ i. number_of_bits n (take k bs) < 2 ^ i) (length_take k bs h) (number_below n (take k bs))

pub number-drop : (n : Numbers) (k : ℕ) (bs : List Bit) → k ≤ length bs → number_of_bits n (drop k bs) ≡ number_of_bits n bs / 2 ^ k
number-drop n k bs h =
    sym (ap (λ i. i / 2 ^ k) (number-both n k bs h) ∙ shr_high (number_of_bits n (drop k bs)) k (number_of_bits n (take k bs)) (take_below n k bs h))

pub number-take : (n : Numbers) (k : ℕ) (bs : List Bit) → k ≤ length bs → number_of_bits n (take k bs) ≡ number_of_bits n bs % 2 ^ k
number-take n k bs h =
    sym (ap (λ i. i % 2 ^ k) (number-both n k bs h) ∙ mod_low (number_of_bits n (drop k bs)) k (number_of_bits n (take k bs)) (take_below n k bs h))

pub number-part_of : (n : Numbers) (from to : ℕ) (bs : List Bit) → from ≤ to → to ≤ length bs → number_of_bits n (part_of from to bs) ≡ number_of_bits n bs / 2 ^ from % 2 ^ (to - from)
number-part_of n from to bs p q =
    let k : to - from ≤ length (drop from bs) = omega (arith, length-drop from bs) in
    number-take n (to - from) (drop from bs) k ∙ ap (λ i. i % 2 ^ (to - from)) (number-drop n from bs (omega arith))

-- ---- zeros

pub length-zeros : (k : ℕ) → length (zeros k) ≡ k
length-zeros zero = refl
length-zeros (suc k) = ap suc (length-zeros k)

number-zeros : (n : Numbers) (k : ℕ) → number_of_bits n (zeros k) ≡ 0
number-zeros n zero = refl
number-zeros n (suc k) = omega (arith, number-zeros n k)

number-above : (n : Numbers) (bs : List Bit) (k : ℕ) → number_of_bits n (bs ++ zeros k) ≡ number_of_bits n bs
number-above n bs k = number-append n bs (zeros k) ∙ rw (number-zeros n k) (omega arith)

pub number-extended : (n : Numbers) (k : ℕ) (bs : List Bit) → number_of_bits n (extended k bs) ≡ number_of_bits n bs
number-extended n k bs = number-above n bs (k - length bs)

pub number-shifted_right : (n : Numbers) (k : ℕ) (bs : List Bit) → k ≤ length bs → number_of_bits n (shifted_right k bs) ≡ number_of_bits n bs / 2 ^ k
number-shifted_right n k bs h = number-above n (drop k bs) k ∙ number-drop n k bs h

shifted_mod : (a j k : ℕ) → a * 2 ^ k % 2 ^ (j + k) ≡ a % 2 ^ j * 2 ^ k
shifted_mod a j k =
    mod-pow-add (a * 2 ^ k) j k
    ∙ ap (λ i. i % 2 ^ j * 2 ^ k + a * 2 ^ k % 2 ^ k) (shl-shr a k)
    ∙ ap (λ i. a % 2 ^ j * 2 ^ k + i) (clear a k)
    ∙ omega arith
  where
    clear : (a k : ℕ) → a * 2 ^ k % 2 ^ k ≡ 0
    clear a k = let e : a * 2 ^ k ≡ a * 2 ^ k + 0 = omega arith in ap (λ i. i % 2 ^ k) e ∙ mod_low a k 0 (pow_pos k)

pub number-shifted_left : (n : Numbers) (k : ℕ) (bs : List Bit) → k ≤ length bs → number_of_bits n (shifted_left k bs) ≡ number_of_bits n bs * 2 ^ k % 2 ^ length bs
number-shifted_left n k bs h =
    let w : length bs - k + k ≡ length bs = omega arith in
    let a : number_of_bits n (shifted_left k bs) ≡ number_of_bits n (take (length bs - k) bs) * 2 ^ k =
    number-append n (zeros k) (take (length bs - k) bs) ∙ rw (number-zeros n k, length-zeros k) (omega arith) in
    a ∙ ap (λ i. i * 2 ^ k) (number-take n (length bs - k) bs (omega arith))
    ∙ sym (shifted_mod (number_of_bits n bs) (length bs - k) k)
    ∙ ap (λ i. number_of_bits n bs * 2 ^ k % 2 ^ i) w

-- ---- masks

and_zero : (x : ℕ) → bit_and 0 x ≡ 0
and_zero x = omega (arith, and_le_l 0 x)

and_zero_right : (x : ℕ) → bit_and x 0 ≡ 0
and_zero_right x = omega (arith, and_le_r x 0)

and_one : (d : ℕ) → d < 2 → bit_and d 1 ≡ d
and_one zero h = refl
and_one (suc zero) h = refl
and_one (suc (suc d)) h = absurd (omega arith)

-- one bit below others
and_step : (d a r m : ℕ) → d < 2 → r < 2 → bit_and (d + 2 * a) (r + 2 * m) ≡ bit_and d r + 2 * bit_and a m
and_step d a r m p q =
    let e : d + 2 * a ≡ a * 2 ^ 1 + d = omega arith in
    let f : r + 2 * m ≡ m * 2 ^ 1 + r = omega arith in
    rw (e, f) (and_block 1 a m d r p q ∙ omega arith)

masked_digit : (n : Numbers) (b : Bit) (r : ℕ) → r < 2 → digit n (cond (nat_eq r 1) b (fixed false)) ≡ bit_and (digit n b) r
masked_digit n b zero h = sym (and_zero_right (digit n b))
masked_digit n b (suc zero) h = sym (and_one (digit n b) (digit_below n b))
masked_digit n b (suc (suc r)) h = absurd (omega arith)

pub number-masked : (n : Numbers) (m : ℕ) (bs : List Bit) → number_of_bits n (masked m bs) ≡ bit_and (number_of_bits n bs) m
number-masked n m [] = sym (and_zero m)
number-masked n m (b ∷ bs) =
    let low : m % 2 < 2 = omega arith in
    let parts : m ≡ m % 2 + 2 * (m / 2) = omega arith in
    let a = masked_digit n b (m % 2) low in
    let c = number-masked n (m / 2) bs in
    let d = and_step (digit n b) (number_of_bits n bs) (m % 2) (m / 2) (digit_below n b) low in
    let e = ap (λ i. bit_and (digit n b + 2 * number_of_bits n bs) i) parts in
    omega (arith, a, c, d, e)

-- ---- disjoint bits

zero_digit : (n : Numbers) (b : Bit) → is_zero b ≡ true → digit n b ≡ 0
zero_digit n (fixed true) h = absurd (cc)
zero_digit n (fixed false) h = refl
zero_digit n (cell_bit c k) h = absurd (cc)

either_digit : (n : Numbers) (a b : Bit) → (is_zero a || is_zero b) ≡ true → digit n (cond (is_zero a) b a) ≡ digit n a + digit n b
either_digit n a b h = by (is_zero a) refl h
  where
    by : (t : Bool) → is_zero a ≡ t → (t || is_zero b) ≡ true → digit n (cond t b a) ≡ digit n a + digit n b
    by true e h = omega (arith, zero_digit n a e)
    by false e h = omega (arith, zero_digit n b h)

common_digit : (n : Numbers) (a b : Bit) → (is_zero a || is_zero b) ≡ true → bit_and (digit n a) (digit n b) ≡ 0
common_digit n a b h = by (is_zero a) refl h
  where
    by : (t : Bool) → is_zero a ≡ t → (t || is_zero b) ≡ true → bit_and (digit n a) (digit n b) ≡ 0
    by true e h = rw (zero_digit n a e) (and_zero (digit n b))
    by false e h = rw (zero_digit n b h) (and_zero_right (digit n a))

pub number-either_of : (n : Numbers) (xs ys : List Bit) → are_disjoint xs ys ≡ true → number_of_bits n (either_of xs ys) ≡ number_of_bits n xs + number_of_bits n ys
number-either_of n [] [] h = refl
number-either_of n [] (y ∷ ys) h = absurd (cc)
number-either_of n (x ∷ xs) [] h = absurd (cc)
number-either_of n (x ∷ xs) (y ∷ ys) h =
    let p = and_parts (is_zero x || is_zero y) (are_disjoint xs ys) h in
    omega (arith, either_digit n x y p.0, number-either_of n xs ys p.1)

common : (n : Numbers) (xs ys : List Bit) → are_disjoint xs ys ≡ true → bit_and (number_of_bits n xs) (number_of_bits n ys) ≡ 0
common n [] [] h = refl
common n [] (y ∷ ys) h = absurd (cc)
common n (x ∷ xs) [] h = absurd (cc)
common n (x ∷ xs) (y ∷ ys) h =
    let p = and_parts (is_zero x || is_zero y) (are_disjoint xs ys) h in
    let d = and_step (digit n x) (number_of_bits n xs) (digit n y) (number_of_bits n ys) (digit_below n x) (digit_below n y) in
    omega (arith, d, common_digit n x y p.0, common n xs ys p.1)

pub or-number : (n : Numbers) (xs ys : List Bit) → are_disjoint xs ys ≡ true → number_of_bits n (either_of xs ys) ≡ bit_or (number_of_bits n xs) (number_of_bits n ys)
or-number n xs ys h = number-either_of n xs ys h ∙ sym (or_disjoint (number_of_bits n xs) (number_of_bits n ys) (common n xs ys h))

-- ---- names

renamed_digit : (n : Numbers) (from to : CellName) (b : Bit) → n from ≡ n to → digit n (renamed_bit from to b) ≡ digit n b
renamed_digit n from to (fixed b) h = refl
renamed_digit n from to (cell_bit c k) h = ap (λ v. bit_of v k) (by (is_same_cell c from) refl)
  where
    by : (t : Bool) → is_same_cell c from ≡ t → n (cond t to c) ≡ n c
    by true e = sym h ∙ ap n (sym (same_cell c from e))
    by false e = refl

pub number-renamed : (n : Numbers) (from to : CellName) (bs : List Bit) → n from ≡ n to → number_of_bits n (renamed from to bs) ≡ number_of_bits n bs
number-renamed n from to [] h = refl
number-renamed n from to (b ∷ bs) h = omega (arith, renamed_digit n from to b h, number-renamed n from to bs h)

same_digit : (n m : Numbers) (b : Bit) (bs : List Bit) → AgreeOn (b ∷ bs) n m → digit n b ≡ digit m b
same_digit n m (fixed b) bs h = refl
same_digit n m (cell_bit c k) bs h = ap (λ v. bit_of v k) (h c (or_left (is_same_cell c c) (mentions c bs) (cell_itself c)))

-- The number depends on the mentioned cells alone.
pub number-agree : (n m : Numbers) (bs : List Bit) → AgreeOn bs n m → number_of_bits n bs ≡ number_of_bits m bs
number-agree n m [] h = refl
number-agree n m (b ∷ bs) h =
    omega (arith, same_digit n m b bs h, number-agree n m bs (λ c e. h c (or_right (is_bit_of c b) (mentions c bs) e)))
