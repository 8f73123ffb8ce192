-- Parts of the bits of a number.
use Rattle.std.proofs.Common.{◌≡◌, ℕ, zero, suc, ◌+◌, ◌-◌, ◌*◌, ◌/◌, ◌%◌, ◌^◌, ◌≤◌, List, ◌∷◌, ◌++◌, length}
use Rattle.std.proofs.Common.{take, drop, reverse, sym, refl, ap, ◌∙◌, subst, arith, append_assoc, take_at, drop_at}
use Rattle.std.proofs.Common.{shr-shr, take-append-drop, div-one}
use Rattle.std.proofs.lemmas.Nat.{mod-pow-add}
use Rattle.std.proofs.lemmas.List.{reverse-append, reverse-reverse, length-reverse}
use Rattle.ep_bitfield.specs.Bits.{lowest_bits, number_with}

pub length_bits : (k n : ℕ) → length (lowest_bits k n) ≡ k
length_bits zero n = refl
length_bits (suc k) n = ap suc (length_bits k (n / 2))

pub number_step : (k n : ℕ) → n % 2 + 2 * (n / 2 % 2 ^ k) ≡ n % 2 ^ suc k
number_step k n =
    let e : n % 2 ^ (k + 1) ≡ (n / 2 % 2 ^ k) * 2 + n % 2 = mod-pow-add n k 1 in
    let f : k + 1 ≡ suc k = omega arith in
    subst (λ j. n % 2 + 2 * (n / 2 % 2 ^ k) ≡ n % 2 ^ j) f (omega (arith, e))

pub number_bits : (k n : ℕ) → number_with (lowest_bits k n) ≡ n % 2 ^ k
number_bits zero n = omega arith
number_bits (suc k) n = ap (λ r. n % 2 + 2 * r) (number_bits k (n / 2)) ∙ number_step k n

pub take_bits : (j k n : ℕ) → j ≤ k → take j (lowest_bits k n) ≡ lowest_bits j n
take_bits zero k n h = refl
take_bits (suc j) zero n h = absurd (omega arith)
take_bits (suc j) (suc k) n h = ap (λ bs. n % 2 ∷ bs) (take_bits j k (n / 2) (omega arith))

pub drop_bits : (j k n : ℕ) → j ≤ k → drop j (lowest_bits k n) ≡ lowest_bits (k - j) (n / 2 ^ j)
drop_bits zero k n h =
    let e : k ≡ k - 0 = omega arith in
    sym (ap (lowest_bits k) (div-one n)) ∙ ap (λ c. lowest_bits c (n / 1)) e
drop_bits (suc j) zero n h = absurd (omega arith)
drop_bits (suc j) (suc k) n h =
    let e : k - j ≡ suc k - suc j = omega arith in
    let f : 1 + j ≡ suc j = omega arith in
    drop_bits j k (n / 2) (omega arith) ∙ ap (λ c. lowest_bits c (n / 2 / 2 ^ j)) e
    ∙ ap (lowest_bits (suc k - suc j)) (shr-shr n 1 j ∙ ap (λ m. n / 2 ^ m) f)

-- ---- parts

-- A part of bits that stand the other way round, turned back.
turned : (a b c : List ℕ) (u w : ℕ) → length c ≡ u → length b ≡ w
    → reverse (take w (drop u (reverse (a ++ (b ++ c))))) ≡ b
turned a b c u w p q =
    let e : reverse (a ++ (b ++ c)) ≡ reverse c ++ (reverse b ++ reverse a) =
    reverse-append a (b ++ c) ∙ ap (λ r. r ++ reverse a) (reverse-append b c)
    ∙ append_assoc (reverse c) (reverse b) (reverse a) in
    ap (λ r. reverse (take w (drop u r))) e
    ∙ ap (λ r. reverse (take w r)) (drop_at (reverse c) (reverse b ++ reverse a) u (length-reverse c ∙ p))
    ∙ ap reverse (take_at (reverse b) (reverse a) w (length-reverse b ∙ q)) ∙ reverse-reverse b

-- bits in three parts
pub split_bits : (k w u n : ℕ)
    → lowest_bits k n ++ (lowest_bits w (n / 2 ^ k) ++ lowest_bits u (n / 2 ^ k / 2 ^ w)) ≡ lowest_bits (k + w + u) n
split_bits k w u n =
    let second : lowest_bits w (n / 2 ^ k) ++ lowest_bits u (n / 2 ^ k / 2 ^ w) ≡ lowest_bits (w + u) (n / 2 ^ k) =
    two w u (n / 2 ^ k) in
    let e : k + (w + u) ≡ k + w + u = omega arith in
    ap (λ r. lowest_bits k n ++ r) second ∙ two k (w + u) n ∙ ap (λ c. lowest_bits c n) e
  where
    two : (j k n : ℕ) → lowest_bits j n ++ lowest_bits k (n / 2 ^ j) ≡ lowest_bits (j + k) n
    two j k n =
        let h : j ≤ j + k = omega arith in
        let e : k ≡ j + k - j = omega arith in
        ap (λ r. r ++ lowest_bits k (n / 2 ^ j)) (sym (take_bits j (j + k) n h))
        ∙ ap (λ r. take j (lowest_bits (j + k) n) ++ r)
        (ap (λ c. lowest_bits c (n / 2 ^ j)) e ∙ sym (drop_bits j (j + k) n h))
        ∙ take-append-drop j (lowest_bits (j + k) n)

pub number_low : (k w b n : ℕ) → k + w ≤ b → number_with (take w (drop k (lowest_bits b n))) ≡ n / 2 ^ k % 2 ^ w
number_low k w b n h =
    ap (λ r. number_with (take w r)) (drop_bits k b n (omega arith))
    ∙ ap number_with (take_bits w (b - k) (n / 2 ^ k) (omega arith)) ∙ number_bits w (n / 2 ^ k)

pub number_high : (u w b n : ℕ) → u + w ≤ b
    → number_with (reverse (take w (drop u (reverse (lowest_bits b n))))) ≡ n / 2 ^ (b - u - w) % 2 ^ w
number_high u w b n h =
    let k : ℕ = b - u - w in
    let e : k + w + u ≡ b = omega arith in
    ap (λ c. number_with (reverse (take w (drop u (reverse (lowest_bits c n)))))) (sym e)
    ∙ ap (λ bs. number_with (reverse (take w (drop u (reverse bs))))) (sym (split_bits k w u n))
    ∙ ap number_with
    (turned (lowest_bits k n) (lowest_bits w (n / 2 ^ k)) (lowest_bits u (n / 2 ^ k / 2 ^ w)) u w
    (length_bits u (n / 2 ^ k / 2 ^ w)) (length_bits w (n / 2 ^ k)))
    ∙ number_bits w (n / 2 ^ k)
