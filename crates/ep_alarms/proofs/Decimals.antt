-- A decimal number ends at the first byte that is no digit, and is the number that it spells.
use Rattle.std.proofs.Common.{◌≡◌, ℕ, zero, suc, ◌+◌, ◌/◌, ◌%◌, ◌^◌, ◌<◌, Bool, true, false, cond, eqb, List, [], ◌∷◌}
use Rattle.std.proofs.Common.{◌++◌, ℤ, pos, negsuc, FitsSigned, refl, sym, ap, ◌∙◌, arith, lt-ltb}
use Rattle.std.specs.Fmt.{decimal, signed_decimal, digits, digits_onto, digit_glyph}
use Rattle.std.specs.Int.{w128}
use Rattle.std.specs.Str.Parse.{digits_value}
use Rattle.std.proofs.lemmas.Fmt.{decimal_is_IsNumeral_wide}

abbrev pub IsDigit : ℕ → Type 0
IsDigit c = (47 < c) × (c < 58)

-- not a digit
abbrev pub IsMark : ℕ → Type 0
IsMark c = 47 < c → c < 58 → ⊥

abbrev pub AreDigits : List ℕ → Type 0
AreDigits [] = Unit {0}
AreDigits (c ∷ cs) = IsDigit c × AreDigits cs

glyph : (d : ℕ) → d < 10 → digit_glyph false d ≡ 48 + d
glyph d h = ap (λ (b : Bool). cond b (48 + d) (87 + d)) (lt-ltb d 10 h)

either : (b : Bool) (xs ys : List ℕ) → AreDigits xs → AreDigits ys → AreDigits (cond b xs ys)
either true xs ys p q = p
either false xs ys p q = q

digits_onto_digits : (k n : ℕ) (acc : List ℕ) → AreDigits acc → AreDigits (digits_onto k 10 false n acc)
digits_onto_digits zero n acc h = h
digits_onto_digits (suc k) n acc h =
    let small : n % 10 < 10 = omega arith in
    let e = glyph (n % 10) small in
    let more : AreDigits (digit_glyph false (n % 10) ∷ acc) = ((omega arith, omega arith), h) in
    either (eqb (n / 10) 0) _ _ more (digits_onto_digits k (n / 10) (digit_glyph false (n % 10) ∷ acc) more)

pub decimal_digits : (n : ℕ) → AreDigits (decimal n)
unfolding digits
decimal_digits n = digits_onto_digits 64 n [] tt

-- two runs of digits, each up to a mark, are the same run
pub split_at_mark : (xs ys : List ℕ) (c d : ℕ) (r s : List ℕ) → AreDigits xs → AreDigits ys → IsMark c → IsMark d → xs ++ c ∷ r ≡ ys ++ d ∷ s → (xs ≡ ys) × (c ∷ r ≡ d ∷ s)
split_at_mark [] [] c d r s p q m n e = (refl, e)
split_at_mark [] (y ∷ ys) c d r s p q m n e = let same : c ≡ y = cc in absurd (m (omega (arith, q.0)) (omega (arith, q.0)))
split_at_mark (x ∷ xs) [] c d r s p q m n e = let same : x ≡ d = cc in absurd (n (omega (arith, p.0)) (omega (arith, p.0)))
split_at_mark (x ∷ xs) (y ∷ ys) c d r s p q m n e =
    let head : x ≡ y = cc in
    let tail : xs ++ c ∷ r ≡ ys ++ d ∷ s = cc in
    let more = split_at_mark xs ys c d r s p.1 q.1 m n tail in
    (rw (head, more.0), more.1)

pub decimal_read : (m n c d : ℕ) (r s : List ℕ) → m < 10 ^ 64 → n < 10 ^ 64 → IsMark c → IsMark d → decimal m ++ c ∷ r ≡ decimal n ++ d ∷ s → (m ≡ n) × (c ∷ r ≡ d ∷ s)
decimal_read m n c d r s p q mc md e =
    let parts = split_at_mark (decimal m) (decimal n) c d r s (decimal_digits m) (decimal_digits n) mc md e in
    (sym (decimal_is_IsNumeral_wide m p).1 ∙ ap (digits_value 10) parts.0 ∙ (decimal_is_IsNumeral_wide n q).1, parts.1)

pub signed_read : (y z : ℤ) (c : ℕ) (r s : List ℕ) → FitsSigned w128 y → FitsSigned w128 z → IsMark c → (c ≡ 45 → ⊥) → signed_decimal y ++ c ∷ r ≡ signed_decimal z ++ c ∷ s → (y ≡ z) × (r ≡ s)
signed_read (pos m) (pos n) c r s p q mc other e =
    let parts = decimal_read m n c c r s (omega (arith, p.sfits)) (omega (arith, q.sfits)) mc mc e in
    (ap pos parts.0, let f = parts.1 in cc)
signed_read (pos m) (negsuc n) c r s p q mc other e =
    let parts = split_at_mark (decimal m) [] c 45 r (decimal (suc n) ++ c ∷ s) (decimal_digits m) tt mc (λ a b. omega arith) e in
    let f = parts.1 in
    let same : c ≡ 45 = cc in
    absurd (other same)
signed_read (negsuc m) (pos n) c r s p q mc other e =
    let parts = split_at_mark [] (decimal n) 45 c (decimal (suc m) ++ c ∷ r) s tt (decimal_digits n) (λ a b. omega arith) mc e in
    let f = parts.1 in
    let same : 45 ≡ c = cc in
    absurd (other (sym same))
signed_read (negsuc m) (negsuc n) c r s p q mc other e =
    let tail : decimal (suc m) ++ c ∷ r ≡ decimal (suc n) ++ c ∷ s = cc in
    let parts = decimal_read (suc m) (suc n) c c r s (omega (arith, p.sfits)) (omega (arith, q.sfits)) mc mc tail in
    let same : m ≡ n = omega (arith, parts.0) in
    (ap negsuc same, let f = parts.1 in cc)
