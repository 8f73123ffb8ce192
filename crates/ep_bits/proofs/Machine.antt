-- What the code of known bits needs.
use Rattle.std.proofs.Common.{◌≡◌, ℕ, suc, ◌+◌, ◌-◌, ◌*◌, ◌%◌, ◌^◌, ◌<◌, ◌≤◌, ℤ, pos, negsuc, ◌+ℤ◌, ◌≤ℤ◌, ◌⊎◌, inl}
use Rattle.ep_domain.specs.Laws.Shared.{from_eq}
use Rattle.std.proofs.lemmas.Bool.{false_from_ne_true}
use Rattle.std.proofs.Common.{inr, Bool, true, false, cond, Option, Some, None, FitsSigned, of_z, bit_or, refl, sym}
use Rattle.std.proofs.Common.{ap, ◌∙◌, subst, arith}
use Rattle.std.specs.Prelude.{IfSome, unsigned_abs, int_le}
use Rattle.std.specs.Option.{unwrap_or}
use Rattle.std.specs.Int.{w128}
use Rattle.std.proofs.Math.Nat.{mul-le-mul_right}
use Rattle.std.proofs.Math.Pow.{pow_mono}
use Rattle.std.proofs.lemmas.Int.{ints}
use Rattle.std.proofs.lemmas.Nat.{and_mask}
use Rattle.ep_int.specs.declared.types.IntType.{IntType}
use Rattle.ep_int.specs.declared.types.BinOp.{BinOp}
use Rattle.ep_int.specs.declared.types.BinOp.TheVariants.{Add, Sub, Mul}
use Rattle.ep_int.specs.Types.{is_signed, bits_of, residue, wrapped}
use Rattle.ep_int.specs.Arith.{IsOfSomeType, int_eq}
use Rattle.ep_int.proofs.Wrapping.{masked}
use Rattle.ep_range_laws.specs.Ranges.{IsRange}
use Rattle.ep_range_laws.proofs.Comparisons.{from_le_false}
use Rattle.ep_bit_laws.specs.Bits.{bit}
use Rattle.ep_bit_laws.specs.Patterns.{Pattern, pattern, is_pattern, closed, sign_bits, low_part, type_pattern}
use Rattle.ep_bit_laws.specs.Edges.{with_bit, first_at, first_negative, least_positive, or_positive, first_from}
use Rattle.ep_bit_laws.specs.Results.{low_known, exact_of, low_result, with_low, by_low_bits, left_by}
use Rattle.ep_bit_laws.proofs.Edges.{AreEnds, edges_are_ends}
use Rattle.ep_bit_laws.proofs.Least.{first_below}
use Rattle.ep_bits.specs.declared.known_bits.KnownBits.TheInside.{Inside}
use Rattle.ep_bit_domain.specs.KnownBits.{KnownBits, pattern_of, made, made_if, formed, top_of, single_of, edges_of}
use Rattle.ep_bit_domain.specs.KnownBits.{cut_at, cut_of, range_of, is_one, number_of, conversion_of}
use Rattle.ep_bit_domain.specs.KnownBits.{conversion_of_more, results_of}
use Rattle.ep_bit_domain.proofs.Formed.{made_some, is_pattern_of}
use Rattle.ep_bit_domain.proofs.Simple.{range_ends}

-- the fields of a value as the value
abbrev pub seen : Inside → KnownBits
seen i = record { zeros = i.zeros; ones = i.ones; valid = i.valid }

pub made_code : (z o : ℕ) (p : is_pattern z o ≡ true) → Some (made (pattern z o) p) ≡ made_if (pattern z o)
    (is_pattern z o) refl
made_code z o p = sym (made_some (pattern z o) (is_pattern z o) refl p)

pub both_masks : (a b c d : ℕ) → a ≡ c → b ≡ d → pattern a b ≡ pattern c d
both_masks a b c d e f = ap (λ x. pattern x b) e ∙ ap (pattern c) f

abbrev made_of : Pattern → Option KnownBits
made_of p = made_if p (is_pattern p.zeros p.ones) refl

pub formed_code : (r : Option KnownBits) (z o a b : ℕ) → r ≡ made_if (pattern a b) (is_pattern a b) refl → a ≡
    (closed (pattern z o)).zeros → b ≡ (closed (pattern z o)).ones → r ≡ formed (pattern z o)
formed_code r z o a b e f g = e ∙ ap made_of (both_masks a b (closed (pattern z o)).zeros
    (closed (pattern z o)).ones f g)

-- the same masks form the same
pub formed_same : (r : Option KnownBits) (z o a b : ℕ) → r ≡ formed (pattern z o) → z ≡ a → o ≡ b → r ≡ formed
    (pattern a b)
formed_same r z o a b e f g = e ∙ ap formed (both_masks z o a b f g)

-- ---- edges

pub first_step : (z o n k w l : ℕ) (c d b : Bool) (f r : Option ℕ) → r ≡ with_bit c d b w l f → c ≡ bit n k
    → d ≡ bit z k → b ≡ bit o k → w ≡ 2 ^ k → l ≡ o % 2 ^ k → f ≡ first_at z o n k → r ≡ first_at z o n (k + 1)
unfolding first_at
first_step z o n k w l c d b f r e ec ed eb ew el ef =
    e ∙ ap (λ x. with_bit x d b w l f) ec ∙ ap (λ x. with_bit (bit n k) x b w l f) ed ∙ ap
    (λ x. with_bit (bit n k) (bit z k) x w l f) eb
    ∙ ap (λ x. with_bit (bit n k) (bit z k) (bit o k) x l f) ew ∙ ap
    (λ x. with_bit (bit n k) (bit z k) (bit o k) (2 ^ k) x f) el
    ∙ ap (with_bit (bit n k) (bit z k) (bit o k) (2 ^ k) (o % 2 ^ k)) ef ∙ ap (first_at z o n) (one_more k)
  where
    one_more : (k : ℕ) → suc k ≡ k + 1
    one_more k = omega arith

pub found_below : (z o n k p : ℕ) (f : Option ℕ) → f ≡ first_at z o n k → p ≡ 2 ^ k → IfSome f (λ m. m < p)
found_below z o n k p f e g = subst (λ q. IfSome f (λ m. m < q)) (sym g)
    (subst (λ r. IfSome r (λ m. m < 2 ^ k)) (sym e) (first_below z o n k))

pub found_last : (z o n k : ℕ) (f : Option ℕ) → f ≡ first_at z o n k → k ≡ 64 → IfSome f
    (λ m. m < 18446744073709551616)
found_last z o n k f e g = found_below z o n k 18446744073709551616 f e (ap (λ i. 2 ^ i) (sym g))

pub from_negative : (lo : ℤ) (z o n : ℕ) (r s : Option ℤ) → int_le (pos 0) lo ≡ false → n ≡ unsigned_abs
    (lo +ℤ pos 18446744073709551616) → negsuc 18446744073709551615 ≤ℤ lo → s ≡ first_negative z o n → s ≡ None
    → r ≡ least_positive z o → r ≡ first_from z o lo
from_negative (pos m) z o n r s a e l f g h = let b = from_le_false (pos 0) (pos m) a in absurd (omega (arith, ints))
from_negative (negsuc m) z o n r s a e l f g h =
    let i : n ≡ 2 ^ 64 - 1 - m = e ∙ turned m l in
    h ∙ ap (or_positive z o) (sym g ∙ f ∙ ap (first_negative z o) i)
  where
    turned : (m : ℕ) → negsuc 18446744073709551615 ≤ℤ negsuc m → unsigned_abs
        (negsuc m +ℤ pos 18446744073709551616) ≡ 2 ^ 64 - 1 - m
    turned m l = omega (arith, ints)

-- ---- results

pub low_of : (e : ℤ) (n : ℕ) → n < 64 → FitsSigned w128 e → of_z w128 e % 2 ^ n ≡ residue (2 ^ n) e
low_of e n l f = sym (and_mask (of_z w128 e) n) ∙ masked (128 - n) n e (omega arith) f

pub low_result_code : (o : BinOp) (n : ℕ) (p q : Pattern) (a b r u : ℕ) (e : ℤ) → n < 64 → FitsSigned w128 e
    → r ≡ u % 2 ^ n → u ≡ of_z w128 e → e ≡ exact_of o (pos a) (pos b) → a ≡ p.ones % 2 ^ n → b ≡ q.ones % 2 ^ n
    → r ≡ low_result o n p q
low_result_code o n p q a b r u e l f er eu ee ea eb =
    er ∙ ap (λ x. x % 2 ^ n) eu ∙ low_of e n l f ∙ ap (residue (2 ^ n))
    (ee ∙ ap (λ (x : ℕ). exact_of o (pos x) (pos b)) ea ∙ ap
    (λ (x : ℕ). exact_of o (pos (p.ones % 2 ^ n)) (pos x)) eb)

pub low_part_code : (t : IntType) (z o a s b w : ℕ) (r : Option KnownBits) → r ≡ formed (pattern (bit_or a s) b)
    → a ≡ z % 2 ^ w → s ≡ sign_bits t → b ≡ o % 2 ^ w → w ≡ bits_of t → r ≡ formed (low_part t (pattern z o))
low_part_code t z o a s b w r e ea es eb ew =
    formed_same r (bit_or a s) b (bit_or (z % 2 ^ bits_of t) (sign_bits t)) (o % 2 ^ bits_of t) e
    (ap (λ x. bit_or x s) (ea ∙ ap (λ i. z % 2 ^ i) ew) ∙ ap (bit_or (z % 2 ^ bits_of t)) es)
    (eb ∙ ap (λ i. o % 2 ^ i) ew)

pub converted_code : (c : KnownBits) (t : IntType) (r d : KnownBits) (o : Option KnownBits) → is_signed t ≡ false
    → r ≡ unwrap_or o d → o ≡ formed (low_part t (pattern_of c)) → d ≡ top_of t → r ≡ conversion_of_more c t
converted_code c t r d o s e f g =
    e ∙ ap (λ x. unwrap_or x d) f ∙ ap (unwrap_or (formed (low_part t (pattern_of c)))) g
    ∙ sym (ap (λ b. cond b (top_of t) (unwrap_or (formed (low_part t (pattern_of c))) (top_of t))) s)

pub shifted_fits : (z p n : ℕ) → z < 2 ^ 65 → p ≡ 2 ^ n → n < 64 → z * p + (p - 1) < 2 ^ 128
shifted_fits z p n h e l =
    let w : p ≤ 2 ^ 63 = subst (λ q. q ≤ 2 ^ 63) (sym e) (pow_mono {i = n} {j = 63} (omega arith)) in
    let m : z * p ≤ 36893488147419103231 * p = mul-le-mul_right p (omega arith) in
    omega arith

pub left_by_code : (t : IntType) (p : Pattern) (n f : ℕ) (r : Option KnownBits) → r ≡ formed
    (low_part t (pattern (p.zeros * f + (f - 1)) (p.ones * f))) → f ≡ 2 ^ n → r ≡ formed (left_by t n p)
left_by_code t p n f r e g = e ∙ ap (λ x. formed (low_part t (pattern (p.zeros * x + (x - 1)) (p.ones * x)))) g

pub with_low_code : (t : IntType) (n r p z : ℕ) (o : Option KnownBits) → o ≡ formed (pattern (bit_or (p - 1 - r) z) r)
    → p ≡ 2 ^ n → z ≡ (type_pattern t).zeros → o ≡ formed (with_low t n r)
with_low_code t n r p z o e f g = e ∙ ap (λ x. formed (pattern (bit_or (x - 1 - r) z) r)) f ∙ ap
    (λ x. formed (pattern (bit_or (2 ^ n - 1 - r) x) r)) g

pub by_low_code : (o : BinOp) (t : IntType) (p q : Pattern) (n r : ℕ) (w : Option KnownBits) → w ≡ formed
    (with_low t n r) → n ≡ low_known t p q → r ≡ low_result o n p q → w ≡ formed (by_low_bits o t p q)
by_low_code o t p q n r w e f g = e ∙ ap (λ x. formed (with_low t n x)) g ∙ ap
    (λ m. formed (with_low t m (low_result o m p q))) f

pub low_results : (o : BinOp) (t : IntType) (a b : KnownBits) (r : Option KnownBits) →
    ((o ≡ Add) ⊎ ((o ≡ Sub) ⊎ (o ≡ Mul))) → r ≡ formed (by_low_bits o t (pattern_of a) (pattern_of b))
    → r ≡ results_of o t a b
low_results o t a b r (inl e) f = f ∙ ap (λ p. formed (by_low_bits p t (pattern_of a) (pattern_of b))) e ∙ ap
    (λ p. results_of p t a b) (sym e)
low_results o t a b r (inr (inl e)) f = f ∙ ap (λ p. formed (by_low_bits p t (pattern_of a) (pattern_of b))) e ∙ ap
    (λ p. results_of p t a b) (sym e)
low_results o t a b r (inr (inr e)) f = f ∙ ap (λ p. formed (by_low_bits p t (pattern_of a) (pattern_of b))) e ∙ ap
    (λ p. results_of p t a b) (sym e)

-- ---- cuts and ranges

pub edges_number : (c : KnownBits) (lo hi : ℤ) (e : ℤ × ℤ) → edges_of c lo hi ≡ Some e → IsOfSomeType e.0
edges_number c lo hi e f = (subst (λ o. IfSome o (AreEnds (pattern_of c) lo hi)) f
    (edges_are_ends (pattern_of c) (is_pattern_of c) lo hi)).first.number

pub cut_itself : (c : KnownBits) (lo hi f l : ℤ) → edges_of c lo hi ≡ Some (f, l) → (f ≡ l → ⊥)
    → Some c ≡ cut_of c lo hi
cut_itself c lo hi f l e n =
    let apart = false_from_ne_true (int_eq f l) (λ q. n (from_eq f l q)) in
    sym (ap (cut_at c) e ∙ ap (λ b. Some (cond b (single_of f) c)) apart)

pub range_given : (r : ℤ × ℤ) (c : KnownBits) → r ≡ range_of c → IsRange r.0 r.1
range_given r c e = subst (λ (s : ℤ × ℤ). IsRange s.0 s.1) (sym e) (range_ends c)

pub converted_one : (c r : KnownBits) (t : IntType) (w n : ℤ) → is_one c ≡ true → r ≡ single_of w → w ≡ wrapped t n
    → n ≡ number_of c → r ≡ conversion_of c t
converted_one c r t w n e f g h =
    f ∙ ap single_of (g ∙ ap (wrapped t) h) ∙ sym (ap
    (λ b. cond b (single_of (wrapped t (number_of c))) (conversion_of_more c t)) e)
