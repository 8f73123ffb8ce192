-- What the code of congruences needs.
use Rattle.std.proofs.Common.{◌≡◌, ℕ, ◌*◌, ◌^◌, ◌<◌, ◌≤◌, ℤ, pos, negsuc, ◌*ℤ◌, ◌≤ℤ◌, ◌<ℤ◌, Bool, true, false, cond}
use Rattle.ep_congruence_laws.proofs.Multiples.{eq_zero}
use Rattle.ep_int.proofs.Arithmetic.{le_fact}
use Rattle.ep_int.proofs.Basics.{of_z-injective}
use Rattle.std.proofs.lemmas.Bool.{le-leb, leb-true}
use Rattle.std.proofs.Common.{◌&&◌, ◌⊎◌, inl, inr, Option, Some, None, FitsSigned, of_z, nat_eq, nat_le, refl}
use Rattle.std.proofs.Common.{sym, ap, ◌∙◌, subst, arith}
use Rattle.std.specs.Prelude.{int_le, unsigned_abs, IfSome, IsSome}
use Rattle.std.specs.Option.{unwrap_or}
use Rattle.std.specs.Int.{w128}
use Rattle.std.proofs.lemmas.Int.{ints, fits_signed_mul}
use Rattle.std.proofs.Math.Nat.{mul-le-mul_left, mul-le-mul_right, mod-eq_of_lt}
use Rattle.std.proofs.lemmas.Bool.Decides.{nat_tests}
use Rattle.std.proofs.lemmas.Bool.{and_parts}
use Rattle.ep_int.specs.declared.types.IntType.{IntType}
use Rattle.ep_int.specs.declared.types.IntType.TheVariants.{I64}
use Rattle.ep_int.specs.declared.types.BinOp.{BinOp}
use Rattle.ep_int.specs.declared.types.BinOp.TheVariants.{Add, Sub, Mul, Div, Rem, And, Or, Xor, Shl, Shr}
use Rattle.ep_int.specs.Types.{least_of, greatest_of, residue, InRange}
use Rattle.ep_int.specs.Arith.{int_eq, is_amount, IsOfSomeType, IsRightOperand}
use Rattle.ep_range_laws.proofs.Types.{number_low, number_high, ends_ordered}
use Rattle.ep_range_laws.proofs.Comparisons.{from_le_false, le_antisym, le_trans}
use Rattle.ep_congruence_laws.specs.Multiples.{gcd}
use Rattle.ep_congruence_laws.specs.Classes.{Class, class, everything, one, is_one, is_class, reduced, edges_of}
use Rattle.ep_congruence_laws.specs.Classes.{cut_at, cut_of, greatest_modulus}
use Rattle.ep_congruence_laws.specs.Results.{greatest_product, kept_modulus, limited, are_small, multiples_of}
use Rattle.ep_congruence_laws.specs.Results.{past_limits, products, product_at, product_of, product_modulus}
use Rattle.ep_congruence_laws.specs.Results.{product_leaves, ends_of, shifted_of, results_of, left_operand}
use Rattle.ep_congruence_laws.specs.Results.{right_operand}
use Rattle.ep_congruence_laws.proofs.Classes.{nonzero_from, class_one, class_remainder, class_small}
use Rattle.ep_congruence_laws.proofs.Classes.{class_has, class_with, reduced_zero, reduced_more}
use Rattle.ep_congruence_laws.proofs.Operations.{In, Is, AreEdges, remainder_bounds}
use Rattle.ep_congruence_laws.proofs.Cuts.{IsCut, cut_is, cut_away, edges_within}
use Rattle.ep_congruence.specs.declared.congruence.Congruence.TheInside.{Inside}
use Rattle.ep_congruence_domain.specs.Congruence.{Congruence, formed, formed_at, common_divisor, amount_of, AreOfClass}
use Rattle.ep_congruence_domain.proofs.Formed.{formed_some, formed_keeps, same_class}

-- the fields of a congruence as its value
abbrev pub seen : Inside → Congruence
seen i = record { remainder = i.remainder; modulus = i.modulus; valid = i.valid }

-- greatest common divisors of the moduli of values that are shown
pub gcd_shown : {a b : Congruence} (n : ℕ) → a ≡ b → gcd a.modulus n ≡ gcd b.modulus n
gcd_shown n e = ap (λ (k : Congruence). gcd k.modulus n) e

pub gcd_both : {a b d k : Congruence} → a ≡ b → d ≡ k → gcd a.modulus d.modulus ≡ gcd b.modulus k.modulus
gcd_both {a = a} {b = b} {d = d} {k = k} e f = gcd_shown d.modulus e ∙ ap (λ (m : Congruence). gcd b.modulus m.modulus) f

pub least_number : (t : IntType) → IsOfSomeType (least_of t)
least_number t = record { low = number_low t; high = le_trans _ _ _ (ends_ordered t) (number_high t) }

pub greatest_number : (t : IntType) → IsOfSomeType (greatest_of t)
greatest_number t = record { low = le_trans _ _ _ (number_low t) (ends_ordered t); high = number_high t }

pub int_unequal : (a b : ℤ) → (a ≡ b → ⊥) → int_eq a b ≡ false
int_unequal a b n = at (int_eq a b) refl
  where
    at : (t : Bool) → int_eq a b ≡ t → t ≡ false
    at false e = refl
    at true e = let p = and_parts (int_le a b) (int_le b a) e in absurd (n (le_antisym a b (le_fact a b p.0) (le_fact b a p.1)))

-- the same number of 128 bits
pub same_number : (a b : ℤ) → FitsSigned w128 a → FitsSigned w128 b → (of_z w128 a ≡ of_z w128 b → ⊥) → a ≡ b → ⊥
same_number a b f g n e = n (ap (of_z w128) e)

pub ends_number : (o : Option (ℤ × ℤ)) (r d : ℤ × ℤ) → IfSome o (λ e. IsOfSomeType e.0 × IsOfSomeType e.1) → r ≡ unwrap_or o d → IsOfSomeType d.0 → IsOfSomeType d.1 → IsOfSomeType r.0 × IsOfSomeType r.1
ends_number None r d h e p q = (subst (λ (x : ℤ × ℤ). IsOfSomeType x.0) (sym e) p, subst (λ (x : ℤ × ℤ). IsOfSomeType x.1) (sym e) q)
ends_number (Some w) r d h e p q = (subst (λ (x : ℤ × ℤ). IsOfSomeType x.0) (sym e) h.0, subst (λ (x : ℤ × ℤ). IsOfSomeType x.1) (sym e) h.1)

pub edges_numbers : (k : Class) (lo hi : ℤ) → IfSome (edges_of k lo hi) (λ e. IsOfSomeType e.0 × IsOfSomeType e.1)
edges_numbers k lo hi = at (edges_of k lo hi) (edges_within k lo hi)
  where
    at : (o : Option (ℤ × ℤ)) → IfSome o (λ e. AreEdges k lo hi e × IsOfSomeType e.0 × IsOfSomeType e.1) → IfSome o (λ e. IsOfSomeType e.0 × IsOfSomeType e.1)
    at None h = tt
    at (Some e) h = (h.1, h.2)

-- a cut that is no single number
pub cut_itself : (k : Class) (lo hi f l : ℤ) → edges_of k lo hi ≡ Some (f, l) → (f ≡ l → ⊥) → ◌≡◌ {A = Option Class} (Some k) (cut_of k lo hi)
cut_itself k lo hi f l e n = sym (ap (cut_at k) e ∙ ap (λ b. Some (cond b (one f) k)) (int_unequal f l n))

bounds_fit : (r : ℤ) → least_of I64 ≤ℤ r → r ≤ℤ pos greatest_modulus → FitsSigned w128 r
bounds_fit (pos n) p q = record { sfits = omega (arith, ints) }
bounds_fit (negsuc n) p q = record { sfits = omega (arith, ints) }

pub remainder_fits : (c : Congruence) → FitsSigned w128 c.remainder
remainder_fits c = let b = remainder_bounds c.remainder c.modulus c.valid in bounds_fit c.remainder b.0 b.1

-- ---- results

pub results_code : (t : IntType) (r : Option Congruence) (z y : ℤ) (m k g h : ℕ) (l p : Bool) → r ≡ formed (reduced z m) → z ≡ y → m ≡ limited k → k ≡ kept_modulus t l g → g ≡ h → l ≡ p → r ≡ formed (reduced y (limited (kept_modulus t p h)))
results_code t r z y m k g h l p d e f i j n = d ∙ ap (λ x. formed (reduced x m)) e ∙ ap (λ (w : ℕ). formed (reduced y w)) (f ∙ ap limited (i ∙ ap (kept_modulus t l) j ∙ ap (λ b. kept_modulus t b h) n))

pub past_left : (t : IntType) (a b : Class) → is_one a ≡ true → past_limits t a b ≡ multiples_of t a.remainder
past_left t a b e = ap (λ s. cond s (multiples_of t a.remainder) (cond (is_one b) (multiples_of t b.remainder) everything)) e

pub past_right : (t : IntType) (a b : Class) → is_one a ≡ false → is_one b ≡ true → past_limits t a b ≡ multiples_of t b.remainder
past_right t a b e f = ap (λ s. cond s (multiples_of t a.remainder) (cond (is_one b) (multiples_of t b.remainder) everything)) e ∙ ap (λ s. cond s (multiples_of t b.remainder) everything) f

pub past_both : (t : IntType) (a b : Class) → is_one a ≡ false → is_one b ≡ false → past_limits t a b ≡ everything
past_both t a b e f = ap (λ s. cond s (multiples_of t a.remainder) (cond (is_one b) (multiples_of t b.remainder) everything)) e ∙ ap (λ s. cond s (multiples_of t b.remainder) everything) f

-- ---- numbers that a cut leaves

pub cut_in : (k d : Class) (lo hi : ℤ) → cut_of k lo hi ≡ Some d → d.modulus ≡ 0 → (lo ≤ℤ d.remainder) × (d.remainder ≤ℤ hi)
cut_in k d lo hi e m = by (subst (λ o. IfSome o (IsCut k lo hi)) e (cut_is k lo hi)).inside
  where
    of_one : (d : Class) (v : ℤ) → d ≡ one v → (lo ≤ℤ v) × (v ≤ℤ hi) → (lo ≤ℤ d.remainder) × (d.remainder ≤ℤ hi)
    of_one d v f h = subst (λ (c : Class). (lo ≤ℤ c.remainder) × (c.remainder ≤ℤ hi)) (sym f) h

    same_one : (d : Class) → d.modulus ≡ 0 → d ≡ one d.remainder
    same_one d e = ap (class d.remainder) e

    nothing : (v : ℤ) → cut_of (one v) lo hi ≡ Some d → (v <ℤ lo) ⊎ (hi <ℤ v) → ⊥
    nothing v f o = not_some d (sym (cut_away v lo hi o) ∙ f)
      where
        not_some : (d : Class) → ◌≡◌ {A = Option Class} None (Some d) → ⊥
        not_some d e = absurd cc

    within : (v : ℤ) → cut_of (one v) lo hi ≡ Some d → (lo ≤ℤ v) × (v ≤ℤ hi)
    within v f = (low (int_le lo v) refl, high (int_le v hi) refl)
      where
        low : (t : Bool) → int_le lo v ≡ t → lo ≤ℤ v
        low true g = le_fact lo v g
        low false g = absurd (nothing v f (inl (from_le_false lo v g)))

        high : (t : Bool) → int_le v hi ≡ t → v ≤ℤ hi
        high true g = le_fact v hi g
        high false g = absurd (nothing v f (inr (from_le_false v hi g)))

    by : (d ≡ k) ⊎ ((v : ℤ) × (d ≡ one v) × IsOfSomeType v × In k v × (lo ≤ℤ v) × (v ≤ℤ hi)) → (lo ≤ℤ d.remainder) × (d.remainder ≤ℤ hi)
    by (inl f) = within d.remainder (subst (λ c. cut_of c lo hi ≡ Some d) (sym f ∙ same_one d m) e)
    by (inr w) = of_one d w.0 w.1 (w.4, w.5)

-- ---- products

product_small : (r s : ℤ) → unsigned_abs r * unsigned_abs s ≤ greatest_product → FitsSigned w128 (r *ℤ s)
product_small r s h = fits_signed_mul w128 r s (unsigned_abs r) (unsigned_abs s) (omega arith) (omega arith) (omega arith)

below_size : (r : ℤ) (m : ℕ) → pos 0 ≤ℤ r → r <ℤ pos m → unsigned_abs r ≤ m
below_size (pos n) m p q = omega (arith, ints)
below_size (negsuc n) m p q = absurd (omega (arith, ints))

-- Remainders have a product of 128 bits where the products of the modulus are small and not both are single numbers.
pub remainders_fit : (a b : Class) → Is a → Is b → (is_one a && is_one b) ≡ false → unsigned_abs a.remainder * b.modulus ≤ greatest_product → a.modulus * unsigned_abs b.remainder ≤ greatest_product → FitsSigned w128 (a.remainder *ℤ b.remainder)
remainders_fit a b p q n l r = at (nat_eq a.modulus 0) (nat_eq b.modulus 0) refl refl
  where
    by_right : 0 < b.modulus → FitsSigned w128 (a.remainder *ℤ b.remainder)
    by_right h =
        let w = class_remainder b.remainder b.modulus q h in
        let g = mul-le-mul_left (unsigned_abs a.remainder) (below_size b.remainder b.modulus w.0 w.1) in
        product_small a.remainder b.remainder (omega arith)

    by_left : 0 < a.modulus → FitsSigned w128 (a.remainder *ℤ b.remainder)
    by_left h =
        let w = class_remainder a.remainder a.modulus p h in
        let g = mul-le-mul_right (unsigned_abs b.remainder) (below_size a.remainder a.modulus w.0 w.1) in
        product_small a.remainder b.remainder (omega arith)

    at : (s t : Bool) → nat_eq a.modulus 0 ≡ s → nat_eq b.modulus 0 ≡ t → FitsSigned w128 (a.remainder *ℤ b.remainder)
    at false t e f = by_left (nonzero_from a.modulus e)
    at true false e f = by_right (nonzero_from b.modulus f)
    at true true e f = absurd (both (nat_eq a.modulus 0) (nat_eq b.modulus 0) e f n)
      where
        both : (s t : Bool) → s ≡ true → t ≡ true → (s && t) ≡ false → ⊥
        both s t e f n = absurd (grind arith)

pub small_from : (p : ℕ × ℕ × ℕ) (d : ℕ) → common_divisor p ≡ Some d → (are_small p ≡ true) × (d ≡ gcd (gcd p.0 p.1) p.2)
small_from p d e = at (are_small p) refl e
  where
    at : (t : Bool) → are_small p ≡ t → cond t (Some (gcd (gcd p.0 p.1) p.2)) None ≡ Some d → (are_small p ≡ true) × (d ≡ gcd (gcd p.0 p.1) p.2)
    at true f g = (f, cc)
    at false f g = absurd cc

pub great_from : (p : ℕ × ℕ × ℕ) → common_divisor p ≡ None → are_small p ≡ false
great_from p e = at (are_small p) refl e
  where
    at : (t : Bool) → are_small p ≡ t → cond t (Some (gcd (gcd p.0 p.1) p.2)) None ≡ None → are_small p ≡ false
    at true f g = absurd cc
    at false f g = f

pub products_fit : (a b : Class) (d : ℕ) → Is a → Is b → (is_one a && is_one b) ≡ false → common_divisor (products a b) ≡ Some d → FitsSigned w128 (a.remainder *ℤ b.remainder)
products_fit a b d p q n e =
    let w = (and_parts (nat_le (products a b).0 greatest_product) (nat_le (products a b).1 greatest_product && nat_le (products a b).2 greatest_product) (small_from (products a b) d e).0).1 in
    let v = and_parts (nat_le (products a b).1 greatest_product) (nat_le (products a b).2 greatest_product) w in
    remainders_fit a b p q n (leb-true (unsigned_abs a.remainder * b.modulus) greatest_product v.1) (leb-true (a.modulus * unsigned_abs b.remainder) greatest_product v.0)

pub at_small : (t : IntType) (a b : Class) (m : ℕ) → m ≤ greatest_modulus → product_at t a b m ≡ reduced (a.remainder *ℤ b.remainder) m
at_small t a b m h = ap (λ s. cond s (reduced (a.remainder *ℤ b.remainder) m) (past_limits t a b)) (le-leb m greatest_modulus h)

pub at_great : (t : IntType) (a b : Class) (m : ℕ) → greatest_modulus < m → product_at t a b m ≡ past_limits t a b
at_great t a b m h = ap (λ s. cond s (reduced (a.remainder *ℤ b.remainder) m) (past_limits t a b)) (fails m greatest_modulus h)
  where
    fails : (m n : ℕ) → n < m → nat_le m n ≡ false
    fails m n h = grind (arith, nat_tests)

pub product_code : (t : IntType) (a b : Class) (r : Option Congruence) (m d : ℕ) (l : Bool) → common_divisor (products a b) ≡ Some d → r ≡ formed (product_at t a b m) → m ≡ kept_modulus t l d → l ≡ product_leaves t (ends_of t a) (ends_of t b) → r ≡ formed (product_of t a b)
product_code t a b r m d l e f g h =
    let s = small_from (products a b) d e in
    f ∙ ap (λ (n : ℕ). formed (product_at t a b n)) (g ∙ ap (λ c. kept_modulus t c d) h ∙ ap (kept_modulus t (product_leaves t (ends_of t a) (ends_of t b))) s.1)
    ∙ sym (ap formed (ap (λ c. cond c (product_at t a b (product_modulus t a b)) (past_limits t a b)) s.0))

pub past_code : (t : IntType) (a b : Class) (r : Option Congruence) → common_divisor (products a b) ≡ None → r ≡ formed (past_limits t a b) → r ≡ formed (product_of t a b)
past_code t a b r e f = f ∙ sym (ap formed (ap (λ c. cond c (product_at t a b (product_modulus t a b)) (past_limits t a b)) (great_from (products a b) e)))

-- ---- shifts

pub amount_from : (t : IntType) (k : Class) (n : ℕ) → amount_of t k ≡ Some n → ((is_one k && is_amount t k.remainder) ≡ true) × (n ≡ unsigned_abs k.remainder)
amount_from t k n e = at (is_one k && is_amount t k.remainder) refl e
  where
    at : (c : Bool) → (is_one k && is_amount t k.remainder) ≡ c → cond c (Some (unsigned_abs k.remainder)) None ≡ Some n → ((is_one k && is_amount t k.remainder) ≡ true) × (n ≡ unsigned_abs k.remainder)
    at true f g = (f, cc)
    at false f g = absurd cc

pub no_amount : (t : IntType) (k : Class) → amount_of t k ≡ None → (is_one k && is_amount t k.remainder) ≡ false
no_amount t k e = at (is_one k && is_amount t k.remainder) refl e
  where
    at : (c : Bool) → (is_one k && is_amount t k.remainder) ≡ c → cond c (Some (unsigned_abs k.remainder)) None ≡ None → (is_one k && is_amount t k.remainder) ≡ false
    at true f g = absurd cc
    at false f g = f

shifted_is : (t : IntType) (a b : Class) (c : Bool) → (is_one b && is_amount t b.remainder) ≡ c → shifted_of t a b ≡ cond c (product_of t a (one (pos (2 ^ unsigned_abs b.remainder)))) everything
shifted_is t a b c e = ap (λ s. cond s (product_of t a (one (pos (2 ^ unsigned_abs b.remainder)))) everything) e

pub shifted_code : (t : IntType) (a b k : Class) (r : Option Congruence) (n : ℕ) (z : ℤ) → amount_of t b ≡ Some n → r ≡ formed (product_of t a k) → k ≡ one z → z ≡ pos (2 ^ n) → r ≡ formed (shifted_of t a b)
shifted_code t a b k r n z e f g h =
    let s = amount_from t b n e in
    f ∙ ap (λ c. formed (product_of t a c)) (g ∙ ap one (h ∙ ap (λ (m : ℕ). pos (2 ^ m)) s.1)) ∙ sym (ap formed (shifted_is t a b true s.0))

pub unshifted_code : (t : IntType) (a b : Class) (r : Option Congruence) → amount_of t b ≡ None → r ≡ formed everything → r ≡ formed (shifted_of t a b)
unshifted_code t a b r e f = f ∙ sym (ap formed (shifted_is t a b false (no_amount t b e)))

-- ---- operands and results

pub one_number : (d : Class) → Is d → d.modulus ≡ 0 → IsOfSomeType d.remainder
one_number d p e = class_one d.remainder (subst (λ (m : ℕ). is_class d.remainder m ≡ true) e p)

pub left_taken : (t : IntType) (k d : Class) → left_operand t k ≡ Some d → d.modulus ≡ 0 → InRange t d.remainder
left_taken t k d e m = let i = cut_in k d (least_of t) (greatest_of t) e m in record { low = i.0; high = i.1 }

pub right_taken : (o : BinOp) (t : IntType) (k d : Class) → Is d → right_operand o t k ≡ Some d → d.modulus ≡ 0 → IsRightOperand o t d.remainder
right_taken Add t k d p e m = left_taken t k d e m
right_taken Sub t k d p e m = left_taken t k d e m
right_taken Mul t k d p e m = left_taken t k d e m
right_taken Div t k d p e m = left_taken t k d e m
right_taken Rem t k d p e m = left_taken t k d e m
right_taken And t k d p e m = left_taken t k d e m
right_taken Or t k d p e m = left_taken t k d e m
right_taken Xor t k d p e m = left_taken t k d e m
right_taken Shl t k d p e m = one_number d p m
right_taken Shr t k d p e m = one_number d p m

-- ---- classes of a remainder and a modulus

formed_class : (k : Class) → IsSome (formed k) → Is k
formed_class k h = at (is_class k.remainder k.modulus) refl h
  where
    at : (c : Bool) (e : is_class k.remainder k.modulus ≡ c) → IsSome (formed_at k c e) → Is k
    at true e h = e
    at false e h = absurd cc

itself_reduced : (r : ℤ) (m : ℕ) → (pos 0 <ℤ pos m → (pos 0 ≤ℤ r) × (r <ℤ pos m)) → reduced r m ≡ class r m
itself_reduced r m h = at (nat_eq m 0) refl
  where
    back : (r : ℤ) (m : ℕ) → pos 0 ≤ℤ r → r <ℤ pos m → pos (residue m r) ≡ r
    back (pos n) m p q = let l : n < m = omega (arith, ints) in ap pos (mod-eq_of_lt l)
    back (negsuc n) m p q = absurd (omega (arith, ints))

    more : (m : ℕ) → 0 < m → pos 0 <ℤ pos m
    more m l = omega (arith, ints)

    at : (c : Bool) → nat_eq m 0 ≡ c → reduced r m ≡ class r m
    at true e = reduced_zero r m e ∙ ap (class r) (sym (eq_zero m e))
    at false e = let b = h (more m (nonzero_from m e)) in reduced_more r m e ∙ ap (λ z. class z m) (back r m b.0 b.1)

class_given : (r : ℤ) (m : ℕ) → Is (class r m) → AreOfClass r (pos m)
class_given r m p = record {
  low = omega (arith, ints);
  high = let l = class_small r m p in omega (arith, ints);
  below = λ h. class_remainder r m p (less m h);
  number = class_has r m p;
}
  where
    less : (m : ℕ) → pos 0 <ℤ pos m → 0 < m
    less m h = omega (arith, ints)

given_class : (r : ℤ) (m : ℕ) → AreOfClass r (pos m) → Is (class r m)
given_class r m h = subst Is (itself_reduced r m h.below) (class_with r h.number.0 m (small m h.high) h.number.1 h.number.2)
  where
    small : (m : ℕ) → pos m ≤ℤ pos greatest_modulus → m ≤ greatest_modulus
    small m l = omega (arith, ints)

pub of_code : (r m : ℤ) (n : ℕ) (o : Option Congruence) → pos 0 ≤ℤ m → n ≡ unsigned_abs m → o ≡ formed (class r n) → (IsSome o → AreOfClass r m) × (AreOfClass r m → IsSome o)
of_code r (negsuc k) n o p e f = absurd (omega (arith, ints))
of_code r (pos k) n o p e f =
    let g : o ≡ formed (class r k) = f ∙ ap (λ (m : ℕ). formed (class r m)) e in
    (λ s. class_given r k (formed_class (class r k) (subst IsSome g s)), λ s. subst IsSome (sym (g ∙ formed_some (class r k) (given_class r k s))) refl)

pub of_parts : (r m : ℤ) (n : ℕ) (o : Option Congruence) → pos 0 ≤ℤ m → n ≡ unsigned_abs m → o ≡ formed (class r n) → IfSome o (λ c. (c.remainder ≡ r) × (pos c.modulus ≡ m))
of_parts r (negsuc k) n o p e f = absurd (omega (arith, ints))
of_parts r (pos k) n o p e f =
    subst (λ o. IfSome o (λ c. (c.remainder ≡ r) × (pos c.modulus ≡ pos k))) (sym (f ∙ ap (λ (m : ℕ). formed (class r m)) e))
    (formed_keeps (λ d. (d.remainder ≡ r) × (pos d.modulus ≡ pos k)) (class r k) (refl, refl))

pub others : (o : BinOp) (t : IntType) (a b : Class) → ((o ≡ Div) ⊎ ((o ≡ Rem) ⊎ ((o ≡ And) ⊎ ((o ≡ Or) ⊎ ((o ≡ Xor) ⊎ (o ≡ Shr)))))) → results_of o t a b ≡ everything
others o t a b (inl e) = ap (λ p. results_of p t a b) e
others o t a b (inr (inl e)) = ap (λ p. results_of p t a b) e
others o t a b (inr (inr (inl e))) = ap (λ p. results_of p t a b) e
others o t a b (inr (inr (inr (inl e)))) = ap (λ p. results_of p t a b) e
others o t a b (inr (inr (inr (inr (inl e))))) = ap (λ p. results_of p t a b) e
others o t a b (inr (inr (inr (inr (inr e))))) = ap (λ p. results_of p t a b) e

-- ---- two congruences that are one value

pub same_congruence : (a b : Congruence) → of_z w128 a.remainder ≡ of_z w128 b.remainder → a.modulus ≡ b.modulus → a ≡ b
same_congruence a b e f =
    let q : a.remainder ≡ b.remainder = of_z-injective a.remainder b.remainder (remainder_fits a) (remainder_fits b) e in
    same_class a b (ap (λ r. class r a.modulus) q ∙ ap (class b.remainder) f)
