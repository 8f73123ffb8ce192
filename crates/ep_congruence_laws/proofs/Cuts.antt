-- Laws of cuts, conversions, meets and strides.
use Prim.Native.Nat.{◌∣◌}
use Rattle.ep_congruence_laws.proofs.Multiples.{eq_zero, zero_eq}
use Rattle.ep_int.proofs.Arithmetic.{in_range_some_type}
use Rattle.std.proofs.Common.{◌≡◌, ℕ, ◌*◌, ◌%◌, ◌^◌, ◌<◌, ◌≤◌, ℤ, pos, ◌+ℤ◌, ◌-ℤ◌, ◌*ℤ◌, ◌≤ℤ◌, ◌<ℤ◌, Bool, true}
use Rattle.std.proofs.Common.{false, cond, ◌⊎◌, inl, inr, Option, Some, None, nat_eq, nat_le, arith, refl, sym, ap}
use Rattle.std.proofs.Common.{◌∙◌, subst}
use Rattle.std.specs.Prelude.{IfSome, IsSomeAnd}
use Rattle.std.specs.Int.{int_min, int_max}
use Rattle.std.proofs.lemmas.Int.{ints, clamps}
use Rattle.std.proofs.lemmas.Nat.{pow_pos}
use Rattle.std.proofs.Math.Nat.{dvd-mul_right}
use Rattle.std.proofs.lemmas.Nat.Gcd.{dvd_trans, le_of_dvd, dvd_of_mod-eq-zero, mod-eq-zero_of_dvd}
use Rattle.std.proofs.lemmas.Bool.{and_parts, and_from}
use Rattle.std.proofs.lemmas.Bool.Decides.{nat_tests}
use Rattle.ep_int.specs.declared.types.IntType.{IntType}
use Rattle.ep_int.specs.declared.types.IntType.TheVariants.{I8, U8, I16, U16, I32, U32, I64, U64}
use Rattle.ep_int.specs.Types.{bits_of, least_of, greatest_of, residue, wrapped}
use Rattle.ep_int.specs.Arith.{int_eq, IsOfSomeType}
use Rattle.ep_int.proofs.Wrapping.{wrapped_congruent, wrapped_in_range}
use Rattle.ep_range_laws.specs.Ranges.{LiesIn}
use Rattle.ep_domain.specs.Laws.Shared.{eq_true, from_eq}
use Rattle.ep_range_laws.proofs.Comparisons.{le_trans}
use Rattle.ep_congruence_laws.specs.Multiples.{IsMultiple, is_multiple, gcd}
use Rattle.ep_congruence_laws.specs.Classes.{Class, class, one, greatest_modulus, reduced, distance, edges_of, cut_at}
use Rattle.ep_congruence_laws.specs.Classes.{cut_of, conversion_of, meeting, meet_of, has_stride}
use Rattle.ep_congruence_laws.proofs.Multiples.{multiple_of, none_of, test_multiple, multiple_test}
use Rattle.ep_congruence_laws.proofs.Classes.{nonzero_from, residue_multiple, residue_same}
use Rattle.ep_congruence_laws.proofs.Classes.{chain, turn, in_reduced, reduced_modulus, class_with, class_has}
use Rattle.ep_congruence_laws.proofs.Operations.{In, Is, gcd_left, gcd_right, gcd_small, one_member, AreEdges}
use Rattle.ep_congruence_laws.proofs.Operations.{edges_are, edges_enclose}

pub itself_in : (r : ℤ) (m : ℕ) → IsMultiple m (r -ℤ r)
itself_in r m = subst (IsMultiple m) (sym (nothing r)) (none_of m)
  where
    nothing : (r : ℤ) → r -ℤ r ≡ pos 0
    nothing r = omega (arith, ints)

-- ---- edges between two ends

pub edges_hold : (c : Class) (lo hi z : ℤ) → IsOfSomeType z → In c z → lo ≤ℤ z → z ≤ℤ hi → IsSomeAnd (edges_of c lo hi) (λ e. LiesIn e z)
edges_hold c lo hi z i h p q =
    let l = i.low in let u = i.high in
    edges_enclose c (int_max lo (least_of I64)) (int_min hi (greatest_of U64)) z h (omega (arith, ints, clamps)) (omega (arith, ints, clamps))

pub edges_within : (c : Class) (lo hi : ℤ) → IfSome (edges_of c lo hi) (λ e. AreEdges c lo hi e × IsOfSomeType e.0 × IsOfSomeType e.1)
edges_within c lo hi = at _ (edges_are c (int_max lo (least_of I64)) (int_min hi (greatest_of U64)))
  where
    at : (o : Option (ℤ × ℤ)) → IfSome o (AreEdges c (int_max lo (least_of I64)) (int_min hi (greatest_of U64))) → IfSome o (λ e. AreEdges c lo hi e × IsOfSomeType e.0 × IsOfSomeType e.1)
    at None h = tt
    at (Some e) h =
        let o = h.ordered in let p = h.inside.low in let q = h.inside.high in (
          record { ordered = o; inside = record { low = omega (arith, ints, clamps); high = omega (arith, ints, clamps) }; first = h.first; last = h.last },
          record { low = omega (arith, ints, clamps); high = omega (arith, ints, clamps) },
          record { low = omega (arith, ints, clamps); high = omega (arith, ints, clamps) },
        )

-- ---- cuts

-- the value of a cut is itself, or the one member of the part
pub record IsCut (c : Class) (lo hi : ℤ) (d : Class) : Type 0 where
  pub holds : (z : ℤ) → IsOfSomeType z → In c z → lo ≤ℤ z → z ≤ℤ hi → In d z
  pub valid : Is c → Is d
  pub inside : (d ≡ c) ⊎ ((v : ℤ) × (d ≡ one v) × IsOfSomeType v × In c v × (lo ≤ℤ v) × (v ≤ℤ hi))
  pub place : lo ≡ hi → d ≡ one lo

pub one_class : (v : ℤ) → IsOfSomeType v → Is (one v)
one_class v i = class_with v v 0 (omega arith) i (itself_in v 0)

pub cut_is : (c : Class) (lo hi : ℤ) → IfSome (cut_of c lo hi) (IsCut c lo hi)
cut_is c lo hi = at (edges_of c lo hi) (edges_within c lo hi) (λ z i h p q. edges_hold c lo hi z i h p q)
  where
    same : (a b z : ℤ) → a ≡ b → a ≤ℤ z → z ≤ℤ b → z ≡ a
    same a b z e p q = omega (arith, ints)

    at_place : (lo hi a b : ℤ) → lo ≡ hi → lo ≤ℤ a → a ≤ℤ b → b ≤ℤ hi → a ≡ lo
    at_place lo hi a b e p q r = omega (arith, ints)

    ends_place : (lo hi a b : ℤ) → lo ≡ hi → lo ≤ℤ a → a ≤ℤ b → b ≤ℤ hi → a ≡ b
    ends_place lo hi a b e p q r = omega (arith, ints)

    at_test : (e : ℤ × ℤ) → AreEdges c lo hi e × IsOfSomeType e.0 × IsOfSomeType e.1 → ((z : ℤ) → IsOfSomeType z → In c z → lo ≤ℤ z → z ≤ℤ hi → LiesIn e z) →
        (t : Bool) → int_eq e.0 e.1 ≡ t → IsCut c lo hi (cond t (one e.0) c)
    at_test e h k true f =
        record {
          holds = λ z i n p q. let l = k z i n p q in subst (λ x. IsMultiple 0 (x -ℤ e.0)) (sym (same e.0 e.1 z (from_eq e.0 e.1 f) l.low l.high)) (itself_in e.0 0);
          valid = λ v. one_class e.0 h.1;
          inside = inr (e.0, refl, h.1, h.0.first, h.0.inside.low, le_trans _ _ _ h.0.ordered h.0.inside.high);
          place = λ d. ap one (at_place lo hi e.0 e.1 d h.0.inside.low h.0.ordered h.0.inside.high);
        }
    at_test e h k false f =
        record {
          holds = λ z i n p q. n;
          valid = λ v. v;
          inside = inl refl;
          place = λ d. absurd (not_both _ (eq_true e.0 e.1 (ends_place lo hi e.0 e.1 d h.0.inside.low h.0.ordered h.0.inside.high)) f);
        }
      where
        not_both : (t : Bool) → t ≡ true → t ≡ false → ⊥
        not_both t p q = cc

    at : (o : Option (ℤ × ℤ)) → IfSome o (λ e. AreEdges c lo hi e × IsOfSomeType e.0 × IsOfSomeType e.1) → ((z : ℤ) → IsOfSomeType z → In c z → lo ≤ℤ z → z ≤ℤ hi → IsSomeAnd o (λ e. LiesIn e z)) →
        IfSome (cut_at c o) (IsCut c lo hi)
    at None h k = tt
    at (Some e) h k = at_test e h k (int_eq e.0 e.1) refl

pub cut_holds : (c : Class) (lo hi z : ℤ) → IsOfSomeType z → In c z → lo ≤ℤ z → z ≤ℤ hi → IsSomeAnd (cut_of c lo hi) (λ d. In d z)
cut_holds c lo hi z i h p q = at (edges_of c lo hi) (edges_hold c lo hi z i h p q) (cut_is c lo hi)
  where
    at : (o : Option (ℤ × ℤ)) → IsSomeAnd o (λ e. LiesIn e z) → IfSome (cut_at c o) (IsCut c lo hi) → IsSomeAnd (cut_at c o) (λ d. In d z)
    at None k n = absurd k
    at (Some e) k n = n.holds z i h p q

-- a part with no member of one number leaves nothing
pub cut_away : (v lo hi : ℤ) → (v <ℤ lo) ⊎ (hi <ℤ v) → cut_of (one v) lo hi ≡ None
cut_away v lo hi h = at (edges_of (one v) lo hi) (edges_within (one v) lo hi)
  where
    out : (lo hi x y : ℤ) → (v <ℤ lo) ⊎ (hi <ℤ v) → x ≡ v → lo ≤ℤ x → x ≤ℤ y → y ≤ℤ hi → ⊥
    out lo hi x y (inl h) e p q r = omega (arith, ints)
    out lo hi x y (inr h) e p q r = omega (arith, ints)

    at : (o : Option (ℤ × ℤ)) → IfSome o (λ e. AreEdges (one v) lo hi e × IsOfSomeType e.0 × IsOfSomeType e.1) → cut_at (one v) o ≡ None
    at None k = refl
    at (Some e) k = absurd (out lo hi e.0 e.1 h (one_member (one v) e.0 refl k.0.first) k.0.inside.low k.0.ordered k.0.inside.high)

-- ---- conversion

pub wrapped_apart : (t : IntType) (z : ℤ) → IsMultiple (2 ^ bits_of t) (z -ℤ wrapped t z)
wrapped_apart t z = let c = wrapped_congruent t z in (c.0, last z (wrapped t z) (c.0 *ℤ pos (2 ^ bits_of t)) c.1)
  where
    last : (z w x : ℤ) → z ≡ w +ℤ x → z -ℤ w ≡ x
    last z w x e = omega (arith, ints)

width_small : (t : IntType) → 2 ^ bits_of t ≤ greatest_modulus
width_small I8 = omega arith
width_small U8 = omega arith
width_small I16 = omega arith
width_small U16 = omega arith
width_small I32 = omega arith
width_small U32 = omega arith
width_small I64 = omega arith
width_small U64 = omega arith

pub turn_small : (t : IntType) (m : ℕ) → gcd m (2 ^ bits_of t) ≤ greatest_modulus
turn_small t m = let h = le_of_dvd (pow_pos (bits_of t)) (gcd_right m (2 ^ bits_of t)) in let k = width_small t in omega arith

pub conversion_holds : (c : Class) (t : IntType) (z : ℤ) → In c z → In (conversion_of c t) (wrapped t z)
conversion_holds c t z h = at (nat_eq c.modulus 0) refl
  where
    at : (b : Bool) → nat_eq c.modulus 0 ≡ b → In (cond b (one (wrapped t c.remainder)) (reduced c.remainder (gcd c.modulus (2 ^ bits_of t)))) (wrapped t z)
    at true e = subst (λ x. IsMultiple 0 (wrapped t x -ℤ wrapped t c.remainder)) (sym (one_member c z (eq_zero c.modulus e) h)) (itself_in (wrapped t c.remainder) 0)
    at false e =
        let g = gcd c.modulus (2 ^ bits_of t) in
        in_reduced c.remainder (wrapped t z) g
        (chain g (wrapped t z) z c.remainder (turn g z (wrapped t z) (multiple_of g (2 ^ bits_of t) _ (gcd_right c.modulus (2 ^ bits_of t)) (wrapped_apart t z))) (multiple_of g c.modulus _ (gcd_left c.modulus (2 ^ bits_of t)) h))

pub conversion_class : (c : Class) (t : IntType) → Is c → Is (conversion_of c t)
conversion_class c t h = at (nat_eq c.modulus 0)
  where
    at : (b : Bool) → Is (cond b (one (wrapped t c.remainder)) (reduced c.remainder (gcd c.modulus (2 ^ bits_of t))))
    at true = one_class (wrapped t c.remainder) (in_range_some_type t _ (wrapped_in_range t c.remainder))
    at false =
        let m = class_has c.remainder c.modulus h in
        class_with c.remainder m.0 (gcd c.modulus (2 ^ bits_of t)) (turn_small t c.modulus) m.1 (multiple_of _ c.modulus _ (gcd_left c.modulus (2 ^ bits_of t)) m.2)

pub conversion_one : (c : Class) (t : IntType) (v : ℤ) → c.modulus ≡ 0 → c.remainder ≡ v → conversion_of c t ≡ one (wrapped t v)
conversion_one c t v e f = ap (λ b. cond b (one (wrapped t c.remainder)) (reduced c.remainder (gcd c.modulus (2 ^ bits_of t)))) (zero_eq c.modulus e) ∙ ap (λ x. one (wrapped t x)) f

-- ---- meets

pub meeting_is : (a b : Class) → (meeting a b ≡ a) ⊎ (meeting a b ≡ b)
meeting_is a b = at (nat_eq a.modulus 0) (nat_eq b.modulus 0) (nat_le b.modulus a.modulus)
  where
    at : (s t u : Bool) → (cond s a (cond t b (cond u a b)) ≡ a) ⊎ (cond s a (cond t b (cond u a b)) ≡ b)
    at true t u = inl refl
    at false true u = inr refl
    at false false true = inl refl
    at false false false = inr refl

pub meet_holds : (a b : Class) (z : ℤ) → In a z → In b z → IsSomeAnd (meet_of a b) (λ c. (c ≡ meeting a b) × In c z)
meet_holds a b z h k = at (is_multiple g (distance a b)) (multiple_test g (distance a b) apart)
  where
    g : ℕ
    g = gcd a.modulus b.modulus

    apart : IsMultiple g (distance a b)
    apart = chain g a.remainder z b.remainder (turn g z a.remainder (multiple_of g a.modulus _ (gcd_left a.modulus b.modulus) h)) (multiple_of g b.modulus _ (gcd_right a.modulus b.modulus) k)

    of_case : (c : Class) → (c ≡ a) ⊎ (c ≡ b) → In c z
    of_case c (inl e) = subst (λ d. In d z) (sym e) h
    of_case c (inr e) = subst (λ d. In d z) (sym e) k

    at : (t : Bool) → t ≡ true → IsSomeAnd (cond t (Some (meeting a b)) None) (λ c. (c ≡ meeting a b) × In c z)
    at true e = (refl, of_case (meeting a b) (meeting_is a b))
    at false e = absurd cc

-- two numbers that differ have no meet
pub meet_none : (a b : Class) → a.modulus ≡ 0 → b.modulus ≡ 0 → int_eq a.remainder b.remainder ≡ false → meet_of a b ≡ None
meet_none a b e f n = at (is_multiple (gcd a.modulus b.modulus) (distance a b)) refl
  where
    zero : gcd a.modulus b.modulus ≡ 0
    zero = last _ (gcd_small a.modulus b.modulus 0 (omega arith) (omega arith))
      where
        last : (n : ℕ) → n ≤ 0 → n ≡ 0
        last n h = omega arith

    equal : IsMultiple (gcd a.modulus b.modulus) (distance a b) → a.remainder ≡ b.remainder
    equal h = one_member (class b.remainder 0) a.remainder refl (subst (λ m. IsMultiple m (distance a b)) zero h)

    not_both : (t : Bool) → t ≡ true → t ≡ false → ⊥
    not_both t p q = cc

    at : (t : Bool) → is_multiple (gcd a.modulus b.modulus) (distance a b) ≡ t → cond t (Some (meeting a b)) None ≡ None
    at true h = absurd (not_both _ (eq_true a.remainder b.remainder (equal (test_multiple (gcd a.modulus b.modulus) (distance a b) h))) n)
    at false h = refl

-- ---- strides

pub record HasStride (c : Class) (r s : ℕ) : Type 0 where
  pub divides : s ∣ c.modulus
  pub remainder : residue s c.remainder ≡ r

pub stride_from : (c : Class) (r s : ℕ) → has_stride c r s ≡ true → HasStride c r s
stride_from c r s h =
    let p = and_parts (nat_eq (c.modulus % s) 0) (nat_eq (residue s c.remainder) r) h in
    record { divides = dvd_of_mod-eq-zero s (eq_zero _ p.0); remainder = equal _ _ p.1 }
  where
    equal : (a b : ℕ) → nat_eq a b ≡ true → a ≡ b
    equal a b e = grind (arith, nat_tests)

pub stride_test : (c : Class) (r s : ℕ) → HasStride c r s → has_stride c r s ≡ true
stride_test c r s h = and_from _ _ (zero_eq _ (mod-eq-zero_of_dvd s h.divides)) (equal _ _ h.remainder)
  where
    equal : (a b : ℕ) → a ≡ b → nat_eq a b ≡ true
    equal a b e = grind (arith, nat_tests)

pub stride_holds : (c : Class) (r s : ℕ) (z : ℤ) → 0 < s → HasStride c r s → In c z → residue s z ≡ r
stride_holds c r s z p h k = residue_same s z c.remainder p (multiple_of s c.modulus _ h.divides k) ∙ h.remainder

-- a class with a member of the stride, and a modulus that it divides
pub stride_of : (r z : ℤ) (m q s : ℕ) → 0 < s → s ∣ m → IsMultiple s (r -ℤ z) → residue s z ≡ q → HasStride (reduced r m) q s
stride_of r z m q s p d h e = record {
  divides = subst (λ n. s ∣ n) (sym (reduced_modulus r m)) d;
  remainder = at (nat_eq m 0) refl ∙ residue_same s r z p h ∙ e;
}
  where
    at : (t : Bool) → nat_eq m 0 ≡ t → residue s (cond t (one r) (class (pos (residue m r)) m)).remainder ≡ residue s r
    at true f = refl
    at false f = residue_same s (pos (residue m r)) r p (turn s r (pos (residue m r)) (multiple_of s m _ d (residue_multiple m r (nonzero_from m f))))

pub stride_divides : (c : Class) (r s k : ℕ) → 0 < s → r < s * k → HasStride c r (s * k) → HasStride c (r % s) s
stride_divides c r s k p b h = record {
  divides = dvd_trans s (dvd-mul_right s k) h.divides;
  remainder = residue_same s c.remainder (pos r) p (multiple_of s (s * k) _ (dvd-mul_right s k) (subst (λ n. IsMultiple (s * k) (c.remainder -ℤ pos n)) h.remainder (residue_multiple (s * k) c.remainder (omega arith))));
}

pub turned_class : (c : Class) (t : IntType) → Is c → Is (reduced c.remainder (gcd c.modulus (2 ^ bits_of t)))
turned_class c t h =
    let m = class_has c.remainder c.modulus h in
    class_with c.remainder m.0 (gcd c.modulus (2 ^ bits_of t)) (turn_small t c.modulus) m.1 (multiple_of _ c.modulus _ (gcd_left c.modulus (2 ^ bits_of t)) m.2)
