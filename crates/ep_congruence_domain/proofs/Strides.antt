-- The strides of congruences.
use Rattle.std.specs.Prelude.{◌≡◌, ℕ, zero, suc, ◌+◌, ◌*◌, ◌%◌, ◌<◌, ◌≤◌, ℤ, pos, ◌-ℤ◌, ◌≤ℤ◌, ◌⊎◌, true, Option, Some}
use Rattle.ep_congruence_laws.proofs.Strides.{stride_multiple}
use Rattle.std.specs.Prelude.{None, IsTrue, IfSome, unsigned_abs, refl}
use Rattle.std.specs.Option.{option_and_then}
use Rattle.std.proofs.Common.{arith, ap, sym, ◌∙◌, subst, inl, inr}
use Rattle.std.proofs.Math.Nat.{dvd-mul_right}
use Rattle.ep_int.specs.declared.types.IntType.TheVariants.{I64}
use Rattle.ep_int.specs.declared.types.BinOp.{BinOp}
use Rattle.ep_int.specs.declared.types.BinOp.TheVariants.{Add, Sub, Mul}
use Rattle.ep_int.specs.Types.{least_of, greatest_of, residue}
use Rattle.ep_int.specs.Arith.{IsOfSomeType}
use Rattle.ep_domain.specs.Domain.{IsStride, KeepsStrides}
use Rattle.ep_domain.specs.Laws.Shared.{pair}
use Rattle.ep_congruence_laws.specs.Multiples.{IsMultiple, gcd}
use Rattle.ep_congruence_laws.specs.Classes as classes
use Rattle.ep_congruence_laws.specs.Classes.{Class, class, one, distance, joined_modulus}
use Rattle.ep_congruence_laws.specs.Results.{results_between, left_operand, value_of}
use Rattle.ep_congruence_laws.proofs.Multiples.{size_of_multiple}
use Rattle.ep_congruence_laws.proofs.Classes.{chain, turn}
use Rattle.ep_congruence_laws.proofs.Operations.{In, Is, one_member, gcd_greatest}
use Rattle.ep_congruence_laws.proofs.Cuts as cuts
use Rattle.ep_congruence_laws.proofs.Cuts.{HasStride, stride_from, stride_test, stride_of, IsCut, cut_is}
use Rattle.ep_congruence_laws.proofs.Strides.{add_stride, sub_stride, mul_stride, one_stride}
use Rattle.ep_congruence_domain.specs.Congruence.{Congruence, class_of, holds_of, single_of, join_of, cut_of}
use Rattle.ep_congruence_domain.specs.Congruence.{outcome_of, range_of}
use Rattle.ep_congruence_domain.specs.Domain.{congruence_ops}
use Rattle.ep_congruence_domain.proofs.Formed.{then_kept}
use Rattle.ep_congruence_domain.proofs.Simple.{holds, single_class, single_of_range}

pub positive : (r s : ℕ) → IsStride r s → 0 < s
positive r s i = let b = i.below in omega arith

pub stride_holds : (a : Congruence) (r s : ℕ) (z : ℤ) → IsStride r s → IsTrue (classes.has_stride (class_of a) r s) → IsTrue (holds_of a z) → residue s z ≡ r
stride_holds a r s z i h k = cuts.stride_holds (class_of a) r s z (positive r s i) (stride_from (class_of a) r s h) (holds a z k).congruent

pub stride_divides : (a : Congruence) (r s k : ℕ) → IsStride r (s * k) → IsTrue (classes.has_stride (class_of a) r (s * k)) → IsTrue (classes.has_stride (class_of a) (r % s) s)
stride_divides a r s k i h = stride_test (class_of a) (r % s) s (cuts.stride_divides (class_of a) r s k (factor s k r i.below) i.below (stride_from (class_of a) r (s * k) h))
  where
    factor : (s k r : ℕ) → r < s * k → 0 < s
    factor zero k r h = absurd (omega arith)
    factor (suc s) k r h = omega arith

single_stride : (v : ℤ) (s : ℕ) → IsOfSomeType v → 0 < s → s ≤ 65536 → IsTrue (classes.has_stride (class_of (single_of v)) (residue s v) s)
single_stride v s h p q = subst (λ k. classes.has_stride k (residue s v) s ≡ true) (sym (single_class v h)) (stride_test (one v) (residue s v) s (one_stride v (residue s v) s refl))

join_stride : (a b : Congruence) (r s : ℕ) → IsStride r s → IsTrue (classes.has_stride (class_of a) r s) → IsTrue (classes.has_stride (class_of b) r s) → IsTrue (classes.has_stride (class_of (join_of a b)) r s)
join_stride a b r s i h k =
    let p = positive r s i in
    let l = stride_from (class_of a) r s h in let u = stride_from (class_of b) r s k in
    let x = stride_multiple (class_of a) r s p l in let y = stride_multiple (class_of b) r s p u in
    let d : IsMultiple s (distance (class_of a) (class_of b)) = chain s a.remainder (pos r) b.remainder x (turn s b.remainder (pos r) y) in
    stride_test (class_of (join_of a b)) r s
    (stride_of a.remainder a.remainder (joined_modulus (class_of a) (class_of b)) r s p
    (gcd_greatest (gcd a.modulus b.modulus) (unsigned_abs (distance (class_of a) (class_of b))) s (gcd_greatest a.modulus b.modulus s l.divides u.divides) (size_of_multiple s (distance (class_of a) (class_of b)) d))
    (cuts.itself_in a.remainder s) l.remainder)

pub cut_class_stride : (k d : Class) (lo hi : ℤ) (r s : ℕ) → 0 < s → HasStride k r s → IsCut k lo hi d → HasStride d r s
cut_class_stride k d lo hi r s p h c = at c.inside
  where
    at : (d ≡ k) ⊎ ((v : ℤ) × (d ≡ one v) × IsOfSomeType v × In k v × (lo ≤ℤ v) × (v ≤ℤ hi)) → HasStride d r s
    at (inl e) = subst (λ x. HasStride x r s) (sym e) h
    at (inr w) = subst (λ x. HasStride x r s) (sym w.1) (one_stride w.0 r s (cuts.stride_holds k r s w.0 p h w.3))

cut_strides : (k : Class) (lo hi : ℤ) (r s : ℕ) → 0 < s → HasStride k r s → IfSome (classes.cut_of k lo hi) (λ d. HasStride d r s)
cut_strides k lo hi r s p h = at (classes.cut_of k lo hi) (cut_is k lo hi)
  where
    at : (o : Option Class) → IfSome o (IsCut k lo hi) → IfSome o (λ d. HasStride d r s)
    at None c = tt
    at (Some d) c = cut_class_stride k d lo hi r s p h c

pub tested : (o : Option Congruence) (r s : ℕ) → IfSome o (λ c. HasStride (class_of c) r s) → IfSome o (λ c. IsTrue (classes.has_stride (class_of c) r s))
tested None r s h = tt
tested (Some c) r s h = stride_test (class_of c) r s h

cut_stride : (a : Congruence) (lo hi : ℤ) (r s : ℕ) → IsStride r s → IsTrue (classes.has_stride (class_of a) r s) → IfSome (cut_of a lo hi) (λ c. IsTrue (classes.has_stride (class_of c) r s))
cut_stride a lo hi r s i h = tested (cut_of a lo hi) r s (then_kept (λ k. HasStride k r s) (classes.cut_of (class_of a) lo hi) (cut_strides (class_of a) lo hi r s (positive r s i) (stride_from (class_of a) r s h)))

-- what a cut operand keeps
record Kept (r s : ℕ) (d : Class) : Type 0 where
  valid : Is d
  stride : HasStride d r s

operand : (k : Class) (r s : ℕ) → 0 < s → Is k → HasStride k r s → IfSome (left_operand I64 k) (Kept r s)
operand k r s p v h = at (left_operand I64 k) (cut_is k (least_of I64) (greatest_of I64))
  where
    at : (o : Option Class) → IfSome o (IsCut k (least_of I64) (greatest_of I64)) → IfSome o (Kept r s)
    at None c = tt
    at (Some d) c = record { valid = c.valid v; stride = cut_class_stride k d (least_of I64) (greatest_of I64) r s p h c }

both_cut : (o : BinOp) (X Y R : Class → Type 0) (l u : Option Class) → IfSome l X → IfSome u Y → ((d f : Class) → X d → Y f → IfSome (results_between o I64 d f) R) → IfSome (option_and_then (λ d. option_and_then (results_between o I64 d) u) l) R
both_cut o X Y R None u h k go = tt
both_cut o X Y R (Some d) None h k go = tt
both_cut o X Y R (Some d) (Some f) h k go = go d f h k

sum_stride : (a b : Congruence) (r q s : ℕ) → IsStride r s → IsStride q s → IsTrue (classes.has_stride (class_of a) r s) → IsTrue (classes.has_stride (class_of b) q s) → IfSome (outcome_of Add I64 a b).value (λ c. IsTrue (classes.has_stride (class_of c) ((r + q) % s) s))
sum_stride a b r q s i j h k =
    let p = positive r s i in
    tested (outcome_of Add I64 a b).value ((r + q) % s) s
    (then_kept (λ c. HasStride c ((r + q) % s) s) (value_of Add I64 (class_of a) (class_of b))
    (both_cut Add (Kept r s) (Kept q s) (λ c. HasStride c ((r + q) % s) s) (left_operand I64 (class_of a)) (left_operand I64 (class_of b))
    (operand (class_of a) r s p a.valid (stride_from (class_of a) r s h)) (operand (class_of b) q s p b.valid (stride_from (class_of b) q s k))
    (λ d f x y. add_stride d f r q s p x.valid y.valid x.stride y.stride)))

difference_stride : (a b : Congruence) (r q s : ℕ) → IsStride r s → IsStride q s → IsTrue (classes.has_stride (class_of a) r s) → IsTrue (classes.has_stride (class_of b) q s) → IfSome (outcome_of Sub I64 a b).value (λ c. IsTrue (classes.has_stride (class_of c) (residue s (pos r -ℤ pos q)) s))
difference_stride a b r q s i j h k =
    let p = positive r s i in
    tested (outcome_of Sub I64 a b).value (residue s (pos r -ℤ pos q)) s
    (then_kept (λ c. HasStride c (residue s (pos r -ℤ pos q)) s) (value_of Sub I64 (class_of a) (class_of b))
    (both_cut Sub (Kept r s) (Kept q s) (λ c. HasStride c (residue s (pos r -ℤ pos q)) s) (left_operand I64 (class_of a)) (left_operand I64 (class_of b))
    (operand (class_of a) r s p a.valid (stride_from (class_of a) r s h)) (operand (class_of b) q s p b.valid (stride_from (class_of b) q s k))
    (λ d f x y. sub_stride d f r q s p x.valid y.valid x.stride y.stride)))

product_stride : (a b : Congruence) (s k : ℕ) → IsStride 0 s → range_of b ≡ pair (pos (s * k)) (pos (s * k)) → IfSome (outcome_of Mul I64 a b).value (λ c. IsTrue (classes.has_stride (class_of c) 0 s))
product_stride a b s k i e =
    tested (outcome_of Mul I64 a b).value 0 s
    (then_kept (λ c. HasStride c 0 s) (value_of Mul I64 (class_of a) (class_of b))
    (both_cut Mul (λ d. Unit {0}) (λ f. f ≡ one (pos (s * k))) (λ c. HasStride c 0 s) (left_operand I64 (class_of a)) (left_operand I64 (class_of b))
    (any (left_operand I64 (class_of a))) (subst (λ c. IfSome (left_operand I64 c) (λ f. f ≡ one (pos (s * k)))) (sym (single_of_range b (pos (s * k)) e)) (of_one (pos (s * k))))
    (λ d f x y. subst (λ f. IfSome (results_between Mul I64 d f) (λ c. HasStride c 0 s)) (sym y) (mul_stride d (s * k) s (positive 0 s i) (dvd-mul_right s k)))))
  where
    any : (o : Option Class) → IfSome o (λ d. Unit {0})
    any None = tt
    any (Some d) = tt

    -- a cut of one number is that number
    of_one : (n : ℤ) → IfSome (left_operand I64 (one n)) (λ f. f ≡ one n)
    of_one n = at (left_operand I64 (one n)) (cut_is (one n) (least_of I64) (greatest_of I64))
      where
        of : (d : Class) → (d ≡ one n) ⊎ ((v : ℤ) × (d ≡ one v) × IsOfSomeType v × In (one n) v × (least_of I64 ≤ℤ v) × (v ≤ℤ greatest_of I64)) → d ≡ one n
        of d (inl f) = f
        of d (inr w) = w.1 ∙ ap one (one_member (one n) w.0 refl w.3)

        at : (o : Option Class) → IfSome o (IsCut (one n) (least_of I64) (greatest_of I64)) → IfSome o (λ f. f ≡ one n)
        at None c = tt
        at (Some d) c = of d c.inside

pub congruence_strides : KeepsStrides congruence_ops
congruence_strides = record {
  single = single_stride;
  join = join_stride;
  widen = join_stride;
  cut = cut_stride;
  add = sum_stride;
  sub = difference_stride;
  mul = product_stride;
}
