-- A product of congruences by 1 has the strides of the other factor.
use Prim.Native.Nat.{◌∣◌}
use Rattle.ep_congruence_laws.proofs.Strides.{signed_ok}
use Rattle.ep_congruence_domain.proofs.Strides.{cut_class_stride, positive, tested}
use Rattle.std.proofs.lemmas.Bool.{le-leb}
use Rattle.std.proofs.Common.{◌≡◌, ℕ, ◌*◌, ◌<◌, ◌≤◌, ℤ, pos, ◌-ℤ◌, ◌*ℤ◌, ◌≤ℤ◌, Bool, true, false, cond, ◌&&◌, Option}
use Rattle.std.proofs.Common.{Some, None, option_and_then, IfSome, nat_le, refl, sym, ap}
use Rattle.std.proofs.Common.{◌∙◌, subst, ◌⊎◌, inl, inr, arith}
use Rattle.std.specs.Prelude.{unsigned_abs}
use Rattle.std.proofs.lemmas.Int.{ints}
use Rattle.std.proofs.lemmas.Bool.{and_from}
use Rattle.std.proofs.lemmas.Nat.Gcd.{dvd-zero}
use Rattle.ep_int.specs.declared.types.IntType.TheVariants.{I64}
use Rattle.ep_int.specs.declared.types.BinOp.TheVariants.{Mul}
use Rattle.ep_int.specs.declared.types.Undef.TheVariants.{Overflow}
use Rattle.ep_int.specs.Types.{least_of, greatest_of, residue}
use Rattle.ep_int.specs.Arith.{arith_of, IsOfSomeType}
use Rattle.ep_congruence_laws.specs.Multiples.{IsMultiple, gcd}
use Rattle.ep_congruence_laws.specs.Classes as classes
use Rattle.ep_congruence_laws.specs.Classes.{Class, one, is_one, reduced, greatest_modulus}
use Rattle.ep_congruence_laws.specs.Results.{greatest_product, products, are_small, product_modulus, product_of}
use Rattle.ep_congruence_laws.specs.Results.{past_limits, results_between, single_result, left_operand, value_of}
use Rattle.ep_congruence_laws.proofs.Classes.{class_small}
use Rattle.ep_congruence_laws.proofs.Operations.{In, Is, one_member, gcd_greatest, gcd_small}
use Rattle.ep_congruence_laws.proofs.Cuts as cuts
use Rattle.ep_congruence_laws.proofs.Cuts.{HasStride, stride_from, stride_of, IsCut, cut_is, itself_in}
use Rattle.ep_congruence_laws.proofs.Strides.{one_stride}
use Rattle.ep_congruence_laws.proofs.Results.{signed_result}
use Rattle.ep_congruence_domain.specs.Congruence.{class_of, outcome_of}
use Rattle.ep_congruence_domain.specs.Domain.{congruence_ops}
use Rattle.ep_congruence_domain.proofs.Formed.{then_kept}
use Rattle.ep_congruence_domain.proofs.Simple.{single_of_range}
use Rattle.ep_alarm_laws.specs.Laws.{ProductsKeepStrides}

times_one : (z : ℤ) → z *ℤ pos 1 ≡ z
times_one z = omega (arith, ints)

-- ---- classes

between : (o : Bool) (l : Option Class) (c : Class) (P : Class → Type 0) → IfSome l P → P c
    → IfSome (cond o l (Some c)) P
between true l c P h k = h
between false l c P h k = k

picked : (x y : Bool) (a b : Class) (P : Class → Type 0) → x ≡ true → y ≡ true → P a → P (cond x (cond y a b) b)
picked true true a b P e f h = h
picked true false a b P e f h = absurd (cc)
picked false y a b P e f h = absurd (cc)

abbrev unit : Class
unit = one (pos 1)

module _ (d : Class) (r s : ℕ) (p : 0 < s) (valid : Is d) (h : HasStride d r s) where
  modulus_small : d.modulus ≤ 36893488147419103231
  modulus_small = class_small d.remainder d.modulus valid

  first_small : d.modulus * 0 ≤ 36893488147419103231
  first_small = let e : d.modulus * 0 ≡ 0 = omega arith in omega (arith, e)

  second_small : d.modulus * 1 ≤ 36893488147419103231
  second_small = let e : d.modulus * 1 ≡ d.modulus = omega arith in let m = modulus_small in omega (arith, e, m)

  third_small : unsigned_abs d.remainder * 0 ≤ 36893488147419103231
  third_small = let e : unsigned_abs d.remainder * 0 ≡ 0 = omega arith in omega (arith, e)

  wider : (n : ℕ) → n ≤ 36893488147419103231 → n ≤ 85070591730234615865843651857942052864
  wider n l = omega (arith, l)

  small : are_small (products d unit) ≡ true
  small =
      and_from (nat_le (d.modulus * 0) greatest_product)
      (nat_le (d.modulus * 1) greatest_product && nat_le (unsigned_abs d.remainder * 0) greatest_product)
      (le-leb (d.modulus * 0) greatest_product (wider _ first_small))
      (and_from (nat_le (d.modulus * 1) greatest_product) (nat_le (unsigned_abs d.remainder * 0) greatest_product)
      (le-leb (d.modulus * 1) greatest_product (wider _ second_small))
      (le-leb (unsigned_abs d.remainder * 0) greatest_product (wider _ third_small)))

  near : nat_le (product_modulus I64 d unit) greatest_modulus ≡ true
  near =
      le-leb (product_modulus I64 d unit) greatest_modulus
      (gcd_small (gcd (d.modulus * 0) (d.modulus * 1)) (unsigned_abs d.remainder * 0) greatest_modulus
      (gcd_small (d.modulus * 0) (d.modulus * 1) greatest_modulus first_small second_small) third_small)

  of_zero : (m : ℕ) → s ∣ m * 0
  of_zero m = let e : 0 ≡ m * 0 = omega arith in subst (λ (n : ℕ). s ∣ n) e (dvd-zero s)

  divides : s ∣ product_modulus I64 d unit
  divides =
      gcd_greatest (gcd (d.modulus * 0) (d.modulus * 1)) (unsigned_abs d.remainder * 0) s
      (gcd_greatest (d.modulus * 0) (d.modulus * 1) s (of_zero d.modulus)
      (let e : d.modulus ≡ d.modulus * 1 = omega arith in subst (λ (n : ℕ). s ∣ n) e h.divides))
      (of_zero (unsigned_abs d.remainder))

  pub one_product : IfSome (results_between Mul I64 d unit) (λ c. HasStride c r s)
  one_product =
      between (is_one d && true) (single_result (arith_of Mul I64 d.remainder (pos 1))) (product_of I64 d unit)
      (λ c. HasStride c r s)
      (signed_ok (arith_of Mul I64 d.remainder (pos 1)) (λ c. HasStride c r s)
      (λ v f. one_stride v r s
      (ap (residue s) (signed_result Overflow I64 (d.remainder *ℤ pos 1) v refl f ∙ times_one d.remainder)
      ∙ h.remainder)))
      (picked (are_small (products d unit)) (nat_le (product_modulus I64 d unit) greatest_modulus)
      (reduced (d.remainder *ℤ pos 1) (product_modulus I64 d unit)) (past_limits I64 d unit) (λ c. HasStride c r s)
      small near
      (stride_of (d.remainder *ℤ pos 1) d.remainder (product_modulus I64 d unit) r s p divides
      (subst (λ z. IsMultiple s (z -ℤ d.remainder)) (sym (times_one d.remainder)) (itself_in d.remainder s))
      h.remainder))

-- ---- operands

record Kept (r s : ℕ) (d : Class) : Type 0 where
  valid : Is d
  stride : HasStride d r s

operand : (k : Class) (r s : ℕ) → 0 < s → Is k → HasStride k r s → IfSome (left_operand I64 k) (Kept r s)
operand k r s p v h = at (left_operand I64 k) (cut_is k (least_of I64) (greatest_of I64))
  where
    at : (o : Option Class) → IfSome o (IsCut k (least_of I64) (greatest_of I64)) → IfSome o (Kept r s)
    at None c = tt
    at (Some d) c = record {
      valid = c.valid v;
      stride = cut_class_stride k d (least_of I64) (greatest_of I64) r s p h c;
    }

-- a cut of one number is that number
of_one : (n : ℤ) → IfSome (left_operand I64 (one n)) (λ f. f ≡ one n)
of_one n = at (left_operand I64 (one n)) (cut_is (one n) (least_of I64) (greatest_of I64))
  where
    of : (d : Class)
        → (d ≡ one n)
        ⊎ ((v : ℤ) × (d ≡ one v) × IsOfSomeType v × In (one n) v × (least_of I64 ≤ℤ v) × (v ≤ℤ greatest_of I64))
        → d ≡ one n
    of d (inl f) = f
    of d (inr w) = w.1 ∙ ap one (one_member (one n) w.0 refl w.3)

    at : (o : Option Class) → IfSome o (IsCut (one n) (least_of I64) (greatest_of I64)) → IfSome o (λ f. f ≡ one n)
    at None c = tt
    at (Some d) c = of d c.inside

both_cut : (X Y R : Class → Type 0) (l u : Option Class) → IfSome l X → IfSome u Y
    → ((d f : Class) → X d → Y f → IfSome (results_between Mul I64 d f) R)
    → IfSome (option_and_then (λ d. option_and_then (results_between Mul I64 d) u) l) R
both_cut X Y R None u h k go = tt
both_cut X Y R (Some d) None h k go = tt
both_cut X Y R (Some d) (Some f) h k go = go d f h k

pub congruence_products : ProductsKeepStrides congruence_ops
congruence_products a b r s i h e =
    let p = positive r s i in
    tested (outcome_of Mul I64 a b).value r s
    (then_kept (λ c. HasStride c r s) (value_of Mul I64 (class_of a) (class_of b))
    (both_cut (Kept r s) (λ f. f ≡ unit) (λ c. HasStride c r s) (left_operand I64 (class_of a))
    (left_operand I64 (class_of b)) (operand (class_of a) r s p a.valid (stride_from (class_of a) r s h))
    (subst (λ c. IfSome (left_operand I64 c) (λ f. f ≡ unit)) (sym (single_of_range b (pos 1) e)) (of_one (pos 1)))
    (λ d f x y. subst (λ g. IfSome (results_between Mul I64 d g) (λ c. HasStride c r s)) (sym y)
    (one_product d r s p x.valid x.stride))))
