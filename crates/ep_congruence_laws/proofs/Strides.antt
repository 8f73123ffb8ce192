-- Strides of the results of operators.
use Prim.Native.Nat.{◌∣◌}
use Rattle.ep_congruence_laws.proofs.Results.{difference_members, sum_members}
use Rattle.std.proofs.lemmas.Bool.{le-leb}
use Rattle.std.proofs.Common.{◌≡◌, ℕ, ◌+◌, ◌*◌, ◌%◌, ◌<◌, ◌≤◌, ℤ, pos, ◌+ℤ◌, ◌-ℤ◌, ◌*ℤ◌, Bool, true, false, cond}
use Rattle.std.proofs.Common.{◌&&◌, Option, Some, Result, Ok, Err, nat_le, arith, refl, sym, ap, ◌∙◌, subst}
use Rattle.std.specs.Prelude.{unsigned_abs, IfSome}
use Rattle.std.proofs.Math.IntN.{*ℤ_comm}
use Rattle.std.proofs.lemmas.Int.{ints}
use Rattle.std.proofs.lemmas.Nat.Gcd.{dvd-zero, dvd_trans}
use Rattle.std.proofs.Math.Nat.{dvd-mul_left, mod-eq_of_lt}
use Rattle.ep_int.specs.declared.types.IntType.TheVariants.{I64}
use Rattle.ep_int.specs.declared.types.BinOp.TheVariants.{Add, Sub, Mul}
use Rattle.ep_int.specs.declared.types.Undef.{Undef}
use Rattle.ep_int.specs.declared.types.Undef.TheVariants.{Overflow}
use Rattle.ep_int.specs.Types.{residue}
use Rattle.ep_int.specs.Arith.{arith_of}
use Rattle.ep_congruence_laws.specs.Multiples.{IsMultiple, gcd}
use Rattle.ep_congruence_laws.specs.Classes.{Class, one, is_one, greatest_modulus, reduced}
use Rattle.ep_congruence_laws.specs.Results.{limited, products, are_small, multiples_of, past_limits, product_at}
use Rattle.ep_congruence_laws.specs.Results.{product_modulus, product_of, single_result, results_of, results_between}
use Rattle.ep_congruence_laws.proofs.Multiples.{multiple_sum, multiple_difference, multiple_product, multiple_of}
use Rattle.ep_congruence_laws.proofs.Multiples.{none_of, itself}
use Rattle.ep_congruence_laws.proofs.Classes.{residue_multiple, residue_same, class_small}
use Rattle.ep_congruence_laws.proofs.Operations.{Is, gcd_greatest, gcd_small}
use Rattle.ep_congruence_laws.proofs.Cuts.{HasStride, stride_of}
use Rattle.ep_congruence_laws.proofs.Results.{signed_result}

-- the remainder of a class less its stride
pub stride_multiple : (c : Class) (r s : ℕ) → 0 < s → HasStride c r s → IsMultiple s (c.remainder -ℤ pos r)
stride_multiple c r s p h = subst (λ (n : ℕ). IsMultiple s (c.remainder -ℤ pos n)) h.remainder (residue_multiple s c.remainder p)

sum_apart : (a b : Class) (r q s : ℕ) → 0 < s → HasStride a r s → HasStride b q s → IsMultiple s ((a.remainder +ℤ b.remainder) -ℤ pos (r + q))
sum_apart a b r q s p h k = subst (IsMultiple s) (sum_members a.remainder b.remainder (pos r) (pos q)) (multiple_sum s _ _ (stride_multiple a r s p h) (stride_multiple b q s p k))

difference_apart : (a b : Class) (r q s : ℕ) → 0 < s → HasStride a r s → HasStride b q s → IsMultiple s ((a.remainder -ℤ b.remainder) -ℤ (pos r -ℤ pos q))
difference_apart a b r q s p h k = subst (IsMultiple s) (difference_members a.remainder b.remainder (pos r) (pos q)) (multiple_difference s _ _ (stride_multiple a r s p h) (stride_multiple b q s p k))

limited_same : (m : ℕ) → m ≤ greatest_modulus → limited m ≡ m
limited_same m h = ap (λ t. cond t m 1) (le-leb m greatest_modulus h)

gcd_limited : (a b : Class) → Is a → Is b → limited (gcd a.modulus b.modulus) ≡ gcd a.modulus b.modulus
gcd_limited a b p q = limited_same _ (gcd_small a.modulus b.modulus greatest_modulus (class_small a.remainder a.modulus p) (class_small b.remainder b.modulus q))

-- one number
pub one_stride : (v : ℤ) (q s : ℕ) → residue s v ≡ q → HasStride (one v) q s
one_stride v q s h = record { divides = dvd-zero s; remainder = h }

pub signed_ok : (r : Result ℤ Undef) (P : Class → Type 0) → ((v : ℤ) → r ≡ Ok v → P (one v)) → IfSome (single_result r) P
signed_ok (Ok v) P f = f v refl
signed_ok (Err u) P f = tt

between : (o : Bool) (l : Option Class) (c : Class) (P : Class → Type 0) → (o ≡ true → IfSome l P) → (o ≡ false → P c) → IfSome (cond o l (Some c)) P
between true l c P f g = f refl
between false l c P f g = g refl

pub add_stride : (a b : Class) (r q s : ℕ) → 0 < s → Is a → Is b → HasStride a r s → HasStride b q s → IfSome (results_between Add I64 a b) (λ c. HasStride c ((r + q) % s) s)
add_stride a b r q s p i j h k =
    between (is_one a && is_one b) (single_result (arith_of Add I64 a.remainder b.remainder)) (results_of Add I64 a b) (λ c. HasStride c ((r + q) % s) s)
    (λ e. signed_ok _ (λ c. HasStride c ((r + q) % s) s) (λ v d. one_stride v ((r + q) % s) s (ap (residue s) (signed_result Overflow I64 (a.remainder +ℤ b.remainder) v refl d) ∙ residue_same s (a.remainder +ℤ b.remainder) (pos (r + q)) p (sum_apart a b r q s p h k))))
    (λ e. subst (λ (m : ℕ). HasStride (reduced (a.remainder +ℤ b.remainder) m) ((r + q) % s) s) (sym (gcd_limited a b i j))
    (stride_of (a.remainder +ℤ b.remainder) (pos (r + q)) (gcd a.modulus b.modulus) ((r + q) % s) s p (gcd_greatest a.modulus b.modulus s h.divides k.divides) (sum_apart a b r q s p h k) refl))

pub sub_stride : (a b : Class) (r q s : ℕ) → 0 < s → Is a → Is b → HasStride a r s → HasStride b q s → IfSome (results_between Sub I64 a b) (λ c. HasStride c (residue s (pos r -ℤ pos q)) s)
sub_stride a b r q s p i j h k =
    between (is_one a && is_one b) (single_result (arith_of Sub I64 a.remainder b.remainder)) (results_of Sub I64 a b) (λ c. HasStride c (residue s (pos r -ℤ pos q)) s)
    (λ e. signed_ok _ (λ c. HasStride c (residue s (pos r -ℤ pos q)) s) (λ v d. one_stride v (residue s (pos r -ℤ pos q)) s (ap (residue s) (signed_result Overflow I64 (a.remainder -ℤ b.remainder) v refl d) ∙ residue_same s (a.remainder -ℤ b.remainder) (pos r -ℤ pos q) p (difference_apart a b r q s p h k))))
    (λ e. subst (λ (m : ℕ). HasStride (reduced (a.remainder -ℤ b.remainder) m) (residue s (pos r -ℤ pos q)) s) (sym (gcd_limited a b i j))
    (stride_of (a.remainder -ℤ b.remainder) (pos r -ℤ pos q) (gcd a.modulus b.modulus) (residue s (pos r -ℤ pos q)) s p (gcd_greatest a.modulus b.modulus s h.divides k.divides) (difference_apart a b r q s p h k) refl))

-- a product by a number that s divides
pub mul_stride : (a : Class) (n s : ℕ) → 0 < s → s ∣ n → IfSome (results_between Mul I64 a (one (pos n))) (λ c. HasStride c 0 s)
mul_stride a n s p d =
    between (is_one a && true) (single_result (arith_of Mul I64 a.remainder (pos n))) (product_of I64 a (one (pos n))) (λ c. HasStride c 0 s)
    (λ e. signed_ok _ (λ c. HasStride c 0 s) (λ v f. one_stride v 0 s (ap (residue s) (signed_result Overflow I64 (a.remainder *ℤ pos n) v refl f) ∙ residue_same s (a.remainder *ℤ pos n) (pos 0) p (apart (a.remainder *ℤ pos n) times) ∙ zero_residue)))
    (λ e. at_products (are_small (products a (one (pos n)))) (first (is_one a) true e refl))
  where
    first : (x y : Bool) → (x && y) ≡ false → y ≡ true → x ≡ false
    first true y e h = cc
    first false y e h = refl

    times : IsMultiple s (a.remainder *ℤ pos n)
    times = multiple_of s n (a.remainder *ℤ pos n) d (subst (IsMultiple n) (*ℤ_comm (pos n) a.remainder) (multiple_product n (pos n) a.remainder (itself n)))

    minus_zero : (z : ℤ) → z ≡ z -ℤ pos 0
    minus_zero z = omega (arith, ints)

    apart : (z : ℤ) → IsMultiple s z → IsMultiple s (z -ℤ pos 0)
    apart z h = subst (IsMultiple s) (minus_zero z) h

    zero_residue : residue s (pos 0) ≡ 0
    zero_residue = zero_mod s p
      where
        zero_mod : (s : ℕ) → 0 < s → 0 % s ≡ 0
        zero_mod s h = mod-eq_of_lt h

    divides : s ∣ product_modulus I64 a (one (pos n))
    divides =
        gcd_greatest (gcd (products a (one (pos n))).0 (products a (one (pos n))).1) (products a (one (pos n))).2 s
        (gcd_greatest (products a (one (pos n))).0 (products a (one (pos n))).1 s (of_zero a.modulus) (dvd_trans s d (dvd-mul_left n a.modulus))) (of_zero (unsigned_abs a.remainder))
      where
        of_zero : (m : ℕ) → s ∣ m * 0
        of_zero m = subst (λ (n : ℕ). s ∣ n) (zero_product m) (dvd-zero s)
          where
            zero_product : (m : ℕ) → 0 ≡ m * 0
            zero_product m = omega arith

    of_factor : HasStride (multiples_of I64 (pos n)) 0 s
    of_factor = stride_of (pos 0) (pos 0) n 0 s p d (none_of s) zero_residue

    past : is_one a ≡ false → HasStride (past_limits I64 a (one (pos n))) 0 s
    past e = at (is_one a) e
      where
        at : (x : Bool) → x ≡ false → HasStride (cond x (multiples_of I64 a.remainder) (multiples_of I64 (pos n))) 0 s
        at true f = cc
        at false f = of_factor

    at_limit : (x : Bool) → is_one a ≡ false → HasStride (cond x (reduced (a.remainder *ℤ pos n) (product_modulus I64 a (one (pos n)))) (past_limits I64 a (one (pos n)))) 0 s
    at_limit true e = stride_of (a.remainder *ℤ pos n) (pos 0) (product_modulus I64 a (one (pos n))) 0 s p divides (apart _ times) zero_residue
    at_limit false e = past e

    at_products : (x : Bool) → is_one a ≡ false → HasStride (cond x (product_at I64 a (one (pos n)) (product_modulus I64 a (one (pos n)))) (past_limits I64 a (one (pos n)))) 0 s
    at_products true e = at_limit (nat_le (product_modulus I64 a (one (pos n))) greatest_modulus) e
    at_products false e = past e
