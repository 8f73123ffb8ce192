-- What the code of the faults of two ranges needs.
use Rattle.std.proofs.Common.{◌≡◌, ℕ, ◌^◌, ◌<◌, ◌≤◌, ℤ, pos, negsuc, ◌+ℤ◌, ◌-ℤ◌, ◌*ℤ◌, ◌≤ℤ◌, Bool, true, false, cond}
use Rattle.ep_int.proofs.Arithmetic.{in_range_some_type, le_test}
use Rattle.std.proofs.Common.{◌||◌, Option, Some, None, refl, sym, ap, ◌∙◌, subst, arith, to_z, of_z, FitsSigned}
use mir.Syntax.{w128}
use Rattle.std.specs.Prelude.{int_lt, unsigned_abs}
use Rattle.std.specs.Bool.{then_some}
use Rattle.std.specs.Int.{int_min, int_max}
use Rattle.std.proofs.lemmas.Int.{ints, to_z-of_z, fits_signed_mul}
use Rattle.std.proofs.Math.Nat.{pow-le-pow_right}
use Rattle.ep_int.specs.declared.types.IntType.{IntType}
use Rattle.ep_int.specs.declared.types.IntType.TheVariants.{I8, U8, I16, U16, I32, U32, I64, U64}
use Rattle.ep_int.specs.declared.types.BinOp.{BinOp}
use Rattle.ep_int.specs.declared.types.BinOp.TheVariants.{Add, Sub, Mul, Div, Rem, And, Or, Xor, Shl, Shr}
use Rattle.ep_int.specs.Types.{is_signed, greatest_of, InRange}
use Rattle.ep_int.specs.Arith.{IsOfSomeType, IsRightOperand}
use Rattle.ep_range_laws.specs.Ranges.{IsRange, LiesIn}
use Rattle.ep_range_laws.specs.Faults.{least_of_four, greatest_of_four, shown_range, may_overflow, may_not_shift}
use Rattle.ep_range_laws.specs.Faults.{may_fault, nearest_amount, right_part, fault_between}
use Rattle.ep_range_laws.proofs.Comparisons.{lt_false, from_lt_false, le_trans}
use Rattle.ep_range_laws.proofs.Parts.{right_is_right}
use Rattle.ep_range_laws.proofs.FaultAt.{low_lies, high_lies}
use Rattle.ep_range_laws.proofs.Types.{number_low}

-- a test that the code made on 128 bits
pub passed : (a b : ℤ) → FitsSigned w128 a → FitsSigned w128 b → int_lt (to_z w128 (of_z w128 b)) (to_z w128 (of_z w128 a)) ≡ false → a ≤ℤ b
passed a b p q e = let f = rw (to_z-of_z w128 a p, to_z-of_z w128 b q) at e in from_lt_false b a f

mag_fits : (v : ℤ) → negsuc 340282366920938463463374607431768 ≤ℤ v → v ≤ℤ pos 340282366920938463463374607431768 → FitsSigned w128 v
mag_fits (pos n) p q = record { sfits = omega (arith, ints) }
mag_fits (negsuc n) p q = record { sfits = omega (arith, ints) }

pub fits_number : (v : ℤ) → IsOfSomeType v → FitsSigned w128 v
fits_number (pos n) h = let p = h.high in record { sfits = omega (arith, ints) }
fits_number (negsuc n) h = let p = h.low in record { sfits = omega (arith, ints) }

pub in_order : (o : BinOp) (t : IntType) (x y : ℤ × ℤ) → x.0 ≤ℤ x.1 → y.0 ≤ℤ y.1 → fault_between o t x y ≡ cond (may_fault o t x y) (Some (shown_range o x y)) None
in_order o t x y p q = rw (le_test x.0 x.1 p, le_test y.0 y.1 q) refl

signed_in_long : (t : IntType) → is_signed t ≡ true → greatest_of t ≤ℤ greatest_of I64
signed_in_long I8 e = omega (arith, ints)
signed_in_long U8 e = cc
signed_in_long I16 e = omega (arith, ints)
signed_in_long U16 e = cc
signed_in_long I32 e = omega (arith, ints)
signed_in_long U32 e = cc
signed_in_long I64 e = omega (arith, ints)
signed_in_long U64 e = cc

pub in_long : (t : IntType) (v : ℤ) → is_signed t ≡ true → InRange t v → InRange I64 v
in_long t v e h = record { low = le_trans _ _ _ (number_low t) h.low; high = le_trans _ _ _ h.high (signed_in_long t e) }

abs_long : (v : ℤ) → InRange I64 v → unsigned_abs v ≤ 2 ^ 63
abs_long (pos n) h = let p = h.high in omega (arith, ints)
abs_long (negsuc n) h = let p = h.low in omega (arith, ints)

pub product_fits : (x y : ℤ) → InRange I64 x → InRange I64 y → FitsSigned w128 (x *ℤ y)
product_fits x y h k = fits_signed_mul w128 x y (2 ^ 63) (2 ^ 63) (abs_long x h) (abs_long y k) (omega arith)

pub pair_same : (a b c d : ℤ) → a ≡ c → b ≡ d → (let p : ℤ × ℤ = (a, b) in p) ≡ (c, d)
pair_same a b c d e f = ap (λ (x : ℤ). (let p : ℤ × ℤ = (x, b) in p)) e ∙ ap (λ (y : ℤ). (let p : ℤ × ℤ = (c, y) in p)) f

pub overflow_is : (o : BinOp) (t : IntType) (x y e : ℤ × ℤ) (v : Option (ℤ × ℤ)) → x.0 ≤ℤ x.1 → y.0 ≤ℤ y.1 → may_fault o t x y ≡ may_overflow t (shown_range o x y) → e ≡ shown_range o x y → v ≡ cond (may_overflow t e) (Some e) None → v ≡ fault_between o t x y
overflow_is o t x y e v p q m f g = rw (in_order o t x y p q, m, ← f) g

pub least_is : (a b c d m n v : ℤ) → m ≡ int_min a b → n ≡ int_min c d → v ≡ int_min m n → v ≡ least_of_four a b c d
least_is a b c d m n v e f g = g ∙ ap (λ z. int_min z n) e ∙ ap (λ z. int_min (int_min a b) z) f

pub greatest_is : (a b c d m n v : ℤ) → m ≡ int_max a b → n ≡ int_max c d → v ≡ int_max m n → v ≡ greatest_of_four a b c d
greatest_is a b c d m n v e f g = g ∙ ap (λ z. int_max z n) e ∙ ap (λ z. int_max (int_max a b) z) f

-- the fault of a shift to the left, by the test that the code makes where the left operand is not negative
pub shift_is : (t : IntType) (x y : ℤ × ℤ) (b : Bool) → is_signed t ≡ true → pos 0 ≤ℤ x.0 → b ≡ int_lt (greatest_of t) (x.1 *ℤ pos (2 ^ nearest_amount t y.1)) → b ≡ may_not_shift t x y
shift_is t x y b s p e = rw (s, lt_false x.0 (pos 0) p) e

power_small : (n : ℕ) → n < 64 → 2 ^ n ≤ 2 ^ 63
power_small n h = let k : n ≤ 63 = omega arith in pow-le-pow_right {n = 2} (omega arith) k

pub power_fits : (t : IntType) (x p : ℤ) (n : ℕ) → is_signed t ≡ true → InRange t x → n < 64 → p ≡ pos (2 ^ n) → FitsSigned w128 (x *ℤ p)
power_fits t x p n s h k e =
    subst (λ q. FitsSigned w128 (x *ℤ q)) (sym e) (fits_signed_mul w128 x (pos (2 ^ n)) (2 ^ 63) (2 ^ 63) (abs_long x (in_long t x s h)) (power_small n k) (omega arith))

pub not_negative : (x : ℤ) → FitsSigned w128 x → int_lt (to_z w128 (of_z w128 x)) (pos 0) ≡ false → pos 0 ≤ℤ x
not_negative x f e = let g = rw (to_z-of_z w128 x f) at e in from_lt_false x (pos 0) g

pub above_is : (t : IntType) (x : ℤ × ℤ) (g p y : ℤ) (n : ℕ) → g ≡ greatest_of t → p ≡ pos (2 ^ n) → n ≡ nearest_amount t y → int_lt g (x.1 *ℤ p) ≡ int_lt (greatest_of t) (x.1 *ℤ pos (2 ^ nearest_amount t y))
above_is t x g p y n e f h = ap (λ z. int_lt z (x.1 *ℤ p)) e ∙ ap (λ z. int_lt (greatest_of t) (x.1 *ℤ z)) (f ∙ ap (λ k. pos (2 ^ k)) h)

pub right_number : (o : BinOp) (t : IntType) (y : ℤ) → IsRightOperand o t y → IsOfSomeType y
right_number Add t y h = in_range_some_type t y h
right_number Sub t y h = in_range_some_type t y h
right_number Mul t y h = in_range_some_type t y h
right_number Div t y h = in_range_some_type t y h
right_number Rem t y h = in_range_some_type t y h
right_number And t y h = in_range_some_type t y h
right_number Or t y h = in_range_some_type t y h
right_number Xor t y h = in_range_some_type t y h
right_number Shl t y h = h
right_number Shr t y h = h

pub right_in_range : (o : BinOp) (t : IntType) (y : ℤ) → o ≡ Mul → IsRightOperand o t y → InRange t y
right_in_range o t y e h = subst (λ p. IsRightOperand p t y) e h

pub then_is : (o : BinOp) (t : IntType) (x y : ℤ × ℤ) (b : Bool) (v : Option (ℤ × ℤ)) → x.0 ≤ℤ x.1 → y.0 ≤ℤ y.1 → shown_range o x y ≡ y → b ≡ may_fault o t x y → v ≡ then_some b y → v ≡ fault_between o t x y
then_is o t x y b v p q e f g = rw (in_order o t x y p q, e, ← f) (g ∙ both_words b y)
  where
    both_words : (b : Bool) (y : ℤ × ℤ) → then_some b y ≡ cond b (Some y) None
    both_words true y = refl
    both_words false y = refl

pub right_ends : (o : BinOp) (t : IntType) (y r : ℤ × ℤ) → IsRange y.0 y.1 → r ≡ right_part o t y → r.0 ≤ℤ r.1 → IsRightOperand o t r.0 × IsRightOperand o t r.1
right_ends o t y r i e h =
    (right_is_right o t y r.0 i (subst (λ (q : ℤ × ℤ). LiesIn q r.0) e (low_lies r h)), right_is_right o t y r.1 i (subst (λ (q : ℤ × ℤ). LiesIn q r.1) e (high_lies r h)))

pub or_is : (p q a b : Bool) → p ≡ a → q ≡ b → (p || q) ≡ (a || b)
or_is p q a b e f = ap (λ z. z || q) e ∙ ap (λ z. a || z) f
