-- Laws of arithmetic on numbers of the types.
use Rattle.std.proofs.Common.{◌≡◌, ℕ, zero, suc, ◌+◌, ◌-◌, ◌*◌, ◌%◌, ◌^◌, ◌<◌, ◌≤◌, ◌↔◌, ◌/◌, Bool, true, false, ◌&&◌}
use Rattle.std.proofs.Common.{not, neg_ℤ, if◌then◌else◌, IsTrue, ℤ, pos, negsuc, ◌+ℤ◌, ◌-ℤ◌, ◌*ℤ◌, ◌≤ℤ◌, Result, Ok}
use Rattle.std.proofs.Common.{Err, FitsSigned, to_z, of_z, bit_and, bit_or, refl, sym, ◌∙◌, ap, subst, arith}
use Rattle.std.specs.Int.{w128, int_shr}
use Rattle.std.specs.Prelude.{bit_xor, int_lt, int_le, int_div, int_rem, unsigned_abs}
use Rattle.std.proofs.lemmas.Bool.{and_parts, cond-false}
use Rattle.std.proofs.lemmas.Int.{ints, to_z_pos, fits_signed_mul}
use Rattle.std.proofs.lemmas.Nat.{and_mask, and_le_l, or_lt, xor_lt, shl_whole, shl_below}
use Rattle.std.proofs.Math.Nat.{div-le_self, mod-le}
use Rattle.std.proofs.Math.Pow.{pow_mono}
use Rattle.ep_int.specs.declared.types.IntType.{IntType}
use Rattle.ep_int.specs.declared.types.IntType.TheVariants.{I8, U8, I16, U16, I32, U32, I64, U64}
use Rattle.ep_int.specs.Types.{bits_of, is_signed, least_of, greatest_of, InRange, residue, representation}
use Rattle.ep_int.specs.Types.{represented, wrapped}
use Rattle.ep_int.specs.Arith.{is_in_range, IsOfSomeType, IsRightOperand, int_eq, settled, is_divisible, is_amount}
use Rattle.ep_int.specs.Arith.{arith_of}
use Rattle.ep_int.specs.declared.types.BinOp.{BinOp}
use Rattle.ep_int.specs.declared.types.BinOp.TheVariants.{Add, Sub, Mul, Div, Rem, And, Or, Xor, Shl, Shr}
use Rattle.ep_int.specs.declared.types.Undef.{Undef}
use Rattle.ep_int.specs.declared.types.Undef.TheVariants.{Overflow, Division, Shift}
use Rattle.ep_int.proofs.Wrapping.{representation_below, represented_in_range, wrapped_in_range}

pub in_range_some_type : (t : IntType) (v : ℤ) → InRange t v → IsOfSomeType v
in_range_some_type I8 v h = record { low = omega (arith, ints); high = omega (arith, ints) }
in_range_some_type U8 v h = record { low = omega (arith, ints); high = omega (arith, ints) }
in_range_some_type I16 v h = record { low = omega (arith, ints); high = omega (arith, ints) }
in_range_some_type U16 v h = record { low = omega (arith, ints); high = omega (arith, ints) }
in_range_some_type I32 v h = record { low = omega (arith, ints); high = omega (arith, ints) }
in_range_some_type U32 v h = record { low = omega (arith, ints); high = omega (arith, ints) }
in_range_some_type I64 v h = record { low = omega (arith, ints); high = omega (arith, ints) }
in_range_some_type U64 v h = record { low = omega (arith, ints); high = omega (arith, ints) }

-- a number of the operator's type can be its right number
pub right_operand : (op : BinOp) (t : IntType) (y : ℤ) → InRange t y → IsRightOperand op t y
right_operand Add t y h = h
right_operand Sub t y h = h
right_operand Mul t y h = h
right_operand Div t y h = h
right_operand Rem t y h = h
right_operand And t y h = h
right_operand Or t y h = h
right_operand Xor t y h = h
right_operand Shl t y h = in_range_some_type t y h
right_operand Shr t y h = in_range_some_type t y h

pub sum_fits : (x y : ℤ) → IsOfSomeType x → IsOfSomeType y → FitsSigned w128 (x +ℤ y)
sum_fits x y p q = omega (arith, ints)

pub difference_fits : (x y : ℤ) → IsOfSomeType x → IsOfSomeType y → FitsSigned w128 (x -ℤ y)
difference_fits x y p q = omega (arith, ints)

-- ---- tests

pub le_test : (a b : ℤ) → a ≤ℤ b → int_le a b ≡ true
le_test a b h = grind (arith, ints)

pub le_fact : (a b : ℤ) → int_le a b ≡ true → a ≤ℤ b
le_fact a b h = omega (arith, ints)

both : (p q b : Bool) → (b ≡ true → (p ≡ true) × (q ≡ true)) → (p ≡ true → q ≡ true → b ≡ true) → b ≡ (p && q)
both true q true f g = sym (f refl).1
both true true false f g = g refl refl
both true false false f g = refl
both false q true f g = sym (f refl).0
both false q false f g = refl

pub in_range_test : (t : IntType) (v : ℤ) (b : Bool) → (IsTrue b ↔ InRange t v) → b ≡ is_in_range t v
in_range_test t v b h =
    both (int_le (least_of t) v) (int_le v (greatest_of t)) b
    (λ e. let r : InRange t v = h.0 e in (le_test (least_of t) v r.low, le_test v (greatest_of t) r.high))
    (λ e f. h.1 (record { low = le_fact (least_of t) v e; high = le_fact v (greatest_of t) f }))

pub in_range_from_true : (t : IntType) (v : ℤ) → is_in_range t v ≡ true → InRange t v
in_range_from_true t v e =
    let parts = and_parts (int_le (least_of t) v) (int_le v (greatest_of t)) e in
    record { low = le_fact (least_of t) v parts.0; high = le_fact v (greatest_of t) parts.1 }

pub nonzero_test : (y : ℤ) → (of_z w128 y ≡ 0 → ⊥) → int_eq y (pos 0) ≡ false
nonzero_test (pos zero) h = absurd (h refl)
nonzero_test (pos (suc n)) h = grind (arith, ints)
nonzero_test (negsuc n) h = refl

-- ---- division

pub quotient_fits : (x y : ℤ) → IsOfSomeType x → FitsSigned w128 (int_div x y)
quotient_fits (pos a) (pos b) h = omega (arith, ints, div-le_self a b)
quotient_fits (pos a) (negsuc b) h = omega (arith, ints, div-le_self a (suc b))
quotient_fits (negsuc a) (pos b) h = omega (arith, ints, div-le_self (suc a) b)
quotient_fits (negsuc a) (negsuc b) h = omega (arith, ints, div-le_self (suc a) (suc b))

-- ---- products

unsigned_low : (t : IntType) (v : ℤ) → is_signed t ≡ false → InRange t v → pos 0 ≤ℤ v
unsigned_low I8 v e h = cc
unsigned_low U8 v e h = h.low
unsigned_low I16 v e h = cc
unsigned_low U16 v e h = h.low
unsigned_low I32 v e h = cc
unsigned_low U32 v e h = h.low
unsigned_low I64 v e h = cc
unsigned_low U64 v e h = h.low

natural_product : (k : ℕ) (x y : ℤ) → pos 0 ≤ℤ x → pos 0 ≤ℤ y → bit_and (unsigned_abs x * unsigned_abs y) (2 ^ k - 1) ≡ residue (2 ^ k) (x *ℤ y)
natural_product k (pos a) (pos b) p q = and_mask (a * b) k
natural_product k (negsuc a) y p q = absurd (omega (arith, ints))
natural_product k (pos a) (negsuc b) p q = absurd (omega (arith, ints))

pub unsigned_product : (t : IntType) (x y : ℤ) → is_signed t ≡ false → InRange t x → InRange t y → bit_and (unsigned_abs x * unsigned_abs y) (2 ^ bits_of t - 1) ≡ representation t (x *ℤ y)
unsigned_product t x y e p q = natural_product (bits_of t) x y (unsigned_low t x e p) (unsigned_low t y e q)

pub settled_unsigned : (fault : Undef) (t : IntType) (v : ℤ) → is_signed t ≡ false → Ok (wrapped t v) ≡ settled fault t v
settled_unsigned fault t v e = sym (cond-false (is_signed t) (if is_in_range t v then Ok v else Err fault) (Ok (wrapped t v)) e)

-- the numbers of the signed types
record IsSmall (v : ℤ) : Type 0 where
  low : least_of I64 ≤ℤ v
  high : v ≤ℤ greatest_of I64

signed_small : (t : IntType) (v : ℤ) → is_signed t ≡ true → InRange t v → IsSmall v
signed_small I8 v e h = record { low = omega (arith, ints); high = omega (arith, ints) }
signed_small U8 v e h = cc
signed_small I16 v e h = record { low = omega (arith, ints); high = omega (arith, ints) }
signed_small U16 v e h = cc
signed_small I32 v e h = record { low = omega (arith, ints); high = omega (arith, ints) }
signed_small U32 v e h = cc
signed_small I64 v e h = record { low = omega (arith, ints); high = omega (arith, ints) }
signed_small U64 v e h = cc

small_abs : (v : ℤ) → IsSmall v → unsigned_abs v ≤ 2 ^ 63
small_abs (pos n) h = omega (arith, ints)
small_abs (negsuc n) h = omega (arith, ints)

pub signed_product_fits : (t : IntType) (x y : ℤ) → is_signed t ≡ true → InRange t x → InRange t y → FitsSigned w128 (x *ℤ y)
signed_product_fits t x y e p q =
    fits_signed_mul w128 x y (2 ^ 63) (2 ^ 63) (small_abs x (signed_small t x e p)) (small_abs y (signed_small t y e q)) (omega arith)

-- ---- shifts

-- the amount that was found
pub amount_found : (t : IntType) (y : ℤ) (k : ℕ) → Ok k ≡ (if is_amount t y then Ok (unsigned_abs y) else Err Shift) → (is_amount t y ≡ true) × (k ≡ unsigned_abs y)
amount_found t y k e = tested (is_amount t y) e
  where
    tested : (b : Bool) → Ok k ≡ (if b then Ok (unsigned_abs y) else Err Shift) → (b ≡ true) × (k ≡ unsigned_abs y)
    tested true e = (refl, cc)
    tested false e = cc

pub bits_at_most : (t : IntType) → bits_of t ≤ 64
bits_at_most I8 = omega arith
bits_at_most U8 = omega arith
bits_at_most I16 = omega arith
bits_at_most U16 = omega arith
bits_at_most I32 = omega arith
bits_at_most U32 = omega arith
bits_at_most I64 = omega arith
bits_at_most U64 = omega arith

abs_below : (y : ℤ) (n : ℕ) → int_le (pos 0) y ≡ true → int_lt y (pos n) ≡ true → unsigned_abs y < n
abs_below (pos k) n p q = omega (arith, ints)
abs_below (negsuc k) n p q = cc

pub amount_below : (t : IntType) (y : ℤ) → is_amount t y ≡ true → unsigned_abs y < 64
amount_below t y e =
    let parts = and_parts (int_le (pos 0) y) (int_lt y (pos (bits_of t))) e in
    let below = abs_below y (bits_of t) parts.0 parts.1 in
    omega (arith, bits_at_most t)

pub shifted : (x : ℤ) (k : ℕ) → IsOfSomeType x → pos 0 ≤ℤ x → k < 64 → to_z w128 ((of_z w128 x * 2 ^ k) % 2 ^ 128) ≡ x *ℤ pos (2 ^ k)
shifted (pos a) k h p l =
    let small : a < 2 ^ 64 = omega (arith, ints) in
    let whole = shl_whole a 64 k 128 small (omega arith) in
    let below : a * 2 ^ k < 2 ^ 127 = omega (arith, shl_below a 64 k small, pow_mono {i = 64 + k} {j = 127} (omega arith)) in
    ap (to_z w128) whole ∙ to_z_pos w128 (a * 2 ^ k) below
shifted (negsuc a) k h p l = absurd (omega (arith, ints))

not_negative : (x : ℤ) → int_lt x (pos 0) ≡ false → pos 0 ≤ℤ x
not_negative x h = omega (arith, ints)

pub shifted_left : (t : IntType) (x y : ℤ) (k : ℕ) (r : Result ℤ Undef) → IsOfSomeType x → is_amount t y ≡ true → k ≡ unsigned_abs y → int_lt x (pos 0) ≡ false → r ≡ settled Shift t (to_z w128 ((of_z w128 x * 2 ^ k) % 2 ^ 128)) → r ≡ arith_of Shl t x y
shifted_left t x y k r h a e n s =
    let low = not_negative x n in
    let small : k < 64 = rw e (amount_below t y a) in
    let exact = shifted x k h low small ∙ ap (λ j. x *ℤ pos (2 ^ j)) e in
    let tested : int_le (pos 0) x ≡ true = le_test (pos 0) x low in
    s ∙ ap (settled Shift t) exact ∙ rw (a, tested) refl

-- ---- what an operator gives is of the type

pub zero_in_range : (t : IntType) → InRange t (pos 0)
zero_in_range I8 = record { low = omega (arith, ints); high = omega (arith, ints) }
zero_in_range U8 = record { low = omega (arith, ints); high = omega (arith, ints) }
zero_in_range I16 = record { low = omega (arith, ints); high = omega (arith, ints) }
zero_in_range U16 = record { low = omega (arith, ints); high = omega (arith, ints) }
zero_in_range I32 = record { low = omega (arith, ints); high = omega (arith, ints) }
zero_in_range U32 = record { low = omega (arith, ints); high = omega (arith, ints) }
zero_in_range I64 = record { low = omega (arith, ints); high = omega (arith, ints) }
zero_in_range U64 = record { low = omega (arith, ints); high = omega (arith, ints) }

-- from zero, or from a number below it, to this one
pub up_to_in_range : (t : IntType) (v n : ℕ) → InRange t (pos v) → n ≤ v → InRange t (pos n)
up_to_in_range t v n h l =
    let zero = zero_in_range t in
    let low = zero.low in
    let high = h.high in
    record { low = omega (arith, ints); high = omega (arith, ints) }

down_to_in_range : (t : IntType) (v : ℕ) (z : ℤ) → InRange t (negsuc v) → negsuc v ≤ℤ z → z ≤ℤ pos 0 → InRange t z
down_to_in_range t v z h l u =
    let zero = zero_in_range t in
    let low = h.low in
    let high = zero.high in
    record { low = omega (arith, ints); high = omega (arith, ints) }

remainder_in_range : (t : IntType) (x y : ℤ) → InRange t x → InRange t (int_rem x y)
remainder_in_range t (pos a) y h = up_to_in_range t a (a % unsigned_abs y) h (mod-le a (unsigned_abs y))
remainder_in_range t (negsuc a) y h =
    let small = mod-le (suc a) (unsigned_abs y) in
    down_to_in_range t a (neg_ℤ (pos (suc a % unsigned_abs y))) h (omega (arith, ints)) (omega (arith, ints))

shifted_right_in_range : (t : IntType) (x : ℤ) (k : ℕ) → InRange t x → InRange t (int_shr x k)
shifted_right_in_range t (pos a) k h = up_to_in_range t a (a / 2 ^ k) h (div-le_self a (2 ^ k))
shifted_right_in_range t (negsuc a) k h =
    let small = div-le_self a (2 ^ k) in
    down_to_in_range t a (negsuc (a / 2 ^ k)) h (omega (arith, ints)) (omega (arith, ints))

-- the value of a test that succeeds
chosen : (b : Bool) (v z : ℤ) (fault : Undef) → (if b then Ok v else Err fault) ≡ Ok z → (b ≡ true) × (v ≡ z)
chosen true v z fault e = (refl, cc)
chosen false v z fault e = cc

pub settled_in_range : (fault : Undef) (t : IntType) (v z : ℤ) → settled fault t v ≡ Ok z → InRange t z
settled_in_range fault t v z e = cases (is_signed t) e
  where
    cases : (b : Bool) → (if b then (if is_in_range t v then Ok v else Err fault) else Ok (wrapped t v)) ≡ Ok z → InRange t z
    cases true e = let found = chosen (is_in_range t v) v z fault e in subst (InRange t) found.1 (in_range_from_true t v found.0)
    cases false e = let same : wrapped t v ≡ z = cc in subst (InRange t) same (wrapped_in_range t v)

bits_in_range : (t : IntType) (n : ℕ) (z : ℤ) → n < 2 ^ bits_of t → ◌≡◌ {A = Result ℤ Undef} (Ok (represented t n)) (Ok z) → InRange t z
bits_in_range t n z h e = let same : represented t n ≡ z = cc in subst (InRange t) same (represented_in_range t n h)

pub arith_in_range : (op : BinOp) (t : IntType) (x y z : ℤ) → InRange t x → arith_of op t x y ≡ Ok z → InRange t z
arith_in_range Add t x y z h e = settled_in_range Overflow t (x +ℤ y) z e
arith_in_range Sub t x y z h e = settled_in_range Overflow t (x -ℤ y) z e
arith_in_range Mul t x y z h e = settled_in_range Overflow t (x *ℤ y) z e
arith_in_range Div t x y z h e =
    let found = chosen (is_divisible t x y) (int_div x y) z Division e in
    let parts = and_parts (not (int_eq y (pos 0))) (is_in_range t (int_div x y)) found.0 in
    subst (InRange t) found.1 (in_range_from_true t (int_div x y) parts.1)
arith_in_range Rem t x y z h e =
    let found = chosen (is_divisible t x y) (int_rem x y) z Division e in
    subst (InRange t) found.1 (remainder_in_range t x y h)
arith_in_range And t x y z h e =
    let left = representation_below t x in
    bits_in_range t (bit_and (representation t x) (representation t y)) z (omega (arith, and_le_l (representation t x) (representation t y))) e
arith_in_range Or t x y z h e =
    bits_in_range t (bit_or (representation t x) (representation t y)) z (or_lt (bits_of t) _ _ (representation_below t x) (representation_below t y)) e
arith_in_range Xor t x y z h e =
    bits_in_range t (bit_xor (representation t x) (representation t y)) z (xor_lt (bits_of t) _ _ (representation_below t x) (representation_below t y)) e
arith_in_range Shl t x y z h e = shift (is_amount t y && int_le (pos 0) x) e
  where
    shift : (b : Bool) → (if b then settled Shift t (x *ℤ pos (2 ^ unsigned_abs y)) else Err Shift) ≡ Ok z → InRange t z
    shift true e = settled_in_range Shift t (x *ℤ pos (2 ^ unsigned_abs y)) z e
    shift false e = cc
arith_in_range Shr t x y z h e =
    let found = chosen (is_amount t y) (int_shr x (unsigned_abs y)) z Shift e in
    subst (InRange t) found.1 (shifted_right_in_range t x (unsigned_abs y) h)
