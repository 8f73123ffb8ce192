-- What the bits of results of arithmetic are, by those of the operands.
use Rattle.std.proofs.Common.{◌≡◌, ℕ, suc, ◌+◌, ◌-◌, ◌*◌, ◌/◌, ◌%◌, ◌^◌, ◌<◌, ◌≤◌, ℤ, pos, negsuc, ◌+ℤ◌, ◌*ℤ◌, Bool}
use Rattle.ep_int.proofs.Arithmetic.{le_fact}
use Rattle.ep_int.proofs.Basics.{ok-injective}
use Rattle.std.proofs.Common.{true, false, ◌&&◌, cond, Result, Ok, Err, refl, sym, ap, ◌∙◌, arith, bit_and, bit_or}
use Rattle.std.proofs.Common.{bit_xor}
use Rattle.std.specs.Prelude.{int_le, int_lt, nat_le, unsigned_abs}
use Rattle.std.specs.Int.{int_shr}
use Rattle.std.specs.Int.Bits.{or_add_and, xor_disjoint}
use Rattle.std.proofs.lemmas.Int.{ints}
use Rattle.std.proofs.lemmas.Nat.{mul-mod_first, and_le_l}
use Rattle.std.proofs.lemmas.Bool.{and_parts, leb-true, leb-false}
use Rattle.std.proofs.Math.Nat.{mod-eq_of_lt, add-mul-mod_self_right}
use Rattle.std.proofs.Math.IntN.{pos-*ℤ-pos}
use Rattle.ep_range_laws.proofs.Comparisons.{from_lt_true}
use Rattle.ep_int.specs.declared.types.IntType.{IntType}
use Rattle.ep_int.specs.declared.types.IntType.TheVariants.{I8, U8, I16, U16, I32, U32, I64, U64}
use Rattle.ep_int.specs.declared.types.BinOp.TheVariants.{Add, And, Or, Xor, Shl, Shr}
use Rattle.ep_int.specs.declared.types.Undef.{Undef}
use Rattle.ep_int.specs.declared.types.Undef.TheVariants.{Overflow, Shift}
use Rattle.ep_int.specs.Types.{bits_of, is_signed, InRange, residue, representation, represented, wrapped}
use Rattle.ep_int.specs.Arith.{arith_of, settled, is_in_range, is_amount}
use Rattle.ep_int.proofs.Wrapping.{representation_below, representation_represented}

-- ---- results that are in range, or reduced

-- conversion keeps the bits of its type
pub wrapped_bits : (t : IntType) (v : ℤ) → representation t (wrapped t v) ≡ representation t v
wrapped_bits t v = representation_represented t (representation t v) (representation_below t v)

settled_bits : (k : Undef) (t : IntType) (v z : ℤ) → settled k t v ≡ Ok z → representation t z ≡ representation t v
settled_bits k t v z e = by (is_signed t) (is_in_range t v) e
  where
    by : (s i : Bool) → ◌≡◌ {A = Result ℤ Undef} (cond s (cond i (Ok v) (Err k)) (Ok (wrapped t v))) (Ok z)
        → representation t z ≡ representation t v
    by true true e = ap (representation t) (sym (ok-injective v z e))
    by true false e = absurd cc
    by false i e = ap (representation t) (sym (ok-injective (wrapped t v) z e)) ∙ wrapped_bits t v

-- ---- sums

above : (t : IntType) (a : ℕ) → InRange t (pos a) → a < 2 ^ bits_of t
above I8 a h = let i = h.high in omega (arith, ints, i)
above U8 a h = let i = h.high in omega (arith, ints, i)
above I16 a h = let i = h.high in omega (arith, ints, i)
above U16 a h = let i = h.high in omega (arith, ints, i)
above I32 a h = let i = h.high in omega (arith, ints, i)
above U32 a h = let i = h.high in omega (arith, ints, i)
above I64 a h = let i = h.high in omega (arith, ints, i)
above U64 a h = let i = h.high in omega (arith, ints, i)

below : (t : IntType) (a : ℕ) → InRange t (negsuc a) → 2 * a + 2 ≤ 2 ^ bits_of t
below I8 a h = let i = h.low in omega (arith, ints, i)
below U8 a h = let i = h.low in absurd (omega (arith, ints, i))
below I16 a h = let i = h.low in omega (arith, ints, i)
below U16 a h = let i = h.low in absurd (omega (arith, ints, i))
below I32 a h = let i = h.low in omega (arith, ints, i)
below U32 a h = let i = h.low in absurd (omega (arith, ints, i))
below I64 a h = let i = h.low in omega (arith, ints, i)
below U64 a h = let i = h.low in absurd (omega (arith, ints, i))

both_above : (m a b : ℕ) → a < m → b < m → residue m (pos a +ℤ pos b) ≡ (residue m (pos a) + residue m (pos b)) % m
both_above m a b h i =
    ap (residue m) (let e : pos a +ℤ pos b ≡ pos (a + b) = omega (arith, ints) in e)
    ∙ sym (rw (mod-eq_of_lt h, mod-eq_of_lt i) refl)

-- a number that isn't negative, and one that is
apart : (m a b : ℕ) → a < m → b < m → residue m (pos a +ℤ negsuc b) ≡ (a % m + (m - 1 - b % m)) % m
apart m a b h i = by (nat_le (suc b) a) refl
  where
    by : (t : Bool) → nat_le (suc b) a ≡ t → residue m (pos a +ℤ negsuc b) ≡ (a % m + (m - 1 - b % m)) % m
    by true e =
        let l : suc b ≤ a = leb-true (suc b) a e in
        let z : pos a +ℤ negsuc b ≡ pos (a - suc b) = omega (arith, ints, l) in
        let s : a + (m - 1 - b) ≡ (a - suc b) + 1 * m = omega (arith, l, h, i) in
        ap (residue m) z
        ∙ sym (rw (mod-eq_of_lt h, mod-eq_of_lt i) (ap (λ x. x % m) s ∙ add-mul-mod_self_right (a - suc b) 1 m))
    by false e =
        let l : a < suc b = leb-false (suc b) a e in
        let z : pos a +ℤ negsuc b ≡ negsuc (b - a) = omega (arith, ints, l) in
        let q : b - a < m = omega (arith, h, i) in
        let r : a + (m - 1 - b) < m = omega (arith, l, h, i) in
        let s : m - 1 - (b - a) ≡ a + (m - 1 - b) = omega (arith, l, h, i) in
        ap (residue m) z
        ∙ (ap (λ x. m - 1 - x) (mod-eq_of_lt q) ∙ (s ∙ sym (rw (mod-eq_of_lt h, mod-eq_of_lt i) (mod-eq_of_lt r))))

both_below : (m a b : ℕ) → 2 * a + 2 ≤ m → 2 * b + 2 ≤ m
    → residue m (negsuc a +ℤ negsuc b) ≡ ((m - 1 - a % m) + (m - 1 - b % m)) % m
both_below m a b h i =
    let ha : a < m = omega (arith, h) in
    let hb : b < m = omega (arith, i) in
    let z : negsuc a +ℤ negsuc b ≡ negsuc (a + b + 1) = omega (arith, ints) in
    let q : a + b + 1 < m = omega (arith, h, i) in
    let s : (m - 1 - a) + (m - 1 - b) ≡ (m - 1 - (a + b + 1)) + 1 * m = omega (arith, h, i) in
    let r : m - 1 - (a + b + 1) < m = omega (arith, q) in
    ap (residue m) z
    ∙ (ap (λ x. m - 1 - x) (mod-eq_of_lt q)
    ∙ sym (rw (mod-eq_of_lt ha, mod-eq_of_lt hb)
    (ap (λ x. x % m) s ∙ (add-mul-mod_self_right (m - 1 - (a + b + 1)) 1 m ∙ mod-eq_of_lt r))))

swapped : (m a b : ℕ) → a < m → b < m → residue m (negsuc b +ℤ pos a) ≡ ((m - 1 - b % m) + a % m) % m
swapped m a b h i =
    ap (residue m) (let e : negsuc b +ℤ pos a ≡ pos a +ℤ negsuc b = omega (arith, ints) in e)
    ∙ (apart m a b h i ∙ ap (λ x. x % m) (let e : a % m + (m - 1 - b % m) ≡ (m - 1 - b % m) + a % m = omega arith in e))

less_than : (a m : ℕ) → 2 * a + 2 ≤ m → a < m
less_than a m h = omega (arith, h)

sum_bits : (t : IntType) (u v : ℤ) → InRange t u → InRange t v
    → representation t (u +ℤ v) ≡ (representation t u + representation t v) % 2 ^ bits_of t
sum_bits t (pos a) (pos b) h i = both_above (2 ^ bits_of t) a b (above t a h) (above t b i)
sum_bits t (pos a) (negsuc b) h i = apart (2 ^ bits_of t) a b (above t a h) (less_than b (2 ^ bits_of t) (below t b i))
sum_bits t (negsuc a) (pos b) h i = swapped (2 ^ bits_of t) b a (above t b i)
    (less_than a (2 ^ bits_of t) (below t a h))
sum_bits t (negsuc a) (negsuc b) h i = both_below (2 ^ bits_of t) a b (below t a h) (below t b i)

pub add_bits : (t : IntType) (u v z : ℤ) → InRange t u → InRange t v → arith_of Add t u v ≡ Ok z
    → representation t z ≡ (representation t u + representation t v) % 2 ^ bits_of t
add_bits t u v z h i e = settled_bits Overflow t (u +ℤ v) z e ∙ sum_bits t u v h i

-- ---- bitwise operators

pub and_bits : (t : IntType) (u v z : ℤ) → arith_of And t u v ≡ Ok z
    → representation t z ≡ bit_and (representation t u) (representation t v)
and_bits t u v z e =
    let n = bit_and (representation t u) (representation t v) in
    let l : n < 2 ^ bits_of t = omega
    (arith, and_le_l (representation t u) (representation t v), representation_below t u) in
    ap (representation t) (sym (ok-injective (represented t n) z e)) ∙ representation_represented t n l

-- where no bit is in both
pub or_bits : (t : IntType) (u v z : ℤ) (n : ℕ) → bit_or (representation t u) (representation t v) ≡ n
    → n < 2 ^ bits_of t
    → arith_of Or t u v ≡ Ok z → representation t z ≡ n
or_bits t u v z n i l e =
    ap (representation t) (sym (ok-injective (represented t (bit_or (representation t u) (representation t v))) z e))
    ∙ (ap (λ x. representation t (represented t x)) i ∙ representation_represented t n l)

xor_is : (a b n : ℕ) → bit_or a b ≡ n → n ≡ a + b → bit_xor a b ≡ n
xor_is a b n e f = let s = or_add_and a b in let z : bit_and a b ≡ 0 = omega (arith, e, f, s) in xor_disjoint a b z
    ∙ sym f

pub xor_bits : (t : IntType) (u v z : ℤ) (n : ℕ) → bit_or (representation t u) (representation t v) ≡ n
    → n ≡ representation t u + representation t v → n < 2 ^ bits_of t
    → arith_of Xor t u v ≡ Ok z → representation t z ≡ n
xor_bits t u v z n i f l e =
    ap (representation t) (sym (ok-injective (represented t (bit_xor (representation t u) (representation t v))) z e))
    ∙ (ap (λ x. representation t (represented t x)) (xor_is (representation t u) (representation t v) n i f)
    ∙ representation_represented t n l)

-- ---- shifts

pub amount_below : (t : IntType) (y : ℤ) → (int_le (pos 0) y && int_lt y (pos (bits_of t))) ≡ true
    → unsigned_abs y < bits_of t
amount_below t (pos a) e =
    let q = and_parts (int_le (pos 0) (pos a)) (int_lt (pos a) (pos (bits_of t))) e in
    let l = from_lt_true (pos a) (pos (bits_of t)) q.1 in omega (arith, ints, l)
amount_below t (negsuc a) e =
    let q = and_parts (int_le (pos 0) (negsuc a)) (int_lt (negsuc a) (pos (bits_of t))) e in
    let l = le_fact (pos 0) (negsuc a) q.0 in absurd (omega (arith, ints, l))

product_bits : (m k : ℕ) (x : ℤ) → int_le (pos 0) x ≡ true → residue m (x *ℤ pos (2 ^ k)) ≡ (residue m x * 2 ^ k) % m
product_bits m k (pos a) l = ap (residue m) (pos-*ℤ-pos a (2 ^ k)) ∙ sym (mul-mod_first a (2 ^ k) m)
product_bits m k (negsuc a) l = let q = le_fact (pos 0) (negsuc a) l in absurd (omega (arith, ints, q))

pub left_bits : (t : IntType) (u v z : ℤ) → arith_of Shl t u v ≡ Ok z
    → representation t z ≡ (representation t u * 2 ^ unsigned_abs v) % 2 ^ bits_of t
left_bits t u v z e = by (is_amount t v) (int_le (pos 0) u) refl e
  where
    by : (a b : Bool) → int_le (pos 0) u ≡ b
        → ◌≡◌ {A = Result ℤ Undef} (cond (a && b) (settled Shift t (u *ℤ pos (2 ^ unsigned_abs v))) (Err Shift)) (Ok z)
        → representation t z ≡ (representation t u * 2 ^ unsigned_abs v) % 2 ^ bits_of t
    by true true l e =
        settled_bits Shift t (u *ℤ pos (2 ^ unsigned_abs v)) z e ∙ product_bits (2 ^ bits_of t) (unsigned_abs v) u l
    by true false l e = absurd cc
    by false b l e = absurd cc

-- of a number that isn't negative
shifted_bits : (t : IntType) (u : ℤ) (k : ℕ) → InRange t u → int_le (pos 0) u ≡ true
    → representation t (int_shr u k) ≡ (representation t u / 2 ^ k) % 2 ^ bits_of t
shifted_bits t (pos a) k h l = ap (λ x. x / 2 ^ k % 2 ^ bits_of t) (sym (mod-eq_of_lt (above t a h)))
shifted_bits t (negsuc a) k h l = let q = le_fact (pos 0) (negsuc a) l in absurd (omega (arith, ints, q))

pub right_bits : (t : IntType) (u v z : ℤ) → InRange t u → int_le (pos 0) u ≡ true → arith_of Shr t u v ≡ Ok z
    → representation t z ≡ (representation t u / 2 ^ unsigned_abs v) % 2 ^ bits_of t
right_bits t u v z h l e = by (is_amount t v) e
  where
    by : (a : Bool) → ◌≡◌ {A = Result ℤ Undef} (cond a (Ok (int_shr u (unsigned_abs v))) (Err Shift)) (Ok z)
        → representation t z ≡ (representation t u / 2 ^ unsigned_abs v) % 2 ^ bits_of t
    by true e = ap (representation t) (sym (ok-injective (int_shr u (unsigned_abs v)) z e))
        ∙ shifted_bits t u (unsigned_abs v) h l
    by false e = absurd cc

-- ---- conversion to a wider type, of a number that isn't negative

pub wider_bits : (t r : IntType) (u : ℤ) → InRange t u → int_le (pos 0) u ≡ true
    → residue (2 ^ bits_of r) u ≡ representation t u % 2 ^ bits_of r
wider_bits t r (pos a) h l = ap (λ x. x % 2 ^ bits_of r) (sym (mod-eq_of_lt (above t a h)))
wider_bits t r (negsuc a) h l = let q = le_fact (pos 0) (negsuc a) l in absurd (omega (arith, ints, q))
