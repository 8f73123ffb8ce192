-- Laws of representations and of conversion.
use Rattle.std.proofs.Common.{◌≡◌, ℕ, suc, ◌+◌, ◌-◌, ◌*◌, ◌/◌, ◌%◌, ◌^◌, ◌<◌, true, false, nat_le, if◌then◌else◌, ℤ}
use Rattle.std.proofs.Common.{pos, negsuc, ◌+ℤ◌, ◌*ℤ◌, ◌≤ℤ◌, bit_and, of_z, FitsSigned, ◌⊎◌, inl, inr, ⊎_elim, refl}
use Rattle.std.proofs.Common.{sym, ◌∙◌, ap, subst, arith}
use Rattle.std.proofs.lemmas.Int.{ints}
use Rattle.std.proofs.lemmas.Nat.{pow_pos, pow-add, shr_below, and_mask, mod_below, div-add-mod', mod-mul-add}
use Rattle.std.specs.Int.{w128}
use Rattle.std.proofs.Math.Nat.{mod-eq_of_lt, add-mul}
use Rattle.std.proofs.Math.IntN.{suc_ℤ, suc_ℤ-*ℤ}
use Rattle.ep_int.specs.declared.types.IntType.{IntType}
use Rattle.ep_int.specs.declared.types.IntType.TheVariants.{I8, U8, I16, U16, I32, U32, I64, U64}
use Rattle.ep_int.specs.Types.{bytes_of, bits_of, InRange, IsCongruent, residue, representation, represented, wrapped}

pub bytes_of_positive : (t : IntType) → 0 < bytes_of t
bytes_of_positive I8 = omega arith
bytes_of_positive U8 = omega arith
bytes_of_positive I16 = omega arith
bytes_of_positive U16 = omega arith
bytes_of_positive I32 = omega arith
bytes_of_positive U32 = omega arith
bytes_of_positive I64 = omega arith
bytes_of_positive U64 = omega arith

pub residue_below : (m : ℕ) (v : ℤ) → 0 < m → residue m v < m
residue_below m (pos n) h = mod_below n m h
residue_below m (negsuc n) h = omega arith

pub representation_below : (t : IntType) (v : ℤ) → representation t v < 2 ^ bits_of t
representation_below t v = residue_below (2 ^ bits_of t) v (pow_pos (bits_of t))

-- The number from -half to half - 1 that has these bits, in two's complement.
abbrev signed_number : ℕ → ℕ → ℤ
signed_number half n = if nat_le half n then negsuc (2 * half - 1 - n) else pos n

-- A signed type has the numbers from -half to half - 1.
signed_low : (half n : ℕ) → 0 < half → n < 2 * half → negsuc (half - 1) ≤ℤ signed_number half n
signed_low half n p h = grind (arith, ints)

signed_high : (half n : ℕ) → 0 < half → n < 2 * half → signed_number half n ≤ℤ pos (half - 1)
signed_high half n p h = grind (arith, ints)

unsigned_high : (top n : ℕ) → n < suc top → pos n ≤ℤ pos top
unsigned_high top n h = omega (arith, ints)

pub represented_in_range : (t : IntType) (n : ℕ) → n < 2 ^ bits_of t → InRange t (represented t n)
represented_in_range I8 n h = record { low = signed_low 128 n (omega arith) h; high = signed_high 128 n (omega arith) h }
represented_in_range U8 n h = record { low = omega (arith, ints); high = unsigned_high 255 n h }
represented_in_range I16 n h = record { low = signed_low 32768 n (omega arith) h; high = signed_high 32768 n (omega arith) h }
represented_in_range U16 n h = record { low = omega (arith, ints); high = unsigned_high 65535 n h }
represented_in_range I32 n h = record { low = signed_low 2147483648 n (omega arith) h; high = signed_high 2147483648 n (omega arith) h }
represented_in_range U32 n h = record { low = omega (arith, ints); high = unsigned_high 4294967295 n h }
represented_in_range I64 n h = record { low = signed_low 9223372036854775808 n (omega arith) h; high = signed_high 9223372036854775808 n (omega arith) h }
represented_in_range U64 n h = record { low = omega (arith, ints); high = unsigned_high 18446744073709551615 n h }

pub wrapped_in_range : (t : IntType) (v : ℤ) → InRange t (wrapped t v)
wrapped_in_range t v = represented_in_range t (representation t v) (representation_below t v)

-- ---- a number of the type is the one that its bits represent

positive_back : (half n : ℕ) → n < half → signed_number half (n % (2 * half)) ≡ pos n
positive_back half n h =
    let small : n < 2 * half = omega arith in
    rw mod-eq_of_lt (grind (arith, ints))

negative_back : (half n : ℕ) → n < half → signed_number half (2 * half - 1 - n % (2 * half)) ≡ negsuc n
negative_back half n h =
    let small : n < 2 * half = omega arith in
    rw mod-eq_of_lt (grind (arith, ints))

signed_back : (half : ℕ) (v : ℤ) → 0 < half → negsuc (half - 1) ≤ℤ v → v ≤ℤ pos (half - 1) → signed_number half (residue (2 * half) v) ≡ v
signed_back half (pos n) p l h = positive_back half n (omega (arith, ints))
signed_back half (negsuc n) p l h = negative_back half n (omega (arith, ints))

unsigned_back : (top : ℕ) (v : ℤ) → pos 0 ≤ℤ v → v ≤ℤ pos top → pos (residue (suc top) v) ≡ v
unsigned_back top (pos n) l h = ap pos (mod-eq_of_lt (omega (arith, ints)))
unsigned_back top (negsuc n) l h = absurd (omega (arith, ints))

pub wrapped_same : (t : IntType) (v : ℤ) → InRange t v → wrapped t v ≡ v
wrapped_same I8 v h = signed_back 128 v (omega arith) h.low h.high
wrapped_same U8 v h = unsigned_back 255 v h.low h.high
wrapped_same I16 v h = signed_back 32768 v (omega arith) h.low h.high
wrapped_same U16 v h = unsigned_back 65535 v h.low h.high
wrapped_same I32 v h = signed_back 2147483648 v (omega arith) h.low h.high
wrapped_same U32 v h = unsigned_back 4294967295 v h.low h.high
wrapped_same I64 v h = signed_back 9223372036854775808 v (omega arith) h.low h.high
wrapped_same U64 v h = unsigned_back 18446744073709551615 v h.low h.high

-- a number of the type is represented by its bits
pub represented_representation : (t : IntType) (v : ℤ) → InRange t v → represented t (representation t v) ≡ v
represented_representation t v h = wrapped_same t v h

-- ---- bits are those of the number that they represent

signed_bits : (half n : ℕ) → n < 2 * half → residue (2 * half) (signed_number half n) ≡ n
signed_bits half n h =
    elim (nat_le half n) as (λ b. residue (2 * half) (if b then negsuc (2 * half - 1 - n) else pos n) ≡ n)
    [ true ↦ residue_complement (2 * half) n h | false ↦ mod-eq_of_lt h ]
  where
    residue_complement : (m n : ℕ) → n < m → m - 1 - (m - 1 - n) % m ≡ n
    residue_complement m n h =
        let below : m - 1 - n < m = omega arith in
        rw mod-eq_of_lt (omega arith)

pub representation_represented : (t : IntType) (n : ℕ) → n < 2 ^ bits_of t → representation t (represented t n) ≡ n
representation_represented I8 n h = signed_bits 128 n h
representation_represented U8 n h = mod-eq_of_lt h
representation_represented I16 n h = signed_bits 32768 n h
representation_represented U16 n h = mod-eq_of_lt h
representation_represented I32 n h = signed_bits 2147483648 n h
representation_represented U32 n h = mod-eq_of_lt h
representation_represented I64 n h = signed_bits 9223372036854775808 n h
representation_represented U64 n h = mod-eq_of_lt h

-- ---- conversion keeps the number modulo 2 to the width

residue_congruent : (m : ℕ) (v : ℤ) → 0 < m → (k : ℤ) × (v ≡ pos (residue m v) +ℤ (k *ℤ pos m))
residue_congruent m (pos n) p = (pos (n / m), omega (arith, ints, div-add-mod' n m))
residue_congruent m (negsuc n) p = (negsuc (n / m), omega (arith, ints, div-add-mod' n m, mod_below n m p))

-- the number that bits represent is theirs, or 2 to the width less
abbrev IsOneTurnOff : ℕ → ℕ → ℤ → Type 0
IsOneTurnOff m n v = (pos n ≡ v) ⊎ (pos n ≡ v +ℤ pos m)

signed_off : (half n : ℕ) → n < 2 * half → IsOneTurnOff (2 * half) n (signed_number half n)
signed_off half n h =
    elim (nat_le half n) as (λ b. IsOneTurnOff (2 * half) n (if b then negsuc (2 * half - 1 - n) else pos n))
    [ true ↦ inr (omega (arith, ints)) | false ↦ inl refl ]

represented_off : (t : IntType) (n : ℕ) → n < 2 ^ bits_of t → IsOneTurnOff (2 ^ bits_of t) n (represented t n)
represented_off I8 n h = signed_off 128 n h
represented_off U8 n h = inl refl
represented_off I16 n h = signed_off 32768 n h
represented_off U16 n h = inl refl
represented_off I32 n h = signed_off 2147483648 n h
represented_off U32 n h = inl refl
represented_off I64 n h = signed_off 9223372036854775808 n h
represented_off U64 n h = inl refl

one_turn_more : (v w k m : ℤ) (n : ℕ) → v ≡ pos n +ℤ (k *ℤ m) → pos n ≡ w +ℤ m → v ≡ w +ℤ (suc_ℤ k *ℤ m)
one_turn_more v w k m n p q = omega (arith, ints, suc_ℤ-*ℤ k m)

pub wrapped_congruent : (t : IntType) (v : ℤ) → IsCongruent t v (wrapped t v)
wrapped_congruent t v =
    let M : ℕ = 2 ^ bits_of t in
    let kept = residue_congruent M v (pow_pos (bits_of t)) in
    ⊎_elim
    (λ same. (kept.0, subst (λ w. v ≡ w +ℤ (kept.0 *ℤ pos M)) same kept.1))
    (λ off. (suc_ℤ kept.0, one_turn_more v (wrapped t v) kept.0 (pos M) (representation t v) kept.1 off))
    (represented_off t (representation t v) (representation_below t v))

-- ---- the bits of a number of 128 bits

-- 2 to the power j + k is a multiple of 2 to the power k
wide_complement : (j k n : ℕ) → n < 2 ^ (j + k) → (2 ^ (j + k) - suc n) % 2 ^ k ≡ 2 ^ k - 1 - n % 2 ^ k
wide_complement j k n h =
    let m = 2 ^ k in
    let small : n % m < m = mod_below n m (pow_pos k) in
    let rows : n / m < 2 ^ j = shr_below n j k h in
    let left = 2 ^ j - suc (n / m) in
    let turns : left * m + suc (n / m) * m ≡ 2 ^ j * m =
    let sum : left + suc (n / m) ≡ 2 ^ j = omega arith in
    sym (add-mul left (suc (n / m)) m) ∙ ap (λ x. x * m) sum in
    let split : 2 ^ (j + k) - suc n ≡ left * m + (m - 1 - n % m) = omega (arith, turns, pow-add 2 j k, div-add-mod' n m) in
    ap (λ x. x % m) split ∙ mod-mul-add left m (m - 1 - n % m) (omega arith)

pub masked : (j k : ℕ) (v : ℤ) → j + k ≡ 128 → FitsSigned w128 v → bit_and (of_z w128 v) (2 ^ k - 1) ≡ residue (2 ^ k) v
masked j k (pos n) e f = and_mask n k
masked j k (negsuc n) e f =
    let below : n < 2 ^ (j + k) = rw e (omega (arith, f.sfits)) in
    let wide : (2 ^ 128 - suc n) % 2 ^ k ≡ 2 ^ k - 1 - n % 2 ^ k = subst (λ w. (2 ^ w - suc n) % 2 ^ k ≡ 2 ^ k - 1 - n % 2 ^ k) e (wide_complement j k n below) in
    and_mask (2 ^ 128 - suc n) k ∙ wide

-- the bits that a type keeps of a number of 128 bits
pub masked_representation : (t : IntType) (v : ℤ) → FitsSigned w128 v → bit_and (of_z w128 v) (2 ^ bits_of t - 1) ≡ representation t v
masked_representation I8 v f = masked 120 8 v refl f
masked_representation U8 v f = masked 120 8 v refl f
masked_representation I16 v f = masked 112 16 v refl f
masked_representation U16 v f = masked 112 16 v refl f
masked_representation I32 v f = masked 96 32 v refl f
masked_representation U32 v f = masked 96 32 v refl f
masked_representation I64 v f = masked 64 64 v refl f
masked_representation U64 v f = masked 64 64 v refl f
