-- Numbers and their bytes.
use Rattle.std.proofs.Common.{◌≡◌, ℕ, zero, suc, ◌+◌, ◌-◌, ◌*◌, ◌/◌, ◌%◌, ◌^◌, ◌<◌, ◌≤◌, ℤ, ⊎_elim, refl, sym, ◌∙◌}
use Rattle.std.proofs.Common.{ap, subst, arith}
use Rattle.std.proofs.lemmas.Bool.{cases_lt}
use Rattle.std.proofs.lemmas.Nat.{mod_below, pow-add}
use Rattle.std.proofs.Math.Nat.{pow-suc, pow-succ', one-le-pow, mod-one, mod-eq_of_lt, add-mul-div_right}
use Rattle.std.proofs.Math.Nat.{add-mul-mod_self_right, div-eq_of_lt, mul-le-mul_right}
use Rattle.std.proofs.Math.Arith.{mod-mul}
use Rattle.ep_int.specs.declared.types.IntType.{IntType}
use Rattle.ep_int.specs.declared.types.Order.{Order}
use Rattle.ep_int.specs.Types.{bytes_of, bits_of, InRange, representation, represented}
use Rattle.ep_int.specs.Encoding.{place, byte_of, encoded, sum_of_bytes, decoded}
use Rattle.ep_int.proofs.Places.{width_of, place_below, place_back}
use Rattle.ep_int.proofs.Wrapping.{representation_below, representation_represented, wrapped_same}

pub byte_below : (k n : ℕ) → byte_of k n < 256
byte_below k n = mod_below (n / 256 ^ k) 256 (omega arith)

pub bytes_pow_pos : (k : ℕ) → 0 < 256 ^ k
bytes_pow_pos k = omega (arith, one-le-pow k 256 (omega arith))

-- as many numbers have these bytes as have these bits
pub bytes_pow : (w : ℕ) → 256 ^ w ≡ 2 ^ (8 * w)
bytes_pow zero = refl
bytes_pow (suc w) =
    let more : 8 * suc w ≡ 8 * w + 8 = omega arith in
    pow-suc 256 w ∙ ap (λ n. n * 256) (bytes_pow w) ∙ sym (ap (λ n. 2 ^ n) more ∙ pow-add 2 (8 * w) 8)

-- ---- the sum of some bytes

-- the same bytes have the same sum
pub sum_of_bytes_same : (b c : ℕ → ℕ) (w : ℕ) → ((k : ℕ) → k < w → b k ≡ c k) → sum_of_bytes b w ≡ sum_of_bytes c w
sum_of_bytes_same b c zero h = refl
sum_of_bytes_same b c (suc w) h =
    let low = sum_of_bytes_same b c w (λ k l. h k (omega arith)) in
    let top : b w ≡ c w = h w (omega arith) in
    cc

-- the bytes of a number add up to it, as far as they reach
pub sum_of_bytes-byte_of : (n k : ℕ) → sum_of_bytes (λ j. byte_of j n) k ≡ n % 256 ^ k
sum_of_bytes-byte_of n zero = sym (mod-one n)
sum_of_bytes-byte_of n (suc k) =
    let low = sum_of_bytes-byte_of n k in
    let next : n % (256 * 256 ^ k) ≡ (n / 256 ^ k % 256) * 256 ^ k + n % 256 ^ k = mod-mul n {m = 256} {c = 256 ^ k} (omega arith) (bytes_pow_pos k) in
    rw pow-succ' (omega (arith, low, next))

pub sum_of_bytes_below : (b : ℕ → ℕ) (w : ℕ) → ((k : ℕ) → k < w → b k < 256) → sum_of_bytes b w < 256 ^ w
sum_of_bytes_below b zero h = omega arith
sum_of_bytes_below b (suc w) h =
    let low = sum_of_bytes_below b w (λ k l. h k (omega arith)) in
    let top : b w ≤ 255 = let l = h w (omega arith) in omega arith in
    rw pow-suc (omega (arith, mul-le-mul_right (256 ^ w) top))

-- ---- the bytes of a sum

-- what is added above a byte leaves it as it is
byte_of_low : (s c k d : ℕ) → byte_of k (s + c * 256 ^ (k + suc d)) ≡ byte_of k s
byte_of_low s c k d =
    let high = c * 256 ^ d in
    let power : 256 ^ (k + suc d) ≡ 256 ^ k * (256 ^ d * 256) = pow-add 256 k (suc d) ∙ ap (λ n. 256 ^ k * n) (pow-suc 256 d) in
    let shape : s + c * 256 ^ (k + suc d) ≡ s + high * 256 * 256 ^ k = ap (λ n. s + c * n) power ∙ omega arith in
    ap (λ n. n / 256 ^ k % 256) shape ∙ ap (λ n. n % 256) (add-mul-div_right s (high * 256) (bytes_pow_pos k)) ∙ add-mul-mod_self_right (s / 256 ^ k) high 256

byte_of_high : (s c k : ℕ) → s < 256 ^ k → c < 256 → byte_of k (s + c * 256 ^ k) ≡ c
byte_of_high s c k h l =
    let place : (s + c * 256 ^ k) / 256 ^ k ≡ c = add-mul-div_right s c (bytes_pow_pos k) ∙ ap (λ n. n + c) (div-eq_of_lt h) ∙ omega arith in
    ap (λ n. n % 256) place ∙ mod-eq_of_lt l

pub byte_of-sum_of_bytes : (b : ℕ → ℕ) (w k : ℕ) → ((j : ℕ) → j < w → b j < 256) → k < w → byte_of k (sum_of_bytes b w) ≡ b k
byte_of-sum_of_bytes b zero k h l = absurd (omega arith)
byte_of-sum_of_bytes b (suc w) k h l =
    let before : (j : ℕ) → j < w → b j < 256 = λ j m. h j (omega arith) in
    ⊎_elim
    (λ below.
    let far : w ≡ k + suc (w - suc k) = omega arith in
    let power = ap (λ n. sum_of_bytes b w + b w * 256 ^ n) far in
    ap (byte_of k) power ∙ byte_of_low (sum_of_bytes b w) (b w) k (w - suc k) ∙ byte_of-sum_of_bytes b w k before below)
    (λ above.
    let same : k ≡ w = omega arith in
    let here = byte_of_high (sum_of_bytes b w) (b w) w (sum_of_bytes_below b w before) (h w (omega arith)) in
    subst (λ n. byte_of n (sum_of_bytes b w + b w * 256 ^ w) ≡ b n) (sym same) here)
    (cases_lt k w)

-- ---- numbers of a type

-- equal bytes at the places of a type are of one number
pub decoded_same : (o : Order) (t : IntType) (b c : ℕ → ℕ) → ((p : ℕ) → p < bytes_of t → b p ≡ c p) → decoded o t b ≡ decoded o t c
decoded_same o t b c h =
    ap (represented t) (sum_of_bytes_same (λ k. b (place o (bytes_of t) k)) (λ k. c (place o (bytes_of t) k)) (bytes_of t) (λ k l. h (place o (bytes_of t) k) (place_below o (bytes_of t) k (width_of t) l)))

pub decoded_encoded : (o : Order) (t : IntType) (v : ℤ) → InRange t v → decoded o t (encoded o t v) ≡ v
decoded_encoded o t v h =
    let w = bytes_of t in
    let n = representation t v in
    let placed = sum_of_bytes_same (λ k. byte_of (place o w (place o w k)) n) (λ k. byte_of k n) w (λ k l. ap (λ j. byte_of j n) (place_back o w k (width_of t) l)) in
    let below : n < 256 ^ w = rw bytes_pow (representation_below t v) in
    ap (represented t) (placed ∙ sum_of_bytes-byte_of n w ∙ mod-eq_of_lt below) ∙ wrapped_same t v h

pub encoded_decoded : (o : Order) (t : IntType) (b : ℕ → ℕ) (p : ℕ) → ((q : ℕ) → q < bytes_of t → b q < 256) → p < bytes_of t → encoded o t (decoded o t b) p ≡ b p
encoded_decoded o t b p h l =
    let w = bytes_of t in
    let placed : ℕ → ℕ = λ k. b (place o w k) in
    let small : (k : ℕ) → k < w → placed k < 256 = λ k m. h (place o w k) (place_below o w k (width_of t) m) in
    let below : sum_of_bytes placed w < 2 ^ bits_of t = subst (λ n. sum_of_bytes placed w < n) (bytes_pow w) (sum_of_bytes_below placed w small) in
    ap (byte_of (place o w p)) (representation_represented t (sum_of_bytes placed w) below)
    ∙ byte_of-sum_of_bytes placed w (place o w p) small (place_below o w p (width_of t) l)
    ∙ ap b (place_back o w p (width_of t) l)
