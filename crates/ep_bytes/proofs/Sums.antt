-- Numbers and their bytes, as the code adds them up.
use Rattle.std.proofs.Common.{◌≡◌, ℕ, zero, suc, ◌+◌, ◌-◌, ◌*◌, ◌/◌, ◌%◌, ◌^◌, ◌<◌, ◌≤◌, pos, sym, ap, subst, arith}
use Rattle.std.proofs.Math.Nat.{pow-suc, mod-eq_of_lt, mul-le-mul}
use Rattle.ep_int.specs.declared.types.IntType.{IntType}
use Rattle.ep_int.specs.declared.types.Order.{Order}
use Rattle.ep_int.specs.Types.{bytes_of, bits_of, represented, wrapped}
use Rattle.ep_int.specs.Encoding.{byte_of, place, sum_of_bytes, decoded}
use Rattle.ep_int.proofs.Encodings.{bytes_pow, sum_of_bytes_below}

pub byte_by_shift : (k n : ℕ) → n / 2 ^ (8 * k) % 256 ≡ byte_of k n
byte_by_shift k n = ap (λ m. n / m % 256) (sym (bytes_pow k))

-- so many bytes of a number fit 64 bits
units_below : (d k : ℕ) → k + d ≡ 8 → 256 ^ k ≤ 2 ^ 64
units_below zero k e = let h : k ≡ 8 = omega arith in rw h (omega arith)
units_below (suc d) k e =
    let more : 256 ^ suc k ≤ 2 ^ 64 = units_below d (suc k) (omega arith) in
    let next : 256 ^ suc k ≡ 256 ^ k * 256 = pow-suc 256 k in
    omega arith

pub unit_small : (k : ℕ) → k ≤ 8 → 256 ^ k ≤ 2 ^ 64
unit_small k h = let e : k + (8 - k) ≡ 8 = omega arith in units_below (8 - k) k e

pub sum_small : (b : ℕ → ℕ) (t : IntType) → ((k : ℕ) → k < bytes_of t → b k < 256)
    → sum_of_bytes b (bytes_of t) < 2 ^ bits_of t
sum_small b t h =
    subst (λ n. sum_of_bytes b (bytes_of t) < n) (bytes_pow (bytes_of t)) (sum_of_bytes_below b (bytes_of t) h)

pub decoded_by_sum : (o : Order) (t : IntType) (b : ℕ → ℕ) → ((k : ℕ) → b k < 256)
    → wrapped t (pos (sum_of_bytes (λ k. b (place o (bytes_of t) k)) (bytes_of t))) ≡ decoded o t b
decoded_by_sum o t b h =
    ap (represented t) (mod-eq_of_lt
    (sum_small (λ k. b (place o (bytes_of t) k)) t (λ k l. h (place o (bytes_of t) k))))

pub scaled : (b s : ℕ) → b < 256 → s ≤ 2 ^ 64 → b * s + s ≤ 256 * 2 ^ 64
scaled b s h l =
    let g : suc b ≤ 256 = omega arith in
    let both : suc b * s ≤ 256 * 2 ^ 64 = mul-le-mul g l in
    omega arith
