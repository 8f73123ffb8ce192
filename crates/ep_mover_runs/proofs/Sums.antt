-- Numbers by their bytes, and what operators make of them.
use Rattle.std.proofs.Common.{◌≡◌, ℕ, zero, suc, ◌+◌, ◌-◌, ◌*◌, ◌/◌, ◌%◌, ◌^◌, ◌<◌, ◌≤◌}
use Rattle.std.proofs.Common.{refl, sym, ◌∙◌, ap, subst, arith}
use Rattle.std.proofs.lemmas.Nat.{pow-add, shl-shr, shr-shr}
use Rattle.std.proofs.Math.Nat.{add-mul, mod-eq_of_lt, div-eq_of_lt, zero-div, zero-mod, mul-mod_left}
use Rattle.std.proofs.Math.Nat.{pow-suc}
use Rattle.ep_int.specs.Encoding.{byte_of, sum_of_bytes}
use Rattle.ep_int.proofs.Basics.{power-le}
use Rattle.ep_int.proofs.Encodings.{bytes_pow, sum_of_bytes_same, sum_of_bytes-byte_of, sum_of_bytes_below}

-- bytes of numbers below 256, as many as a number has
abbrev pub AreSmall : (ℕ → ℕ) → ℕ → Type 0
AreSmall b w = (k : ℕ) → k < w → b k < 256

pub sum_below : (b : ℕ → ℕ) (w : ℕ) → AreSmall b w → sum_of_bytes b w < 2 ^ (8 * w)
sum_below b w h = subst (λ n. sum_of_bytes b w < n) (bytes_pow w) (sum_of_bytes_below b w h)

-- ---- an operator that goes byte by byte

module _ (op : ℕ → ℕ → ℕ) (none : op 0 0 ≡ 0)
    (block : (k a b r s : ℕ) → r < 2 ^ k → s < 2 ^ k → op (a * 2 ^ k + r) (b * 2 ^ k + s) ≡ op a b * 2 ^ k + op r s)
  where
    pub bytewise : (b c : ℕ → ℕ) (w : ℕ) → AreSmall b w → AreSmall c w
        → op (sum_of_bytes b w) (sum_of_bytes c w) ≡ sum_of_bytes (λ k. op (b k) (c k)) w
    bytewise b c zero g h = none
    bytewise b c (suc w) g h =
        let before : AreSmall b w = λ k l. g k (omega arith) in
        let after : AreSmall c w = λ k l. h k (omega arith) in
        let low = bytewise b c w before after in
        let left : sum_of_bytes b w + b w * 256 ^ w ≡ b w * 2 ^ (8 * w) + sum_of_bytes b w
        = ap (λ n. sum_of_bytes b w + b w * n) (bytes_pow w) ∙ omega arith in
        let right : sum_of_bytes c w + c w * 256 ^ w ≡ c w * 2 ^ (8 * w) + sum_of_bytes c w
        = ap (λ n. sum_of_bytes c w + c w * n) (bytes_pow w) ∙ omega arith in
        let cut = block (8 * w) (b w) (c w) (sum_of_bytes b w) (sum_of_bytes c w) (sum_below b w before)
        (sum_below c w after) in
        let back : op (b w) (c w) * 2 ^ (8 * w) + op (sum_of_bytes b w) (sum_of_bytes c w)
        ≡ sum_of_bytes (λ k. op (b k) (c k)) w + op (b w) (c w) * 256 ^ w
        = ap (λ n. op (b w) (c w) * 2 ^ (8 * w) + n) low
        ∙ ap (λ n. op (b w) (c w) * n + sum_of_bytes (λ k. op (b k) (c k)) w) (sym (bytes_pow w)) ∙ omega arith in
        ap (λ n. op n (sum_of_bytes c w + c w * 256 ^ w)) left
        ∙ ap (λ n. op (b w * 2 ^ (8 * w) + sum_of_bytes b w) n) right ∙ cut ∙ back

pub added : (b c : ℕ → ℕ) (w : ℕ) → sum_of_bytes b w + sum_of_bytes c w ≡ sum_of_bytes (λ k. b k + c k) w
added b c zero = refl
added b c (suc w) = omega (arith, added b c w, add-mul (b w) (c w) (256 ^ w))

-- ---- bytes of numbers

pub number_by_bytes : (n w : ℕ) → n < 256 ^ w → n ≡ sum_of_bytes (λ k. byte_of k n) w
number_by_bytes n w h = sym (sum_of_bytes-byte_of n w ∙ mod-eq_of_lt h)

-- a number that has these bytes
pub same_number : (n w : ℕ) (b : ℕ → ℕ) → n < 256 ^ w → ((k : ℕ) → k < w → byte_of k n ≡ b k) → n ≡ sum_of_bytes b w
same_number n w b h same = number_by_bytes n w h ∙ sum_of_bytes_same (λ k. byte_of k n) b w same

-- and what is left of it
pub same_rest : (n w : ℕ) (b : ℕ → ℕ) → ((k : ℕ) → k < w → byte_of k n ≡ b k) → n % 256 ^ w ≡ sum_of_bytes b w
same_rest n w b same = sym (sum_of_bytes-byte_of n w) ∙ sum_of_bytes_same (λ k. byte_of k n) b w same

-- above a number there are zeros
pub byte_above : (n w k : ℕ) → n < 256 ^ w → w ≤ k → byte_of k n ≡ 0
byte_above n w k h l =
    let more = power-le (8 * w) (8 * k) (omega arith) in
    let far : n < 256 ^ k = omega (arith, h, more, bytes_pow w, bytes_pow k) in
    ap (λ m. m % 256) (div-eq_of_lt far) ∙ zero-mod 256

pub byte_of_zero : (k : ℕ) → byte_of k 0 ≡ 0
byte_of_zero k = ap (λ m. m % 256) (zero-div (256 ^ k)) ∙ zero-mod 256

div_pow : (n j k : ℕ) → n / 256 ^ j / 256 ^ k ≡ n / 256 ^ (j + k)
div_pow n j k =
    let more : 8 * j + 8 * k ≡ 8 * (j + k) = omega arith in
    ap (λ m. n / m / 256 ^ k) (bytes_pow j) ∙ ap (λ m. n / 2 ^ (8 * j) / m) (bytes_pow k) ∙ shr-shr n (8 * j) (8 * k)
    ∙ ap (λ e. n / 2 ^ e) more ∙ ap (λ m. n / m) (sym (bytes_pow (j + k)))

mul_pow : (n j : ℕ) → n * 256 ^ j / 256 ^ j ≡ n
mul_pow n j = ap (λ m. n * m / m) (bytes_pow j) ∙ shl-shr n (8 * j)

-- moved down
pub byte_down : (n j k : ℕ) → byte_of k (n / 256 ^ j) ≡ byte_of (j + k) n
byte_down n j k = ap (λ m. m % 256) (div_pow n j k)

-- moved up
pub byte_up : (n j k : ℕ) → byte_of (j + k) (n * 256 ^ j) ≡ byte_of k n
byte_up n j k = ap (λ m. m % 256) (sym (div_pow (n * 256 ^ j) j k) ∙ ap (λ m. m / 256 ^ k) (mul_pow n j))

pub byte_below_up : (n j k : ℕ) → k < j → byte_of k (n * 256 ^ j) ≡ 0
byte_below_up n j k l =
    let d = j - suc k in
    let apart : j ≡ suc d + k = omega arith in
    let power : 256 ^ j ≡ 256 ^ d * 256 * 256 ^ k
    = ap (λ e. 256 ^ e) apart ∙ pow-add 256 (suc d) k ∙ ap (λ m. m * 256 ^ k) (pow-suc 256 d) in
    let shape : n * 256 ^ j ≡ n * 256 ^ d * 256 * 256 ^ k = ap (λ m. n * m) power ∙ omega arith in
    ap (λ m. m / 256 ^ k % 256) shape ∙ ap (λ m. m % 256) (mul_pow (n * 256 ^ d * 256) k)
    ∙ mul-mod_left (n * 256 ^ d) 256
