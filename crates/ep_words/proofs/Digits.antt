-- The number of digits, from the first digit on.
use Rattle.std.proofs.Common.{◌≡◌, ℕ, ◌≤◌, ◌<◌, ◌+◌, ◌-◌, ◌*◌, nat_le, List, [], ◌∷◌, Some, None, if◌then◌else◌, refl}
use Rattle.std.proofs.Common.{arith, false}
use Rattle.std.proofs.lemmas.Bool.{lt-leb}
use Rattle.ep_words.specs.Words as rule

-- digits more make no smaller number
pub digits_grow : (n : ℕ) (bs : List ℕ) → n ≤ rule.digits_from n bs
digits_grow n [] = omega arith
digits_grow n (b ∷ bs) = let h = digits_grow (n * 10 + (b - 48)) bs in omega arith

-- a front of the digits is past the most that is asked, so all are
pub past : (n most : ℕ) (rest all : List ℕ) → rule.digits_from n rest ≡ rule.digits_value all → most < n
    → None ≡ (if nat_le (rule.digits_value all) most then Some (rule.digits_value all) else None)
past n most rest all e h =
    let g : most < rule.digits_value all = (let k = digits_grow n rest in omega arith) in
    let f : nat_le (rule.digits_value all) most ≡ false = lt-leb (rule.digits_value all) most g in rw f refl
