-- The value of digits read one by one.
use Rattle.std.proofs.Common.{ℕ, ◌+◌, ◌*◌, ◌^◌, ◌≤◌, ◌<◌, List, [], ◌∷◌, fold, arith}
use Rattle.ep_ast.specs.Lexeme.{digit_value}

-- the value of digits behind those of n
abbrev pub value_from : ℕ → ℕ → List ℕ → ℕ
value_from base n ds = fold (λ m b. m * base + digit_value b) n ds

at_least : (n base : ℕ) → 0 < base → n ≤ n * base
at_least n base h = grind arith

pub value_from-grows : (base n : ℕ) (ds : List ℕ) → 0 < base → n ≤ value_from base n ds
value_from-grows base n [] h = omega arith
value_from-grows base n (b ∷ ds) h =
    let e = value_from-grows base (n * base + digit_value b) ds h in
    let f = at_least n base h in
    omega (arith, e, f)

pub overflows : (base n : ℕ) (b : ℕ) (ds : List ℕ) → 2 ^ 64 ≤ n * base + digit_value b → 0 < base
    → 2 ^ 64 ≤ value_from base n (b ∷ ds)
overflows base n b ds e h =
    let f = value_from-grows base (n * base + digit_value b) ds h in
    omega (arith, e, f)
