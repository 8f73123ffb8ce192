-- How often numbers stand in lists of blocks.
use Rattle.std.proofs.Common.{◌≡◌, ℕ, zero, suc, ◌+◌, ◌<◌, ◌≤◌, nat_eq, nat_lt, Bool, true, false, cond, not, List}
use Rattle.std.proofs.lemmas.Bool.{or_cases}
use Rattle.std.proofs.lemmas.Bool.{and_from, or_left, or_right}
use Rattle.std.proofs.Common.{[], ◌∷◌, ◌++◌, refl, inl, inr, arith}
use Rattle.std.specs.List.{list_all}
use Rattle.std.proofs.lemmas.Bool.Decides.{nat_tests}
use Rattle.std.proofs.lemmas.Bool.{and_parts}
use Rattle.ep_int.specs.Memory.{contains}
use Rattle.ep_core.specs.WellFormed.{are_different, numbers_below}
use Rattle.ep_core.proofs.Sorts.{never}

abbrev pub count : ℕ → List ℕ → ℕ
count b [] = 0
count b (x ∷ xs) = cond (nat_eq b x) 1 0 + count b xs

abbrev pub below : ℕ → ℕ → ℕ
below n b = cond (nat_lt b n) 1 0

-- each number from one to another stands there once, and no other does
abbrev pub Lists : ℕ → ℕ → List ℕ → Type 0
Lists lo hi xs = (b : ℕ) → count b xs + below lo b ≡ below hi b

pub count_both : (b : ℕ) (xs ys : List ℕ) → count b (xs ++ ys) ≡ count b xs + count b ys
count_both b [] ys = omega arith
count_both b (x ∷ xs) ys =
    let e : count b (xs ++ ys) ≡ count b xs + count b ys = count_both b xs ys in omega (arith, e)

pub lists_one : (n : ℕ) → Lists n (suc n) (n ∷ [])
lists_one n b = by (nat_eq b n) refl
  where
    by : (c : Bool) → nat_eq b n ≡ c → cond c 1 0 + 0 + below n b ≡ below (suc n) b
    by true q =
        let e : b ≡ n = grind (arith, nat_tests) in
        let l : nat_lt b n ≡ false = grind (arith, nat_tests) in
        let m : nat_lt b (suc n) ≡ true = grind (arith, nat_tests) in rw (l, m) refl
    by false q = other (nat_lt b n) refl
      where
        other : (c : Bool) → nat_lt b n ≡ c → 0 + 0 + below n b ≡ below (suc n) b
        other true r = let m : nat_lt b (suc n) ≡ true = grind (arith, nat_tests) in rw (r, m) refl
        other false r = let m : nat_lt b (suc n) ≡ false = grind (arith, nat_tests) in rw (r, m) refl

-- ---- tests of lists

pub contains_counted : (b : ℕ) (xs : List ℕ) → contains b xs ≡ true → 1 ≤ count b xs
contains_counted b [] h = never h
contains_counted b (x ∷ xs) h = elim (or_cases (nat_eq b x) (contains b xs) h) [
  | inl e ↦ rw e (omega arith)
  | inr e ↦ let k : 1 ≤ count b xs = contains_counted b xs e in omega (arith, k)
]

pub counted_contains : (b : ℕ) (xs : List ℕ) → 1 ≤ count b xs → contains b xs ≡ true
counted_contains b [] l = absurd (omega (arith, l))
counted_contains b (x ∷ xs) l = by (nat_eq b x) refl l (counted_contains b xs)
  where
    by : (c : Bool) → nat_eq b x ≡ c → 1 ≤ cond c 1 0 + count b xs → (1 ≤ count b xs → contains b xs ≡ true)
        → contains b (x ∷ xs) ≡ true
    by true q k f = or_left (nat_eq b x) _ q
    by false q k f = or_right (nat_eq b x) _ (f (omega (arith, k)))

pub absent : (b : ℕ) (xs : List ℕ) → count b xs ≡ 0 → contains b xs ≡ false
absent b xs e = by (contains b xs) refl
  where
    by : (c : Bool) → contains b xs ≡ c → c ≡ false
    by true q = absurd (let l : 1 ≤ count b xs = contains_counted b xs q in omega (arith, e, l))
    by false q = refl

pub different : (xs : List ℕ) → ((b : ℕ) → count b xs ≤ 1) → are_different xs ≡ true
different [] f = refl
different (x ∷ xs) f =
    let same : nat_eq x x ≡ true = grind (arith, nat_tests) in
    let l : count x (x ∷ xs) ≤ 1 = f x in
    let k : cond true 1 0 + count x xs ≤ 1 = (rw same at l) in
    let z : count x xs ≡ 0 = omega (arith, k) in
    and_from (not (contains x xs)) (are_different xs) (rw (absent x xs z) refl)
    (different xs (λ b. let m : cond (nat_eq b x) 1 0 + count b xs ≤ 1 = f b in omega (arith, m)))

-- a test that each number of a list passes
pub each_passes : (test : ℕ → Bool) (xs : List ℕ) → ((b : ℕ) → 1 ≤ count b xs → test b ≡ true) → list_all test xs ≡ true
each_passes test [] f = refl
each_passes test (x ∷ xs) f =
    let same : nat_eq x x ≡ true = grind (arith, nat_tests) in
    and_from (test x) (list_all test xs) (f x (rw same (omega arith)))
    (each_passes test xs (λ b l. f b (let k : 1 ≤ count b xs = l in omega (arith, k))))

all_both : (test : ℕ → Bool) (xs ys : List ℕ) → list_all test xs ≡ true → list_all test ys ≡ true
    → list_all test (xs ++ ys) ≡ true
all_both test [] ys h k = k
all_both test (x ∷ xs) ys h k =
    let p = and_parts (test x) (list_all test xs) h in and_from (test x) _ p.0 (all_both test xs ys p.1 k)

pub each_below : (test : ℕ → Bool) (n : ℕ) → ((b : ℕ) → b < n → test b ≡ true) → list_all test (numbers_below n) ≡ true
each_below test zero f = refl
each_below test (suc n) f =
    all_both test (numbers_below n) (n ∷ []) (each_below test n (λ b l. f b (omega (arith, l))))
    (and_from (test n) true (f n (omega arith)) refl)
