-- Which marks are what, and what can't go on.
use Rattle.std.proofs.Common.{◌≡◌, ℕ, zero, suc, ◌+◌, ◌-◌, ◌<◌, ◌≤◌, Bool, true, false, List, [], ◌∷◌, refl, sym, subst}
use Rattle.std.proofs.lemmas.Bool.{leb-true}
use Rattle.std.proofs.lemmas.Bool.{and_parts, false_from_ne_true, or_cases}
use Rattle.std.proofs.Common.{arith, inl, inr, ◌⊎◌}
use Rattle.std.specs.Prelude.{◌==◌, nat_le, ◌&&◌, ◌||◌}
use Rattle.std.proofs.lemmas.Bool.{eqb-true}
use Rattle.std.proofs.lemmas.Bool.Decides.{nat_tests}
use Rattle.ep_ast.specs.Token.{Tok, word, name, number, mark, if_little, if_big, other, end_if}
use Rattle.ep_ast.specs.Mark.{left_paren, right_paren, right_bracket, question, colon, comma}
use Rattle.ep_ast.specs.Grammar.{level, is_assignment, is_prefix, is_step, Rule, expr, cond, bin, cast, unary, postfix}
use Rattle.ep_ast.specs.Grammar.{primary}
use Rattle.ep_ast.specs.Reading.{is_suffix, goes_on, Ends}

at_is : (P : ℕ → Type 0) (c n : ℕ) → (c == n) ≡ true → P n → P c
at_is P c n h p = subst P (sym (eqb-true c n h)) p

pub suffix_is : (P : ℕ → Type 0) → P 24 → P 22 → P 28 → P 3 → P 4 → P 5 → (c : ℕ) → is_suffix c ≡ true → P c
suffix_is P a b d e f g c h = elim (or_cases (c == 24 || c == 22 || c == 28 || c == 3 || c == 4) (c == 5) h) [
  | inr k ↦ at_is P c 5 k g
  | inl k ↦ elim (or_cases (c == 24 || c == 22 || c == 28 || c == 3) (c == 4) k) [
    | inr m ↦ at_is P c 4 m f
    | inl m ↦ elim (or_cases (c == 24 || c == 22 || c == 28) (c == 3) m) [
      | inr n ↦ at_is P c 3 n e
      | inl n ↦ elim (or_cases (c == 24 || c == 22) (c == 28) n) [
        | inr o ↦ at_is P c 28 o d
        | inl o ↦ elim (or_cases (c == 24) (c == 22) o) [ inr p ↦ at_is P c 22 p b | inl p ↦ at_is P c 24 p a ]
      ]
    ]
  ]
]

pub prefix_is : (P : ℕ → Type 0) → P 29 → P 30 → P 31 → P 32 → P 33 → P 34 → (c : ℕ) → is_prefix c ≡ true → P c
prefix_is P a b d e f g c h = elim (or_cases (c == 29 || c == 30 || c == 31 || c == 32 || c == 33) (c == 34) h) [
  | inr k ↦ at_is P c 34 k g
  | inl k ↦ elim (or_cases (c == 29 || c == 30 || c == 31 || c == 32) (c == 33) k) [
    | inr m ↦ at_is P c 33 m f
    | inl m ↦ elim (or_cases (c == 29 || c == 30 || c == 31) (c == 32) m) [
      | inr n ↦ at_is P c 32 n e
      | inl n ↦ elim (or_cases (c == 29 || c == 30) (c == 31) n) [
        | inr o ↦ at_is P c 31 o d
        | inl o ↦ elim (or_cases (c == 29) (c == 30) o) [ inr p ↦ at_is P c 30 p b | inl p ↦ at_is P c 29 p a ]
      ]
    ]
  ]
]

pub step_is : (P : ℕ → Type 0) → P 4 → P 5 → (c : ℕ) → is_step c ≡ true → P c
step_is P a b c h = elim (or_cases (c == 4) (c == 5) h) [ inl k ↦ at_is P c 4 k a | inr k ↦ at_is P c 5 k b ]

from_14 : (P : ℕ → Type 0) → P 14 → P 15 → P 16 → P 17 → P 18 → P 19 → P 20 → P 21 → (d : ℕ) → d ≤ 7 → P (14 + d)
from_14 P a b e f g h i j zero l = a
from_14 P a b e f g h i j (suc zero) l = b
from_14 P a b e f g h i j (suc (suc zero)) l = e
from_14 P a b e f g h i j (suc (suc (suc zero))) l = f
from_14 P a b e f g h i j (suc (suc (suc (suc zero)))) l = g
from_14 P a b e f g h i j (suc (suc (suc (suc (suc zero))))) l = h
from_14 P a b e f g h i j (suc (suc (suc (suc (suc (suc zero)))))) l = i
from_14 P a b e f g h i j (suc (suc (suc (suc (suc (suc (suc zero))))))) l = j
from_14 P a b e f g h i j (suc (suc (suc (suc (suc (suc (suc (suc d)))))))) l = absurd (omega arith)

-- an assignment mark is at no level, stands behind no operand and is no `?`
abbrev AssignsOnly : ℕ → Type 0
AssignsOnly c = (level c ≡ 0) × (is_suffix c ≡ false) × ((c == 41) ≡ false)

assigns_here : AssignsOnly 14 × AssignsOnly 15 × AssignsOnly 16 × AssignsOnly 17 × AssignsOnly 18 × AssignsOnly 19
    × AssignsOnly 20 × AssignsOnly 21
assigns_here = (
  (refl, refl, refl),
  (refl, refl, refl),
  (refl, refl, refl),
  (refl, refl, refl),
  (refl, refl, refl),
  (refl, refl, refl),
  (refl, refl, refl),
  (refl, refl, refl),
)

in_row : (c : ℕ) → 14 ≤ c → c ≤ 21 → AssignsOnly c
in_row c l m =
    let e : c ≡ 14 + (c - 14) = omega arith in
    let h = assigns_here in
    subst AssignsOnly (sym e) (from_14 AssignsOnly h.0 h.1 h.2 h.3 h.4 h.5 h.6 h.7 (c - 14) (omega arith))

pub assigns_only : (c : ℕ) → is_assignment c ≡ true → AssignsOnly c
assigns_only c h = elim (or_cases (c == 44 || c == 1 || c == 2) (nat_le 14 c && nat_le c 21) h) [
  | inr k ↦ let q = and_parts (nat_le 14 c) (nat_le c 21) k in in_row c (leb-true 14 c q.0) (leb-true c 21 q.1)
  | inl k ↦ elim (or_cases (c == 44 || c == 1) (c == 2) k) [
    | inr m ↦ at_is AssignsOnly c 2 m (refl, refl, refl)
    | inl m ↦ elim (or_cases (c == 44) (c == 1) m) [
      | inr n ↦ at_is AssignsOnly c 1 n (refl, refl, refl)
      | inl n ↦
          at_is AssignsOnly c 44 n (refl, refl, refl)
    ]
  ]
]

suffix_level : (c : ℕ) → is_suffix c ≡ true → level c ≡ 0
suffix_level c h = suffix_is (λ n. level n ≡ 0) refl refl refl refl refl refl c h

pub level_no_suffix : (c k : ℕ) → level c ≡ k → 0 < k → is_suffix c ≡ false
level_no_suffix c k h p = false_from_ne_true (is_suffix c) (λ s. let e = suffix_level c s in omega arith)

-- ---- prefixes and steps

pub prefix_not_paren : (c : ℕ) → is_prefix c ≡ true → c ≡ left_paren → ⊥
prefix_not_paren c h k = let f : is_prefix left_paren ≡ true = rw k at h in cc

pub step_not_paren : (c : ℕ) → is_step c ≡ true → c ≡ left_paren → ⊥
step_not_paren c h k = let f : is_step left_paren ≡ true = rw k at h in cc

pub prefix_not_step : (c : ℕ) → is_prefix c ≡ true → is_step c ≡ true → ⊥
prefix_not_step c h k = let f = prefix_is (λ n. is_step n ≡ false) refl refl refl refl refl refl c h in cc

-- ---- what goes on

pub ends_map : (r s : Rule) → ((c : ℕ) → goes_on r c ≡ false → goes_on s c ≡ false) → (ts : List Tok) → Ends r ts
    → Ends s ts
ends_map r s f [] h = tt
ends_map r s f (word l c ∷ ts) h = tt
ends_map r s f (name l t ∷ ts) h = tt
ends_map r s f (number l n ∷ ts) h = tt
ends_map r s f (mark l c ∷ ts) h = f c h
ends_map r s f (if_little l ∷ ts) h = tt
ends_map r s f (if_big l ∷ ts) h = tt
ends_map r s f (other l ∷ ts) h = tt
ends_map r s f (end_if l ∷ ts) h = tt

pub ends_primary : (ts : List Tok) → Ends primary ts
ends_primary [] = tt
ends_primary (word l c ∷ ts) = tt
ends_primary (name l t ∷ ts) = tt
ends_primary (number l n ∷ ts) = tt
ends_primary (mark l c ∷ ts) = refl
ends_primary (if_little l ∷ ts) = tt
ends_primary (if_big l ∷ ts) = tt
ends_primary (other l ∷ ts) = tt
ends_primary (end_if l ∷ ts) = tt

tighter_number : (s : Bool) (n k : ℕ) → s ≡ false → n ≡ k → (s || (nat_le 1 n && nat_le (k + 1) n)) ≡ false
tighter_number s n k h e = grind (arith, nat_tests)

-- a token of a level ends what is tighter
pub ends_at_operator : (l c k : ℕ) (ts : List Tok) → level c ≡ k → 0 < k → Ends (bin (k + 1)) (mark l c ∷ ts)
ends_at_operator l c k ts h p = tighter_number (is_suffix c) (level c) k (level_no_suffix c k h p) h

weaker_number : (s : Bool) (n k : ℕ) → (s || (nat_le 1 n && nat_le k n)) ≡ false
    → (s || (nat_le 1 n && nat_le (k + 1) n)) ≡ false
weaker_number s n k h = grind (arith, nat_tests)

pub ends_tighter : (k : ℕ) (ts : List Tok) → Ends (bin k) ts → Ends (bin (k + 1)) ts
ends_tighter k ts h = ends_map (bin k) (bin (k + 1)) (λ c e. weaker_number (is_suffix c) (level c) k e) ts h

at_number : (s : Bool) (n k : ℕ) → n ≡ k → 0 < k → (s || (nat_le 1 n && nat_le k n)) ≡ false → ⊥
at_number s n k h p e = grind (arith, nat_tests)

pub at_level_goes_on : (c k : ℕ) → level c ≡ k → 0 < k → goes_on (bin k) c ≡ false → ⊥
at_level_goes_on c k h p e = at_number (is_suffix c) (level c) k h p e

or_left : (a b : Bool) → (a || b) ≡ false → a ≡ false
or_left true b h = h
or_left false b h = refl

pub ends_operand : (ts : List Tok) → Ends (bin 11) ts → Ends cast ts
ends_operand ts h = ends_map (bin 11) cast (λ c e. or_left (is_suffix c) (nat_le 1 (level c) && nat_le 11 (level c)) e)
    ts h

pub ends_unary : (ts : List Tok) → Ends cast ts → Ends unary ts
ends_unary ts h = ends_map cast unary (λ c e. e) ts h

pub ends_cast : (ts : List Tok) → Ends unary ts → Ends cast ts
ends_cast ts h = ends_map unary cast (λ c e. e) ts h

pub ends_postfix : (ts : List Tok) → Ends unary ts → Ends postfix ts
ends_postfix ts h = ends_map unary postfix (λ c e. e) ts h

one_number : (s : Bool) (n : ℕ) → (s || nat_le 1 n) ≡ false → (s || (nat_le 1 n && nat_le 1 n)) ≡ false
one_number s n h = grind (arith, nat_tests)

pub ends_binary : (ts : List Tok) → Ends cond ts → Ends (bin 1) ts
ends_binary ts h = ends_map cond (bin 1) (λ c e. one_number (is_suffix c) (level c)
    (or_left (is_suffix c || nat_le 1 (level c)) (c == 41) e)) ts h

pub ends_cond : (ts : List Tok) → Ends expr ts → Ends cond ts
ends_cond ts h = ends_map expr cond (λ c e. or_left (is_suffix c || nat_le 1 (level c) || c == 41) (is_assignment c) e)
    ts h

pub ends_at_paren : (l c : ℕ) (ts : List Tok) → c ≡ right_paren → Ends expr (mark l c ∷ ts)
ends_at_paren l c ts k = rw k refl

pub ends_at_bracket : (l c : ℕ) (ts : List Tok) → c ≡ right_bracket → Ends expr (mark l c ∷ ts)
ends_at_bracket l c ts k = rw k refl

pub ends_at_comma : (l c : ℕ) (ts : List Tok) → c ≡ comma → Ends expr (mark l c ∷ ts)
ends_at_comma l c ts k = rw k refl

pub ends_at_colon : (l c : ℕ) (ts : List Tok) → c ≡ colon → Ends expr (mark l c ∷ ts)
ends_at_colon l c ts k = rw k refl

pub ends_at_question : (l c : ℕ) (ts : List Tok) → c ≡ question → Ends (bin 1) (mark l c ∷ ts)
ends_at_question l c ts k = rw k refl

pub ends_at_assignment : (l c : ℕ) (ts : List Tok) → is_assignment c ≡ true → Ends unary (mark l c ∷ ts)
ends_at_assignment l c ts k = (assigns_only c k).1
