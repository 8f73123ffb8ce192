-- An expression at a place of the tokens.
use Rattle.std.proofs.Common.{◌≡◌, ℕ, ◌+◌, ◌-◌, ◌<◌, ◌≤◌, Bool, true, false, List, [], ◌∷◌, ◌++◌, length, take, drop}
use Rattle.std.proofs.Common.{None, refl, sym, ap, subst, ◌∙◌, arith, inl, inr, ◌⊎◌}
use Rattle.std.specs.Prelude.{◌==◌, ◌||◌}
use Rattle.std.proofs.lemmas.List.{append-nil, length-append, length-drop, take_at, drop_at, drop-drop}
use Rattle.std.proofs.lemmas.Bool.{eqb-true}
use Rattle.std.proofs.lemmas.Bool.Decides.{nat_tests}
use Rattle.ep_ast.specs.declared.refusals.Refusal.{Refusal}
use Rattle.ep_ast.specs.declared.refusals.Halt.{Halt}
use Rattle.ep_ast.specs.declared.refusals.Halt.TheVariants as halts
use Rattle.ep_ast.specs.Refusal.{IfRefused}
use Rattle.ep_ast.specs.Token.{Tok, word, name, number, mark, if_little, if_big, other, end_if}
use Rattle.ep_ast.specs.Expression.{Expr, line_of}
use Rattle.ep_ast.specs.Grammar.{level, Rule, Derives, follows, IsFront}
use Rattle.ep_ast.specs.Grammar as rules
use Rattle.ep_ast.specs.Nesting.{is_too_deep, depth, opens_past}
use Rattle.ep_ast.specs.Reading.{goes_on, Ends, Reads, Halts, IsSyntax}
use Rattle.ep_exprs.specs.Answer.{IsFound, IsRefused, operators, syntax}
use Rattle.ep_exprs.proofs.FrontLemmas.{front_of}

-- nothing that may follow an expression goes on with one
follow_is : (P : ℕ → Type 0) → P 23 → P 25 → P 27 → P 45 → P 43 → P 42 → (c l : ℕ) (ts : List Tok)
    → follows (mark l c ∷ ts) ≡ true → P c
follow_is P a b d e f g c l ts h = elim (or_cases (c == 23 || c == 25 || c == 27 || c == 45 || c == 43) (c == 42) h) [
  | inr k ↦ at_is P c 42 k g
  | inl k ↦ elim (or_cases (c == 23 || c == 25 || c == 27 || c == 45) (c == 43) k) [
    | inr m ↦ at_is P c 43 m f
    | inl m ↦ elim (or_cases (c == 23 || c == 25 || c == 27) (c == 45) m) [
      | inr n ↦ at_is P c 45 n e
      | inl n ↦ elim (or_cases (c == 23 || c == 25) (c == 27) n) [
        | inr o ↦ at_is P c 27 o d
        | inl o ↦ elim (or_cases (c == 23) (c == 25) o) [ inr p ↦ at_is P c 25 p b | inl p ↦ at_is P c 23 p a ]
      ]
    ]
  ]
]
  where
    or_cases : (a b : Bool) → (a || b) ≡ true → (a ≡ true) ⊎ (b ≡ true)
    or_cases true b e = inl refl
    or_cases false b e = inr e

    at_is : (P : ℕ → Type 0) (c n : ℕ) → (c == n) ≡ true → P n → P c
    at_is P c n h p = subst P (sym (eqb-true c n h)) p

pub ends_follow : (ts : List Tok) → follows ts ≡ true → Ends rules.expr ts
ends_follow [] h = tt
ends_follow (word l c ∷ ts) h = tt
ends_follow (name l t ∷ ts) h = tt
ends_follow (number l n ∷ ts) h = tt
ends_follow (mark l c ∷ ts) h = follow_is (λ n. goes_on rules.expr n ≡ false) refl refl refl refl refl refl c l ts h
ends_follow (if_little l ∷ ts) h = tt
ends_follow (if_big l ∷ ts) h = tt
ends_follow (other l ∷ ts) h = tt
ends_follow (end_if l ∷ ts) h = tt

cut : (ts : List Tok) (from : ℕ) (front ys : List Tok) → from ≤ length ts → drop from ts ≡ front ++ ys
    → (take ((length ts - length ys) - from) (drop from ts) ≡ front) × (drop (length ts - length ys) ts ≡ ys)
cut ts from front ys le e =
    let n : length front + length ys ≡ length ts - from =
    omega (arith, length-append front ys, ap length e, length-drop from ts) in
    let k : (length ts - length ys) - from ≡ length front = omega arith in
    let m : length ts - length ys ≡ from + length front = omega arith in (
      rw (k, e) (take_at front ys (length front) refl),
      rw m (sym (drop-drop (length front) from ts) ∙ ap (drop (length front)) e
          ∙ drop_at front ys (length front) refl),
    )

pub deep_is : (t : Expr) → 64 < depth t → is_too_deep t ≡ true
deep_is t h = grind (arith, nat_tests)

pub shallow_is : (t : Expr) → depth t ≤ 64 → is_too_deep t ≡ false
shallow_is t h = grind (arith, nat_tests)

module _ (N : List ℕ → Bool) where
  whole : (ts front rest : List Tok) (t : Expr) → IsFront N ts front rest t → Derives N rules.expr ts rest t
  whole ts front rest t s =
      let f = front_of N s.derives in
      let e : f.front ≡ front = sym (f.is ∙ append-nil f.front) in
      rw (s.parts, ← e) (f.again rest)

  pub front_at : (ts ys : List Tok) (t : Expr) → Reads N rules.expr ts t ys → follows ys ≡ true
      → (front : List Tok) × IsFront N ts front ys t
  front_at ts ys t r h =
      let f = front_of N r.derives in
      (f.front, record { parts = f.is; derives = rw append-nil at (f.again []); followed = h })

  pub found_at : (ts : List Tok) (from : ℕ) (ys : List Tok) (t : Expr) → from ≤ length ts → length ys < length ts - from
      → Reads N rules.expr (drop from ts) t ys → follows ys ≡ true → IsFound N ts from (length ts - length ys) t
  found_at ts from ys t le less r h =
      let q = front_at (drop from ts) ys t r h in
      let k = cut ts from q.0 ys le q.1.parts in
      record { goes_on = omega arith; within = omega arith; front = rw (k.0, k.1) q.1 }

  only_front : (ts ys : List Tok) (t : Expr) → Reads N rules.expr ts t ys → (front rest : List Tok) (u : Expr)
      → IsFront N ts front rest u → (u ≡ t) × (rest ≡ ys)
  only_front ts ys t r front rest u s = r.only u rest (whole ts front rest u s) (ends_follow rest s.followed)

  pub only_at : (ts : List Tok) (from : ℕ) (ys : List Tok) (t : Expr) → from ≤ length ts
      → Reads N rules.expr (drop from ts) t ys
      → (front rest : List Tok) (u : Expr) → IsFront N (drop from ts) front rest u
      → (u ≡ t) × (length front + from ≡ length ts - length ys)
  only_at ts from ys t le r front rest u s =
      let q = only_front (drop from ts) ys t r front rest u s in
      (q.0, omega (arith, length-append front rest, ap length s.parts, length-drop from ts, ap length q.1))

  -- ---- refusals

  pub operators_refused : (ts ys : List Tok) (r : Refusal) (t : Expr) → (r.kind ≡ 22) × (r.word ≡ 0)
      × (r.line ≡ line_of t) → None ≡ opens_past 0 ts → Reads N rules.expr ts t ys → follows ys ≡ true → 64 < depth t
      → IsRefused N ts r
  operators_refused ts ys r t h o d k m =
      let q = front_at ts ys t d k in
      operators h.0 h.1 (sym o) q.1 (deep_is t m) h.2 (λ front rest u s. (only_front ts ys t d front rest u s).0)

  pub syntax_refused : (ts : List Tok) (e : Halt) → None ≡ opens_past 0 ts → Halts N rules.expr ts e
      → IfRefused e (IsRefused N ts)
  syntax_refused ts (halts.Refused r) o h = syntax h.1.0 h.1.1 (sym o)
      (λ front rest u s. h.0.never u rest (whole ts front rest u s) (ends_follow rest s.followed))
  syntax_refused ts halts.Memory o h = tt

  unfollowed : (ts ys front rest : List Tok) (t u : Expr) → Reads N rules.expr ts t ys → follows ys ≡ false
      → IsFront N ts front rest u → ⊥
  unfollowed ts ys front rest t u r h s =
      let q = only_front ts ys t r front rest u s in
      let e : follows rest ≡ false = ap follows q.1 ∙ h in
      let k = s.followed in cc

  pub follow_refused : (ts ys : List Tok) (r : Refusal) (t : Expr) → IsSyntax r → None ≡ opens_past 0 ts
      → Reads N rules.expr ts t ys → follows ys ≡ false → IsRefused N ts r
  follow_refused ts ys r t h o d k = syntax h.0 h.1 (sym o) (λ front rest u s. unfollowed ts ys front rest t u d k s)
