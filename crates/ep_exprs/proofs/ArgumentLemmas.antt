-- Arguments: read one after the other, up to the closing parenthesis.
use Rattle.std.proofs.Common.{◌≡◌, ℕ, Bool, true, List, [], ◌∷◌, ◌++◌, Some, refl, sym, ap, ◌∙◌, append_assoc, inl, inr}
use Rattle.std.proofs.Common.{◌⊎◌}
use Rattle.ep_ast.specs.Token.{Tok, mark}
use Rattle.ep_ast.specs.Expression.{Expr}
use Rattle.ep_ast.specs.Mark.{left_paren, right_paren, comma}
use Rattle.ep_ast.specs.Grammar.{is_prefix, is_step, Rule, expr, Derives, assigns, assigns_not, chooses, chooses_not}
use Rattle.ep_ast.specs.Grammar.{left, tighter, operand, casts, casts_not, steps, prefixed, unary_not, suffixed}
use Rattle.ep_ast.specs.Grammar.{suffixed_not, parens, Arguments, no_arguments, some_arguments, Listed, last, next}
use Rattle.ep_ast.specs.Reading.{Reads, Refuses, Takes, TakesNone, Lacks, AtMark}
use Rattle.ep_reading.proofs.FirstLemmas.{apart}
use Rattle.ep_reading.proofs.FirstLemmas.{tail_is, code_is, lacks_is}
use Rattle.ep_exprs.proofs.MarkLemmas.{ends_at_paren, ends_at_comma}

module _ (N : List ℕ → Bool) where
  -- these are read, and what comes is a list again
  pub record ListSo (xs : List Tok) (front : List Expr) (ys : List Tok) : Type 0 where
    pub forth : (zs : List Tok) (bs : List Expr) → Listed N ys zs bs → Listed N xs zs (front ++ bs)
    pub back : (zs : List Tok) (bs : List Expr) → Listed N xs zs bs → (more : List Expr) × (bs ≡ front ++ more)
        × Listed N ys zs more

  pub list_begins : (xs : List Tok) → ListSo xs [] xs
  list_begins xs = record { forth = λ zs bs d. d; back = λ zs bs d. (bs, refl, d) }

  one_more : (front : List Expr) {ys ws zs : List Tok} {m d : ℕ} {a : Expr} {bs rest : List Expr} → d ≡ comma
      → Reads N expr ys a (mark m d ∷ ws) → bs ≡ front ++ rest → Listed N ys zs rest
      → (more : List Expr) × (bs ≡ (front ++ a ∷ []) ++ more) × Listed N ws zs more
  one_more front {m = m} {d = d} {a = a} k r e (last {m = m'} {d = d'} {ys = ys'} {a = a'} k' f) =
      let q = r.only a' (mark m' d' ∷ ys') f (ends_at_paren m' d' ys' k') in
      absurd (apart right_paren comma refl k' (code_is q.1 ∙ k))
  one_more front {ws = ws} {m = m} {d = d} {a = a} {bs = bs} k r e
      (next {m = m'} {d = d'} {ys = ys'} {zs = zs} {a = a'} {bs = bs'} k' f g) =
      let q = r.only a' (mark m' d' ∷ ys') f (ends_at_comma m' d' ys' k') in
      (bs', e ∙ ap (λ (b : Expr). front ++ b ∷ bs') q.0 ∙ sym (append_assoc front (a ∷ []) bs'), rw (tail_is q.1) at g)

  pub list_step : (xs : List Tok) (front : List Expr) (ys ws zs : List Tok) (l : ℕ) (a : Expr) → ListSo xs front ys
      → Reads N expr ys a ws → AtMark comma ws (Some (l, zs)) → ListSo xs (front ++ a ∷ []) zs
  list_step xs front ys ws zs l a s r k =
      let r' : Reads N expr ys a (mark l k.0 ∷ zs) = rw k.2 at r in
      record {
        forth = λ us bs e. rw append_assoc (s.forth us (a ∷ bs) (next k.1 r'.derives e));
        back = λ us bs e. let q = s.back us bs e in one_more front k.1 r' q.1 q.2;
      }

  at_last : (front : List Expr) {ys ws zs : List Tok} {m d : ℕ} {a : Expr} {bs rest : List Expr} → d ≡ right_paren
      → Reads N expr ys a (mark m d ∷ ws) → bs ≡ front ++ rest → Listed N ys zs rest
      → (bs ≡ front ++ a ∷ []) × (zs ≡ ws)
  at_last front {m = m} {d = d} {a = a} k r e (last {m = m'} {d = d'} {ys = ys'} {a = a'} k' f) =
      let q = r.only a' (mark m' d' ∷ ys') f (ends_at_paren m' d' ys' k') in
      (e ∙ ap (λ (b : Expr). front ++ b ∷ []) q.0, tail_is q.1)
  at_last front {m = m} {d = d} {a = a} k r e (next {m = m'} {d = d'} {ys = ys'} {a = a'} k' f g) =
      let q = r.only a' (mark m' d' ∷ ys') f (ends_at_comma m' d' ys' k') in
      absurd (apart comma right_paren refl k' (code_is q.1 ∙ k))

  -- a mark that begins an expression
  pub begins : {r : Rule} {l c : ℕ} {xs ys : List Tok} {u : Expr} → Derives N r (mark l c ∷ xs) ys u
      → (c ≡ left_paren) ⊎ (is_prefix c ≡ true) ⊎ (is_step c ≡ true)
  begins (assigns h d e) = begins d
  begins (assigns_not d) = begins d
  begins (chooses j k d e f) = begins d
  begins (chooses_not d) = begins d
  begins (left q p d e) = begins d
  begins (tighter q d) = begins d
  begins (operand q d) = begins d
  begins (casts p t d) = inl p
  begins (casts_not d) = begins d
  begins (steps p d) = inr (inr p)
  begins (prefixed p d) = inr (inl p)
  begins (unary_not d) = begins d
  begins (suffixed d s) = begins d
  begins (suffixed_not d) = begins d
  begins (parens p q d) = inl p

  no_close : {m d : ℕ} {xs ys : List Tok} {a : Expr} → d ≡ right_paren → Derives N expr (mark m d ∷ xs) ys a → ⊥
  no_close {d = d} k e = elim (begins e) [
    | inl h ↦ apart left_paren right_paren refl h k
    | inr o ↦ elim o [
      | inl h ↦ (let f : is_prefix right_paren ≡ true = rw k at h in absurd cc)
      | inr h ↦
          (let f : is_step right_paren ≡ true = rw k at h in absurd cc)
    ]
  ]

  no_list : {m d : ℕ} {xs ys : List Tok} {bs : List Expr} → d ≡ right_paren → Listed N (mark m d ∷ xs) ys bs → ⊥
  no_list k (last q e) = no_close k e
  no_list k (next q e g) = no_close k e

  only_empty : {m d : ℕ} {xs zs : List Tok} {cs : List Expr} → d ≡ right_paren → Arguments N (mark m d ∷ xs) zs cs
      → (cs ≡ []) × (zs ≡ xs)
  only_empty k (no_arguments h) = (refl, refl)
  only_empty k (some_arguments d) = absurd (no_list k d)

  pub empty_read : (xs zs : List Tok) (l : ℕ) → AtMark right_paren xs (Some (l, zs)) → Takes (Arguments N) xs [] zs
  empty_read xs zs l k = rw k.2 (record { holds = no_arguments k.1; only = λ cs ws e. only_empty k.1 e })

  -- where the first token isn't the closing parenthesis
  listed : {xs zs : List Tok} {cs : List Expr} → Lacks right_paren xs → Arguments N xs zs cs → Listed N xs zs cs
  listed k (no_arguments h) = absurd (k h)
  listed k (some_arguments d) = d

  list_only : (front : List Expr) {xs ys ws zs : List Tok} {m d : ℕ} {a : Expr} {cs : List Expr} → Lacks right_paren xs
      → d ≡ right_paren → ListSo xs front ys → Reads N expr ys a (mark m d ∷ ws) → Arguments N xs zs cs
      → (cs ≡ front ++ a ∷ []) × (zs ≡ ws)
  list_only front {zs = zs} {cs = cs} n k s r e = let q = s.back zs cs (listed n e) in at_last front k r q.1 q.2

  pub list_done : (xs : List Tok) (front : List Expr) (ys ws zs : List Tok) (l : ℕ) (a : Expr) → Lacks right_paren xs
      → ListSo xs front ys → Reads N expr ys a ws → AtMark right_paren ws (Some (l, zs))
      → Takes (Arguments N) xs (front ++ a ∷ []) zs
  list_done xs front ys ws zs l a n s r k =
      let r' : Reads N expr ys a (mark l k.0 ∷ zs) = rw k.2 at r in
      record {
        holds = some_arguments (s.forth zs (a ∷ []) (last k.1 r'.derives));
        only = λ cs us e. list_only front n k.1 s r' e;
      }

  item_never : {ys zs : List Tok} {cs : List Expr} → Refuses N expr ys → Listed N ys zs cs → ⊥
  item_never r (last {m = m} {d = d} {ys = ys} {a = a} k e) = r.never a (mark m d ∷ ys) e (ends_at_paren m d ys k)
  item_never r (next {m = m} {d = d} {ys = ys} {a = a} k e g) = r.never a (mark m d ∷ ys) e (ends_at_comma m d ys k)

  pub item_refused : (xs : List Tok) (front : List Expr) (ys : List Tok) → Lacks right_paren xs → ListSo xs front ys
      → Refuses N expr ys → TakesNone (Arguments N) xs
  item_refused xs front ys n s r = record { never = λ cs zs e. let q = s.back zs cs (listed n e) in item_never r q.2 }

  gap_never : {ys ws zs : List Tok} {a : Expr} {cs : List Expr} → Reads N expr ys a ws → Lacks right_paren ws
      → Lacks comma ws → Listed N ys zs cs → ⊥
  gap_never {ws = ws} r n o (last {m = m} {d = d} {ys = ys} {a = a} k e) = let q =
      r.only a (mark m d ∷ ys) e (ends_at_paren m d ys k) in lacks_is m d right_paren ws ys n (sym q.1) k
  gap_never {ws = ws} r n o (next {m = m} {d = d} {ys = ys} {a = a} k e g) = let q =
      r.only a (mark m d ∷ ys) e (ends_at_comma m d ys k) in lacks_is m d comma ws ys o (sym q.1) k

  pub gap_refused : (xs : List Tok) (front : List Expr) (ys ws : List Tok) (a : Expr) → Lacks right_paren xs
      → ListSo xs front ys → Reads N expr ys a ws → Lacks right_paren ws → Lacks comma ws → TakesNone (Arguments N) xs
  gap_refused xs front ys ws a n s r k o = record {
    never = λ cs zs e. let q = s.back zs cs (listed n e) in
        gap_never r k o q.2;
  }
