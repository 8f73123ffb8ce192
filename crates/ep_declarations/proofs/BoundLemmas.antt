-- Reading pairs of `[ ]`, one after the other.
use Rattle.std.proofs.Common.{◌≡◌, ℕ, Bool, List, [], ◌∷◌, ◌++◌, Option, Some, None, refl, sym, ap, ◌∙◌, append_assoc}
use Rattle.std.proofs.lemmas.List.{append-nil}
use Rattle.ep_ast.specs.Token.{Tok, mark}
use Rattle.ep_ast.specs.Expression.{Expr}
use Rattle.ep_ast.specs.Mark.{left_bracket, right_bracket}
use Rattle.ep_ast.specs.Grammar.{expr, Derives}
use Rattle.ep_ast.specs.DeclarationGrammar.{Bounds, no_bounds, open_bound, bound}
use Rattle.ep_ast.specs.Reading.{Reads, Refuses, Takes, TakesNone, Lacks, AtMark}
use Rattle.ep_reading.proofs.FirstLemmas.{tail_is, lacks_is}
use Rattle.ep_exprs.proofs.MarkLemmas.{ends_at_bracket}
use Rattle.ep_declarations.proofs.PartLemmas.{begins_apart}

module _ (N : List ℕ → Bool) where
  -- these are read, and what comes are bounds again
  pub record BoundsSo (xs : List Tok) (front : List (Option Expr)) (ys : List Tok) : Type 0 where
    pub forth : (zs : List Tok) (bs : List (Option Expr)) → Bounds N ys zs bs → Bounds N xs zs (front ++ bs)
    pub back : (zs : List Tok) (bs : List (Option Expr)) → Bounds N xs zs bs
        → (more : List (Option Expr)) × (bs ≡ front ++ more) × Bounds N ys zs more

  pub bounds_begin : (xs : List Tok) → BoundsSo xs [] xs
  bounds_begin xs = record { forth = λ zs bs d. d; back = λ zs bs d. (bs, refl, d) }

  -- no expression begins with a closing bracket
  no_close : {m d : ℕ} {xs ys : List Tok} {a : Expr} → d ≡ right_bracket → Derives N expr (mark m d ∷ xs) ys a → ⊥
  no_close k e = begins_apart N right_bracket refl refl refl k e

  -- ---- one more

  one_open : (front : List (Option Expr)) {l c m d : ℕ} {ys zs : List Tok} {bs rest : List (Option Expr)}
      → c ≡ left_bracket → d ≡ right_bracket → bs ≡ front ++ rest → Bounds N (mark l c ∷ mark m d ∷ ys) zs rest
      → (more : List (Option Expr)) × (bs ≡ (front ++ None ∷ []) ++ more) × Bounds N ys zs more
  one_open front h k e (no_bounds n) = absurd (n h)
  one_open front h k e (open_bound {bs = bs'} h' k' r) = (bs', e ∙ sym (append_assoc front (None ∷ []) bs'), r)
  one_open front h k e (bound h' k' d r) = absurd (no_close k d)

  pub open_step : (xs : List Tok) (front : List (Option Expr)) (ys us zs : List Tok) (l m : ℕ) → BoundsSo xs front ys
      → AtMark left_bracket ys (Some (l, us)) → AtMark right_bracket us (Some (m, zs))
      → BoundsSo xs (front ++ None ∷ []) zs
  open_step xs front ys us zs l m s k j = record {
    forth = λ ws bs d. rw append_assoc (s.forth ws (None ∷ bs) (rw (k.2, j.2) (open_bound k.1 j.1 d)));
    back = λ ws bs d. let q = s.back ws bs d in one_open front k.1 j.1 q.1 (rw (k.2, j.2) at q.2);
  }

  one_bound : (front : List (Option Expr)) {l c m d : ℕ} {us ws zs : List Tok} {e : Expr} {bs rest : List (Option Expr)}
      → c ≡ left_bracket → Reads N expr us e (mark m d ∷ ws) → bs ≡ front ++ rest
      → Bounds N (mark l c ∷ us) zs rest
      → (more : List (Option Expr)) × (bs ≡ (front ++ Some e ∷ []) ++ more) × Bounds N ws zs more
  one_bound front h r e (no_bounds n) = absurd (n h)
  one_bound front h r e (open_bound h' k' d) = absurd (no_close k' r.derives)
  one_bound front {e = a} h r e (bound {m = m'} {d = d'} {ys = ys'} {e = a'} {bs = bs'} h' k' f g) =
      let q = r.only a' (mark m' d' ∷ ys') f (ends_at_bracket m' d' ys' k') in (
        bs',
        e ∙ ap (λ (b : Expr). front ++ Some b ∷ bs') q.0 ∙ sym (append_assoc front (Some a ∷ []) bs'),
        rw (tail_is q.1) at g,
      )

  pub bound_step : (xs : List Tok) (front : List (Option Expr)) (ys us vs zs : List Tok) (l m : ℕ) (e : Expr)
      → BoundsSo xs front ys → AtMark left_bracket ys (Some (l, us)) → Reads N expr us e vs
      → AtMark right_bracket vs (Some (m, zs)) → BoundsSo xs (front ++ Some e ∷ []) zs
  bound_step xs front ys us vs zs l m e s k r j =
      let r' : Reads N expr us e (mark m j.0 ∷ zs) = rw j.2 at r in
      record {
        forth = λ ws bs d. rw append_assoc (s.forth ws (Some e ∷ bs) (rw k.2 (bound k.1 j.1 r'.derives d)));
        back = λ ws bs d. let q = s.back ws bs d in one_bound front k.1 r' q.1 (rw k.2 at q.2);
      }

  -- ---- ends

  no_more : {ys zs : List Tok} {bs : List (Option Expr)} → Lacks left_bracket ys → Bounds N ys zs bs
      → (bs ≡ []) × (zs ≡ ys)
  no_more k (no_bounds n) = (refl, refl)
  no_more k (open_bound h j d) = absurd (k h)
  no_more k (bound h j d r) = absurd (k h)

  bounds_only : (front : List (Option Expr)) {xs ys zs : List Tok} {bs : List (Option Expr)} → BoundsSo xs front ys
      → Lacks left_bracket ys → Bounds N xs zs bs → (bs ≡ front) × (zs ≡ ys)
  bounds_only front {zs = zs} {bs = bs} s k d =
      let q = s.back zs bs d in
      let r = no_more k q.2 in
      (q.1 ∙ ap (λ (us : List (Option Expr)). front ++ us) r.0 ∙ append-nil front, r.1)

  pub bounds_done : (xs : List Tok) (front : List (Option Expr)) (ys : List Tok) → BoundsSo xs front ys
      → Lacks left_bracket ys → Takes (Bounds N) xs front ys
  bounds_done xs front ys s k =
      record { holds = rw append-nil at (s.forth ys [] (no_bounds k)); only = λ bs zs d. bounds_only front s k d }

  size_never : {l c : ℕ} {us zs : List Tok} {bs : List (Option Expr)} → c ≡ left_bracket → Lacks right_bracket us
      → Refuses N expr us → Bounds N (mark l c ∷ us) zs bs → ⊥
  size_never h n r (no_bounds k) = k h
  size_never h n r (open_bound h' k d) = n k
  size_never h n r (bound {m = m} {d = d} {ys = ys} {e = e} h' k f g) =
      r.never e (mark m d ∷ ys) f (ends_at_bracket m d ys k)

  pub size_refused : (xs : List Tok) (front : List (Option Expr)) (ys us : List Tok) (l : ℕ) → BoundsSo xs front ys
      → AtMark left_bracket ys (Some (l, us)) → Lacks right_bracket us → Refuses N expr us
      → TakesNone (Bounds N) xs
  size_refused xs front ys us l s k n r =
      record { never = λ bs zs d. let q = s.back zs bs d in size_never k.1 n r (rw k.2 at q.2) }

  gap_never : {l c : ℕ} {us vs zs : List Tok} {a : Expr} {bs : List (Option Expr)} → c ≡ left_bracket
      → Lacks right_bracket us → Reads N expr us a vs → Lacks right_bracket vs → Bounds N (mark l c ∷ us) zs bs → ⊥
  gap_never h n r o (no_bounds k) = k h
  gap_never h n r o (open_bound h' k d) = n k
  gap_never {vs = vs} h n r o (bound {m = m} {d = d} {ys = ys} {e = e} h' k f g) =
      let q = r.only e (mark m d ∷ ys) f (ends_at_bracket m d ys k) in lacks_is m d right_bracket vs ys o (sym q.1) k

  pub gap_refused : (xs : List Tok) (front : List (Option Expr)) (ys us vs : List Tok) (l : ℕ) (a : Expr)
      → BoundsSo xs front ys → AtMark left_bracket ys (Some (l, us)) → Lacks right_bracket us → Reads N expr us a vs
      → Lacks right_bracket vs → TakesNone (Bounds N) xs
  gap_refused xs front ys us vs l a s k n r o =
      record { never = λ bs zs d. let q = s.back zs bs d in gap_never k.1 n r o (rw k.2 at q.2) }
