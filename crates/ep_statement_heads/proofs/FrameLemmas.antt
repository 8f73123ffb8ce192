-- Heads that wait: each step of the reading of statements.
use Rattle.std.proofs.Common.{◌≡◌, ℕ, Bool, List, [], ◌∷◌, Option, Some, refl, subst}
use Rattle.ep_ast.specs.Token.{Tok, word}
use Rattle.ep_ast.specs.Expression.{Expr}
use Rattle.ep_ast.specs.Statement as tree
use Rattle.ep_ast.specs.Statement.{First, Stmt, make_if}
use Rattle.ep_ast.specs.Mark.{else_word}
use Rattle.ep_ast.specs.StatementGrammar.{States, no_else, else_too}
use Rattle.ep_ast.specs.Reading.{Takes, TakesNone, LacksWord, AtWord}
use Rattle.ep_simple_statements.specs.Piece.{DoEnd}
use Rattle.ep_statement_heads.specs.Around.{Outer, if_head, else_head, while_head, for_head, do_head}
use Rattle.ep_statement_heads.specs.Around.{chosen, chosen_else, repeated, turned, done, Unwinds, no_heads, one_head}
use Rattle.ep_statement_heads.specs.Around.{Reaches, Finishes, Opens}

module _ (N : List ℕ → Bool) where
  pub reach_begin : (xs : List Tok) → Reaches N xs [] xs
  reach_begin xs = record { forth = λ s t zs ws d u. begin_forth d u; back = λ t ws d. (t, ws, d, no_heads) }
    where
      begin_forth : {xs zs ws : List Tok} {s t : Stmt} → States N xs zs s → Unwinds N [] s zs ws t → States N xs ws t
      begin_forth d no_heads = d

  step_forth : {xs ys zs : List Tok} {fs : List Outer} {f : Outer} {s t : Stmt} {vs ws : List Tok} → Reaches N xs fs ys
      → Opens N ys f zs → States N zs vs s → Unwinds N (f ∷ fs) s vs ws t → States N xs ws t
  step_forth {s = s} {vs = vs} r o d (one_head {t = u} {zs = us} a k) = r.forth u _ us _ (o.forth s u vs us d a) k

  pub reach_step : (xs ys zs : List Tok) (fs : List Outer) (f : Outer) → Reaches N xs fs ys → Opens N ys f zs
      → Reaches N xs (f ∷ fs) zs
  reach_step xs ys zs fs f r o = record {
    forth = λ s t vs ws d u. step_forth r o d u;
    back = λ t ws d. let p = r.back t ws d in let q = o.back p.0 p.1 p.2 in (q.0, q.1, q.2, one_head q.3 p.3);
  }

  pub reach_none : (xs ys : List Tok) (fs : List Outer) → Reaches N xs fs ys → TakesNone (States N) ys
      → TakesNone (States N) xs
  reach_none xs ys fs r n = record { never = λ t ws d. let p = r.back t ws d in n.never p.0 p.1 p.2 }

  finish_back : {ys zs vs ws : List Tok} {fs : List Outer} {s u t : Stmt} → Takes (States N) ys s zs → States N ys vs u
      → Unwinds N fs u vs ws t → Unwinds N fs s zs ws t
  finish_back {zs = zs} {vs = vs} {ws = ws} {fs = fs} {u = u} {t = t} k d w =
      let q = k.only u vs d in
      let m : Unwinds N fs u zs ws t = subst (λ (us : List Tok). Unwinds N fs u us ws t) q.1 w in
      subst (λ (v : Stmt). Unwinds N fs v zs ws t) q.0 m

  pub finish_begin : (xs ys zs : List Tok) (fs : List Outer) (s : Stmt) → Reaches N xs fs ys → Takes (States N) ys s zs
      → Finishes N xs fs s zs
  finish_begin xs ys zs fs s r k = record {
    forth = λ t ws u. r.forth s t zs ws k.holds u;
    back = λ t ws d. let p = r.back t ws d in finish_back k p.2 p.3;
  }

  empty_back : {s t : Stmt} {zs ws : List Tok} → Unwinds N [] s zs ws t → (t ≡ s) × (ws ≡ zs)
  empty_back no_heads = (refl, refl)

  pub finish_end : (xs zs : List Tok) (s : Stmt) → Finishes N xs [] s zs → Takes (States N) xs s zs
  finish_end xs zs s r = record { holds = r.forth s zs no_heads; only = λ t ws d. empty_back (r.back t ws d) }

  -- ---- a head that is whole with the statement inside it

  while_back : {fs : List Outer} {l : ℕ} {e : Expr} {s t : Stmt} {zs ws : List Tok}
      → Unwinds N (while_head l e ∷ fs) s zs ws t → Unwinds N fs (tree.while_loop l e s) zs ws t
  while_back (one_head repeated k) = k

  pub close_while : (xs zs : List Tok) (fs : List Outer) (l : ℕ) (e : Expr) (s : Stmt)
      → Finishes N xs (while_head l e ∷ fs) s zs → Finishes N xs fs (tree.while_loop l e s) zs
  close_while xs zs fs l e s r = record
      { forth = λ t ws u. r.forth t ws (one_head repeated u); back = λ t ws d. while_back (r.back t ws d) }

  for_back : {fs : List Outer} {l : ℕ} {p : First × Option Expr × Option Expr} {s t : Stmt} {zs ws : List Tok}
      → Unwinds N (for_head l p ∷ fs) s zs ws t → Unwinds N fs (tree.for_loop l p.0 p.1 p.2 s) zs ws t
  for_back (one_head turned k) = k

  pub close_for : (xs zs : List Tok) (fs : List Outer) (l : ℕ) (p : First × Option Expr × Option Expr) (s : Stmt)
      → Finishes N xs (for_head l p ∷ fs) s zs → Finishes N xs fs (tree.for_loop l p.0 p.1 p.2 s) zs
  close_for xs zs fs l p s r = record
      { forth = λ t ws u. r.forth t ws (one_head turned u); back = λ t ws d. for_back (r.back t ws d) }

  else_back : {fs : List Outer} {l : ℕ} {e : Expr} {s t u : Stmt} {zs ws : List Tok}
      → Unwinds N (else_head l e s ∷ fs) t zs ws u → Unwinds N fs (tree.if_else l e s t) zs ws u
  else_back (one_head chosen_else k) = k

  pub close_else : (xs zs : List Tok) (fs : List Outer) (l : ℕ) (e : Expr) (s t : Stmt)
      → Finishes N xs (else_head l e s ∷ fs) t zs → Finishes N xs fs (tree.if_else l e s t) zs
  close_else xs zs fs l e s t r = record
      { forth = λ u ws k. r.forth u ws (one_head chosen_else k); back = λ u ws d. else_back (r.back u ws d) }

  -- ---- a `do`

  do_back : {fs : List Outer} {l : ℕ} {e : Expr} {s t : Stmt} {zs vs ws : List Tok} → Takes (DoEnd N) zs e vs
      → Unwinds N (do_head l ∷ fs) s zs ws t → Unwinds N fs (tree.do_loop l s e) vs ws t
  do_back {fs = fs} {l = l} {e = e} {s = s} {t = t} {vs = vs} {ws = ws} k (one_head {zs = us} (done {e = f} i) u) =
      let q = k.only f us i in
      let m : Unwinds N fs (tree.do_loop l s f) vs ws t = subst
      (λ (ys : List Tok). Unwinds N fs (tree.do_loop l s f) ys ws t) q.1 u in
      subst (λ (g : Expr). Unwinds N fs (tree.do_loop l s g) vs ws t) q.0 m

  pub close_do : (xs zs vs : List Tok) (fs : List Outer) (l : ℕ) (e : Expr) (s : Stmt)
      → Finishes N xs (do_head l ∷ fs) s zs → Takes (DoEnd N) zs e vs → Finishes N xs fs (tree.do_loop l s e) vs
  close_do xs zs vs fs l e s r k = record
      { forth = λ t ws u. r.forth t ws (one_head (done k.holds) u); back = λ t ws d. do_back k (r.back t ws d) }

  do_never : {fs : List Outer} {l : ℕ} {s t : Stmt} {zs ws : List Tok} → TakesNone (DoEnd N) zs
      → Unwinds N (do_head l ∷ fs) s zs ws t → ⊥
  do_never n (one_head {zs = us} (done {e = f} i) u) = n.never f us i

  pub do_none : (xs zs : List Tok) (fs : List Outer) (l : ℕ) (s : Stmt) → Finishes N xs (do_head l ∷ fs) s zs
      → TakesNone (DoEnd N) zs → TakesNone (States N) xs
  do_none xs zs fs l s r n = record { never = λ t ws d. do_never n (r.back t ws d) }

  -- ---- an `if`

  if_back : {fs : List Outer} {l : ℕ} {e : Expr} {s t : Stmt} {zs ws : List Tok} → LacksWord else_word zs
      → Unwinds N (if_head l e ∷ fs) s zs ws t → Unwinds N fs (tree.if_then l e s) zs ws t
  if_back n (one_head (chosen (no_else k)) u) = u
  if_back n (one_head (chosen (else_too h d)) u) = absurd (n h)

  pub close_if : (xs zs : List Tok) (fs : List Outer) (l : ℕ) (e : Expr) (s : Stmt)
      → Finishes N xs (if_head l e ∷ fs) s zs → LacksWord else_word zs → Finishes N xs fs (tree.if_then l e s) zs
  close_if xs zs fs l e s r n = record
      { forth = λ t ws u. r.forth t ws (one_head (chosen (no_else n)) u); back = λ t ws d. if_back n (r.back t ws d) }

  wait_forth : {xs us : List Tok} {fs : List Outer} {l m c : ℕ} {e : Expr} {s t v : Stmt} {ys ws : List Tok}
      → c ≡ else_word → Finishes N xs (if_head l e ∷ fs) s (word m c ∷ us) → States N us ys t
      → Unwinds N (else_head l e s ∷ fs) t ys ws v → States N xs ws v
  wait_forth {v = v} {ws = ws} h r d (one_head chosen_else u) = r.forth v ws (one_head (chosen (else_too h d)) u)

  wait_back : {us : List Tok} {fs : List Outer} {l m c : ℕ} {e : Expr} {s v : Stmt} {ws : List Tok} → c ≡ else_word
      → Unwinds N (if_head l e ∷ fs) s (word m c ∷ us) ws v → (t : Stmt) × (ys : List Tok) × States N us ys t
      × Unwinds N (else_head l e s ∷ fs) t ys ws v
  wait_back h (one_head (chosen (no_else k)) u) = absurd (k h)
  wait_back h (one_head (chosen (else_too {ys = ys} {s = t} k d)) u) = (t, ys, d, one_head chosen_else u)

  pub wait_else : (xs zs us : List Tok) (fs : List Outer) (l m : ℕ) (e : Expr) (s : Stmt)
      → Finishes N xs (if_head l e ∷ fs) s zs → AtWord else_word zs (Some (m, us))
      → Reaches N xs (else_head l e s ∷ fs) us
  wait_else xs zs us fs l m e s r k =
      let r' : Finishes N xs (if_head l e ∷ fs) s (word m k.0 ∷ us) = rw k.2 at r in
      record { forth = λ t v ys ws d u. wait_forth k.1 r' d u; back = λ v ws d. wait_back k.1 (r'.back v ws d) }
