-- Heads that wait, with what is kept of them.
use Rattle.std.proofs.Common.{◌≡◌, ℕ, Bool, List, [], ◌∷◌, Option, Some, refl, sym, ap, ◌∙◌, subst}
use Rattle.std.specs.Global.{Box}
use Rattle.ep_ast.specs.declared.expressions.ExprTree.{ExprTree}
use Rattle.ep_ast.specs.declared.statements.StmtTree.{StmtTree}
use Rattle.ep_ast.specs.Token.{Tok}
use Rattle.ep_ast.specs.Expression.{Expr}
use Rattle.ep_ast.specs.Statement as tree
use Rattle.ep_ast.specs.Statement.{First, Stmt}
use Rattle.ep_ast.specs.Mark.{else_word}
use Rattle.ep_ast.specs.StatementGrammar.{States}
use Rattle.ep_ast.specs.Reading.{TakesNone, LacksWord, AtWord}
use Rattle.ep_reading.specs.Answer.{IsTaken}
use Rattle.ep_reading.specs.declared.measured.Measured.{Measured}
use Rattle.ep_statement_parts.specs.declared.kept.Counted.{Counted}
use Rattle.ep_ast.specs.declared.statements.HeadingTree.{HeadingTree}
use Rattle.ep_statement_heads.specs.declared.frames.Frame.{Frame}
use Rattle.ep_statement_heads.specs.declared.frames.Frame.TheVariants as frames
use Rattle.ep_statement_parts.specs.View.{ShowsTest, ShowsHeading, ShowsStmt}
use Rattle.ep_simple_statements.specs.Piece.{DoEnd}
use Rattle.ep_statement_heads.specs.Around.{Outer, if_head, else_head, while_head, for_head, do_head, Finishes, Opened}
use Rattle.ep_statement_heads.specs.Around.{Waits, Stands}
use Rattle.ep_statement_heads.proofs.FrameLemmas as steps

module _ (N : List ℕ → Bool) where
  pub waits_begin : (xs : List Tok) → Waits N xs [] xs
  waits_begin xs = record { heads = []; shows = refl; reaches = steps.reach_begin N xs }

  pub waits_step : (xs ys zs : List Tok) (ks : List Frame) (k : Frame) → Waits N xs ks ys → Opened N ys k zs
      → Waits N xs (k ∷ ks) zs
  waits_step xs ys zs ks k w o = record {
    heads = o.head ∷ w.heads;
    shows = (o.head, w.heads, refl, o.shows, w.shows);
    reaches = steps.reach_step N xs ys
        zs w.heads o.head w.reaches o.opens;
  }

  pub waits_none : (xs ys : List Tok) (ks : List Frame) → Waits N xs ks ys → TakesNone (States N) ys
      → TakesNone (States N) xs
  waits_none xs ys ks w n = steps.reach_none N xs ys w.heads w.reaches n

  pub stands_begin : (xs ys zs : List Tok) (ks : List Frame) (j : Counted StmtTree) → Waits N xs ks ys
      → IsTaken ShowsStmt (States N) ys j zs → Stands N xs ks j zs
  stands_begin xs ys zs ks j w t = record {
    heads = w.heads;
    inner = t.value;
    shows_heads = w.shows;
    shows = t.shows;
    finishes = steps.finish_begin N xs ys
        zs w.heads t.value w.reaches t.takes;
  }

  pub stands_end : (xs zs : List Tok) (j : Counted StmtTree) → Stands N xs [] j zs
      → IsTaken ShowsStmt (States N) xs j zs
  stands_end xs zs j s =
      let f : Finishes N xs [] s.inner zs = subst (λ (fs : List Outer). Finishes N xs fs s.inner zs) s.shows_heads
      s.finishes in
      record { value = s.inner; shows = s.shows; takes = steps.finish_end N xs zs s.inner f }

  -- ---- each head with its statement

  pub stands_if : (xs zs : List Tok) (ks : List Frame) (l : ℕ) (k : Measured ExprTree) (j i : Counted StmtTree)
      → ((e : Expr) (s : Stmt) → ShowsTest l k e → ShowsStmt j s → ShowsStmt i (tree.if_then l e s))
      → LacksWord else_word zs → Stands N xs (frames.If l k ∷ ks) j zs → Stands N xs ks i zs
  stands_if xs zs ks l k j i f n s =
      let a = s.shows_heads in
      let b = a.3 in
      let d : Finishes N xs (if_head l b.0 ∷ a.1) s.inner zs = subst (λ (fs : List Outer). Finishes N xs fs s.inner zs)
      (a.2 ∙ ap (λ (g : Outer). g ∷ a.1) b.1) s.finishes in
      record {
        heads = a.1;
        inner = tree.if_then l b.0 s.inner;
        shows_heads = a.4;
        shows = f b.0 s.inner b.2 s.shows;
        finishes = steps.close_if N xs zs a.1 l b.0 s.inner d n;
      }

  pub waits_else : (xs zs us : List Tok) (ks : List Frame) (l m : ℕ) (k : Measured ExprTree) (j : Counted StmtTree)
      (b : Box (Counted StmtTree)) → b.value ≡ j
      → AtWord else_word zs (Some (m, us)) → Stands N xs (frames.If l k ∷ ks) j zs
      → Waits N xs (frames.Else l k b ∷ ks) us
  waits_else xs zs us ks l m k j v e n s =
      let a = s.shows_heads in
      let b = a.3 in
      let d : Finishes N xs (if_head l b.0 ∷ a.1) s.inner zs = subst (λ (fs : List Outer). Finishes N xs fs s.inner zs)
      (a.2 ∙ ap (λ (g : Outer). g ∷ a.1) b.1) s.finishes in
      record {
        heads = else_head l b.0 s.inner ∷ a.1;
        shows = (
          else_head l b.0 s.inner,
          a.1,
          refl,
          (b.0, s.inner, refl, b.2, subst (λ (i : Counted StmtTree). ShowsStmt i s.inner) (sym e) s.shows),
          a.4,
        );
        reaches = steps.wait_else N xs zs us a.1 l m b.0 s.inner d n;
      }

  pub stands_else : (xs zs : List Tok) (ks : List Frame) (l : ℕ) (k : Measured ExprTree) (v : Box (Counted StmtTree))
      (h j i : Counted StmtTree) → h ≡ v.value
      → ((e : Expr) (s t : Stmt) → ShowsTest l k e → ShowsStmt h s → ShowsStmt j t
      → ShowsStmt i (tree.if_else l e s t)) → Stands N xs (frames.Else l k v ∷ ks) j zs → Stands N xs ks i zs
  stands_else xs zs ks l k v h j i e f s =
      let a = s.shows_heads in
      let b = a.3 in
      let d : Finishes N xs (else_head l b.0 b.1 ∷ a.1) s.inner zs = subst
      (λ (fs : List Outer). Finishes N xs fs s.inner zs) (a.2 ∙ ap (λ (g : Outer). g ∷ a.1) b.2) s.finishes in
      record {
        heads = a.1;
        inner = tree.if_else l b.0 b.1 s.inner;
        shows_heads = a.4;
        shows = f b.0 b.1 s.inner b.3
            (subst (λ (n : Counted StmtTree). ShowsStmt n b.1) (sym e) b.4) s.shows;
        finishes = steps.close_else N xs zs
            a.1 l b.0 b.1 s.inner d;
      }

  pub stands_while : (xs zs : List Tok) (ks : List Frame) (l : ℕ) (k : Measured ExprTree) (j i : Counted StmtTree)
      → ((e : Expr) (s : Stmt) → ShowsTest l k e → ShowsStmt j s → ShowsStmt i (tree.while_loop l e s))
      → Stands N xs (frames.While l k ∷ ks) j zs → Stands N xs ks i zs
  stands_while xs zs ks l k j i f s =
      let a = s.shows_heads in
      let b = a.3 in
      let d : Finishes N xs (while_head l b.0 ∷ a.1) s.inner zs = subst
      (λ (fs : List Outer). Finishes N xs fs s.inner zs) (a.2 ∙ ap (λ (g : Outer). g ∷ a.1) b.1) s.finishes in
      record {
        heads = a.1;
        inner = tree.while_loop l b.0 s.inner;
        shows_heads = a.4;
        shows = f b.0 s.inner b.2
            s.shows;
        finishes = steps.close_while N xs zs a.1 l b.0 s.inner d;
      }

  pub stands_for : (xs zs : List Tok) (ks : List Frame) (l : ℕ) (k : Box (Measured HeadingTree))
      (h : Measured HeadingTree)
      (j i : Counted StmtTree) → h ≡ k.value
      → ((p : First × Option Expr × Option Expr) (s : Stmt) → ShowsHeading l h p → ShowsStmt j s
      → ShowsStmt i (tree.for_loop l p.0 p.1 p.2 s)) → Stands N xs (frames.For l k ∷ ks) j zs → Stands N xs ks i zs
  stands_for xs zs ks l k h j i e f s =
      let a = s.shows_heads in
      let b = a.3 in
      let d : Finishes N xs (for_head l b.0 ∷ a.1) s.inner zs = subst
      (λ (fs : List Outer). Finishes N xs fs s.inner zs) (a.2 ∙ ap (λ (g : Outer). g ∷ a.1) b.1) s.finishes in
      record {
        heads = a.1;
        inner = tree.for_loop l b.0.0 b.0.1 b.0.2 s.inner;
        shows_heads = a.4;
        shows = f b.0 s.inner
            (subst (λ (n : Measured HeadingTree). ShowsHeading l n b.0) (sym e) b.2) s.shows;
        finishes = steps.close_for N xs
            zs a.1 l b.0 s.inner d;
      }

  pub stands_do : (xs zs us : List Tok) (ks : List Frame) (l : ℕ) (k : Measured ExprTree) (j i : Counted StmtTree)
      → ((e : Expr) (s : Stmt) → ShowsStmt j s → ShowsTest l k e → ShowsStmt i (tree.do_loop l s e))
      → IsTaken (ShowsTest l) (DoEnd N) zs k us → Stands N xs (frames.Do l ∷ ks) j zs → Stands N xs ks i us
  stands_do xs zs us ks l k j i f t s =
      let a = s.shows_heads in
      let d : Finishes N xs (do_head l ∷ a.1) s.inner zs = subst (λ (fs : List Outer). Finishes N xs fs s.inner zs)
      (a.2 ∙ ap (λ (g : Outer). g ∷ a.1) a.3) s.finishes in
      record {
        heads = a.1;
        inner = tree.do_loop l s.inner t.value;
        shows_heads = a.4;
        shows = f t.value s.inner
            s.shows t.shows;
        finishes = steps.close_do N xs zs us a.1 l t.value s.inner d t.takes;
      }

  pub do_refused : (xs zs : List Tok) (ks : List Frame) (l : ℕ) (j : Counted StmtTree)
      → Stands N xs (frames.Do l ∷ ks) j zs → TakesNone (DoEnd N) zs → TakesNone (States N) xs
  do_refused xs zs ks l j s n =
      let a = s.shows_heads in
      let d : Finishes N xs (do_head l ∷ a.1) s.inner zs = subst (λ (fs : List Outer). Finishes N xs fs s.inner zs)
      (a.2 ∙ ap (λ (g : Outer). g ∷ a.1) a.3) s.finishes in
      steps.do_none N xs zs a.1 l s.inner d n
