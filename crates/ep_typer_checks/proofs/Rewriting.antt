-- Statements whose calls go by other numbers.
use Rattle.std.proofs.Common.{◌≡◌, ℕ, zero, suc, ◌+◌, ◌<◌, ◌≤◌, Bool, List, [], ◌∷◌, length, get_or, set, refl, sym, ap}
use Rattle.std.proofs.Common.{◌∙◌, arith}
use Rattle.std.specs.Global.{Vec}
use Rattle.ep_int.specs.declared.types.Order.{Order}
use Rattle.ep_core.specs.declared.tree.Expr as tree
use Rattle.ep_core.specs.declared.tree.Stmt.{Stmt}
use Rattle.ep_core.specs.declared.tree.What.{What}
use Rattle.ep_core.specs.declared.tree.What.TheVariants.{If, Loop, ByOrder, Scope}
use Rattle.ep_core.specs.Program as core
use Rattle.ep_core.specs.View.{expr_view, stmts_view, what_view}
use Rattle.ep_core.proofs.Views.{by_order_is, if_is, loop_is, scope_is}
use Rattle.ep_elaboration.specs.Programs.{renumbered, renumbered_what}

-- ---- lists of statements

module _ (to : ℕ → ℕ) where
  -- the first of them as they stand, and all others with their calls by these numbers
  abbrev pub mixed : (i : ℕ) → List Stmt → core.Stmts
  mixed zero ss = renumbered to (stmts_view ss)
  mixed (suc i) [] = core.stop
  mixed (suc i) (s ∷ ss) = core.more s.line (what_view s.what) (mixed i ss)

  more_mixed : (i : ℕ) (ss : List Stmt) (y d : Stmt) → i < length ss → y.line ≡ (get_or ss i d).line
      → what_view y.what ≡ renumbered_what to (what_view (get_or ss i d).what) → mixed (suc i) (set ss i y) ≡ mixed i ss
  unfolding renumbered
  more_mixed i [] y d l e w = absurd (omega arith)
  more_mixed zero (s ∷ ss) y d l e w =
      ap (λ (n : ℕ). core.more n (what_view y.what) (renumbered to (stmts_view ss))) e
      ∙ ap (λ (v : core.What). core.more s.line v (renumbered to (stmts_view ss))) w
  more_mixed (suc i) (s ∷ ss) y d l e w = ap (core.more s.line (what_view s.what)) (more_mixed i ss y d (omega arith) e w)

  pub one_more : (i : ℕ) (ss : List Stmt) (y d : Stmt) (all : core.Stmts) → i < length ss → y.line ≡ (get_or ss i d).line
      → what_view y.what ≡ renumbered_what to (what_view (get_or ss i d).what) → mixed i ss ≡ all
      → mixed (i + 1) (set ss i y) ≡ all
  one_more i ss y d all l e w h =
      let n : i + 1 ≡ suc i = omega arith in
      ap (λ (k : ℕ). mixed k (set ss i y)) n ∙ more_mixed i ss y d l e w ∙ h

  pub all_done : (i : ℕ) (ss : List Stmt) → length ss ≤ i → mixed i ss ≡ stmts_view ss
  unfolding renumbered
  all_done zero [] l = refl
  all_done zero (s ∷ ss) l = absurd (omega arith)
  all_done (suc i) [] l = refl
  all_done (suc i) (s ∷ ss) l = ap (core.more s.line (what_view s.what)) (all_done i ss (omega arith))

  -- ---- statements with statements in them

  module _ (a b c d : Vec Stmt) (first : stmts_view c.items ≡ renumbered to (stmts_view a.items))
      (second : stmts_view d.items ≡ renumbered to (stmts_view b.items)) where
    pub if_done : (w : What) (e : tree.Expr) → w ≡ If e a b → what_view (If e c d) ≡ renumbered_what to (what_view w)
    unfolding renumbered_what
    if_done w e is =
        if_is e c d
        ∙ ap (λ (x : core.Stmts). core.if_else (expr_view e) x (stmts_view d.items)) first
        ∙ ap (core.if_else (expr_view e) (renumbered to (stmts_view a.items))) second
        ∙ sym (ap (λ (v : What). renumbered_what to (what_view v)) is ∙ ap (renumbered_what to) (if_is e a b))

    pub loop_done : (w : What) (f : Bool) (e : tree.Expr) → w ≡ Loop f e a b
        → what_view (Loop f e c d) ≡ renumbered_what to (what_view w)
    unfolding renumbered_what
    loop_done w f e is =
        loop_is f e c d
        ∙ ap (λ (x : core.Stmts). core.loop f (expr_view e) x (stmts_view d.items)) first
        ∙ ap (core.loop f (expr_view e) (renumbered to (stmts_view a.items))) second
        ∙ sym (ap (λ (v : What). renumbered_what to (what_view v)) is ∙ ap (renumbered_what to) (loop_is f e a b))

    pub by_order_done : (w : What) (o : Order) → w ≡ ByOrder o a b → what_view (ByOrder o c d) ≡ renumbered_what to (what_view w)
    unfolding renumbered_what
    by_order_done w o is =
        by_order_is o c d
        ∙ ap (λ (x : core.Stmts). core.by_order o x (stmts_view d.items)) first
        ∙ ap (core.by_order o (renumbered to (stmts_view a.items))) second
        ∙ sym (ap (λ (v : What). renumbered_what to (what_view v)) is ∙ ap (renumbered_what to) (by_order_is o a b))

  pub scope_done : (a c : Vec Stmt) → stmts_view c.items ≡ renumbered to (stmts_view a.items) → (w : What) (bs : Vec ℕ)
      → w ≡ Scope bs a → what_view (Scope bs c) ≡ renumbered_what to (what_view w)
  unfolding renumbered_what
  scope_done a c h w bs is =
      scope_is bs c ∙ ap (core.scope bs.items) h
      ∙ sym (ap (λ (v : What). renumbered_what to (what_view v)) is ∙ ap (renumbered_what to) (scope_is bs a))
