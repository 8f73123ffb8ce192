-- Tests of statements with statements in them, by the lists in memory.
use Rattle.std.proofs.Common.{◌≡◌, ℕ, Bool, List, sym, ap, ◌∙◌}
use Rattle.std.specs.declared.alloc.Global.{Global}
use Rattle.std.specs.declared.vec.Vec.{Vec}
use Rattle.ep_int.specs.declared.types.Order.{Order}
use Rattle.ep_core.specs.declared.tree.Expr.{Expr}
use Rattle.ep_core.specs.declared.tree.Stmt.{Stmt}
use Rattle.ep_core.specs.declared.tree.What as action
use Rattle.ep_core.specs.declared.tree.What.TheVariants.{If, Loop, ByOrder, Scope}
use Rattle.ep_core.specs.Program.{What, Stmts, if_else, loop, by_order, scope}
use Rattle.ep_core.specs.View.{expr_view, stmts_view, what_view}
use Rattle.ep_core.proofs.Views.{if_is, loop_is, by_order_is, scope_is}

two_lists : (f : Stmts → Stmts → Bool) (a b : Vec Stmt Global) (ss ts : List Stmt) → ss ≡ a.items → ts ≡ b.items
    → f (stmts_view ss) (stmts_view ts) ≡ f (stmts_view a.items) (stmts_view b.items)
two_lists f a b ss ts h d =
    ap (λ (x : List Stmt). f (stmts_view x) (stmts_view ts)) h
    ∙ ap (λ (y : List Stmt). f (stmts_view a.items) (stmts_view y)) d

-- where a test of the statement is told by its lists
module _ (f : What → Bool) (w : action.What) (r : Bool) where
  pub by_if : (e : Expr) (a b : Vec Stmt Global) (ss ts : List Stmt) → w ≡ If e a b → ss ≡ a.items → ts ≡ b.items
      → r ≡ f (if_else (expr_view e) (stmts_view ss) (stmts_view ts)) → r ≡ f (what_view w)
  by_if e a b ss ts i h d g =
      g ∙ (two_lists (λ x y. f (if_else (expr_view e) x y)) a b ss ts h d
      ∙ (ap f (sym (if_is e a b)) ∙ ap (λ (z : action.What). f (what_view z)) (sym i)))

  pub by_loop : (first : Bool) (e : Expr) (a b : Vec Stmt Global) (ss ts : List Stmt) → w ≡ Loop first e a b
      → ss ≡ a.items → ts ≡ b.items → r ≡ f (loop first (expr_view e) (stmts_view ss) (stmts_view ts))
      → r ≡ f (what_view w)
  by_loop first e a b ss ts i h d g =
      g ∙ (two_lists (λ x y. f (loop first (expr_view e) x y)) a b ss ts h d
      ∙ (ap f (sym (loop_is first e a b)) ∙ ap (λ (z : action.What). f (what_view z)) (sym i)))

  pub by_arms : (o : Order) (a b : Vec Stmt Global) (ss ts : List Stmt) → w ≡ ByOrder o a b → ss ≡ a.items
      → ts ≡ b.items → r ≡ f (by_order o (stmts_view ss) (stmts_view ts)) → r ≡ f (what_view w)
  by_arms o a b ss ts i h d g =
      g ∙ (two_lists (λ x y. f (by_order o x y)) a b ss ts h d
      ∙ (ap f (sym (by_order_is o a b)) ∙ ap (λ (z : action.What). f (what_view z)) (sym i)))

  pub by_scope : (bs : Vec ℕ Global) (a : Vec Stmt Global) (ss : List Stmt) → w ≡ Scope bs a → ss ≡ a.items
      → r ≡ f (scope bs.items (stmts_view ss)) → r ≡ f (what_view w)
  by_scope bs a ss i h g =
      g ∙ (ap (λ (x : List Stmt). f (scope bs.items (stmts_view x))) h
      ∙ (ap f (sym (scope_is bs a)) ∙ ap (λ (z : action.What). f (what_view z)) (sym i)))
