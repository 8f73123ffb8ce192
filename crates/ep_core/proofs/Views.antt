-- Rows of statements in memory, seen as lists.
use Rattle.std.proofs.Common.{◌≡◌, ℕ, Bool, refl, ap, ◌∙◌}
use Rattle.std.specs.declared.alloc.Global.{Global}
use Rattle.std.specs.declared.vec.Vec.{Vec}
use Rattle.ep_int.specs.declared.types.Order.{Order}
use Rattle.ep_core.specs.declared.tree.Expr as tree
use Rattle.ep_core.specs.declared.tree.Stmt.{Stmt}
use Rattle.ep_core.specs.declared.tree.What.{Row_of-Stmt, end_of-Stmt, more_of-Stmt, items-the_row-Stmt}
use Rattle.ep_core.specs.declared.tree.What.TheBlock.{items_hidden-the_row-Stmt-0, hidden-the_row-Stmt-0}
use Rattle.ep_core.specs.declared.tree.What.TheVariants.{If, Loop, ByOrder, Scope}
use Rattle.ep_core.specs.Program.{if_else, loop, by_order, scope, more}
use Rattle.ep_core.specs.View.{expr_view, what_view, row_view, stmts_view}

pub row_is : {m : _} (r : Row_of-Stmt m) → row_view r ≡ stmts_view (items-the_row-Stmt m r)
row_is end_of-Stmt = refl
row_is (more_of-Stmt l w rest) = ap (more l (what_view w)) (row_is rest)

pub vec_is : (a : Vec Stmt Global) → row_view (hidden-the_row-Stmt-0 a) ≡ stmts_view a.items
vec_is a = row_is (hidden-the_row-Stmt-0 a) ∙ ap stmts_view (items_hidden-the_row-Stmt-0 a)

pub if_is : (e : tree.Expr) (a b : Vec Stmt Global)
    → what_view (If e a b) ≡ if_else (expr_view e) (stmts_view a.items) (stmts_view b.items)
if_is e a b =
    ap (λ x. if_else (expr_view e) x (row_view (hidden-the_row-Stmt-0 b))) (vec_is a)
    ∙ ap (if_else (expr_view e) (stmts_view a.items)) (vec_is b)

pub loop_is : (first : Bool) (e : tree.Expr) (a b : Vec Stmt Global)
    → what_view (Loop first e a b) ≡ loop first (expr_view e) (stmts_view a.items) (stmts_view b.items)
loop_is first e a b =
    ap (λ x. loop first (expr_view e) x (row_view (hidden-the_row-Stmt-0 b))) (vec_is a)
    ∙ ap (loop first (expr_view e) (stmts_view a.items)) (vec_is b)

pub by_order_is : (o : Order) (a b : Vec Stmt Global)
    → what_view (ByOrder o a b) ≡ by_order o (stmts_view a.items) (stmts_view b.items)
by_order_is o a b =
    ap (λ x. by_order o x (row_view (hidden-the_row-Stmt-0 b))) (vec_is a)
    ∙ ap (by_order o (stmts_view a.items)) (vec_is b)

pub scope_is : (bs : Vec ℕ Global) (a : Vec Stmt Global)
    → what_view (Scope bs a) ≡ scope bs.items (stmts_view a.items)
scope_is bs a = ap (scope bs.items) (vec_is a)
