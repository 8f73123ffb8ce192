-- Rows of statements in memory, seen as lists of lines.
use Rattle.std.proofs.Common.{◌≡◌, ℕ, Bool, List, map, refl, ap, ◌∙◌}
use Rattle.std.specs.Global.{Vec}
use Rattle.ep_int.specs.declared.types.Order.{Order}
use Rattle.ep_core.specs.declared.tree.Expr as tree
use Rattle.ep_core.specs.declared.tree.Stmt.{Stmt}
use Rattle.ep_core.specs.declared.tree.What.{Row_of-Stmt, end_of-Stmt, more_of-Stmt, items-the_row-Stmt}
use Rattle.ep_core.specs.declared.tree.What.TheBlock.{items_hidden-the_row-Stmt-0, hidden-the_row-Stmt-0}
use Rattle.ep_core.specs.declared.tree.What.TheVariants.{If, Loop, ByOrder, Scope}
use Rattle.ep_core.specs.Program as core
use Rattle.ep_core.specs.View.{expr_view, what_view, row_view}
use Rattle.ep_elaboration.specs.Statements.{to_core}
use Rattle.ep_declared.specs.View.{line}
use Rattle.ep_typer_lines.specs.View.{lines}

row_is : {m : _} (r : Row_of-Stmt m) → row_view r ≡ to_core (map line (items-the_row-Stmt m r))
row_is end_of-Stmt = refl
row_is (more_of-Stmt l w rest) = ap (core.more l (what_view w)) (row_is rest)

pub vec_is : (a : Vec Stmt) → row_view (hidden-the_row-Stmt-0 a) ≡ to_core (lines a)
vec_is a = row_is (hidden-the_row-Stmt-0 a) ∙ ap (λ (ss : List Stmt). to_core (map line ss)) (items_hidden-the_row-Stmt-0 a)

pub if_is : (e : tree.Expr) (a b : Vec Stmt) → what_view (If e a b) ≡ core.if_else (expr_view e) (to_core (lines a)) (to_core (lines b))
if_is e a b =
    ap (λ x. core.if_else (expr_view e) x (row_view (hidden-the_row-Stmt-0 b))) (vec_is a)
    ∙ ap (core.if_else (expr_view e) (to_core (lines a))) (vec_is b)

pub loop_is : (first : Bool) (e : tree.Expr) (a b : Vec Stmt)
    → what_view (Loop first e a b) ≡ core.loop first (expr_view e) (to_core (lines a)) (to_core (lines b))
loop_is first e a b =
    ap (λ x. core.loop first (expr_view e) x (row_view (hidden-the_row-Stmt-0 b))) (vec_is a)
    ∙ ap (core.loop first (expr_view e) (to_core (lines a))) (vec_is b)

pub order_is : (o p : Order) (a b : Vec Stmt) → o ≡ p
    → what_view (ByOrder o a b) ≡ core.by_order p (to_core (lines a)) (to_core (lines b))
order_is o p a b e =
    ap (λ x. core.by_order o x (row_view (hidden-the_row-Stmt-0 b))) (vec_is a)
    ∙ ap (core.by_order o (to_core (lines a))) (vec_is b)
    ∙ ap (λ x. core.by_order x (to_core (lines a)) (to_core (lines b))) e

pub scope_is : (bs : Vec ℕ) (a : Vec Stmt) → what_view (Scope bs a) ≡ core.scope bs.items (to_core (lines a))
scope_is bs a = ap (core.scope bs.items) (vec_is a)
