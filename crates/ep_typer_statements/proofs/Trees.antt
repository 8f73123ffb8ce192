-- Statements in memory with their parts, and arms by byte order.
use Rattle.std.proofs.Common.{◌≡◌, ℕ, Bool, List, [], map, Option, Some, None, Ok, Err, refl, sym, ap, ◌∙◌}
use Rattle.std.specs.Global.{Box, Vec}
use Rattle.std.specs.Option.{option_map}
use Rattle.ep_ast.specs.declared.orders.NamedOrder.{NamedOrder}
use Rattle.ep_ast.specs.declared.refusals.Halt.{Halt}
use Rattle.ep_ast.specs.declared.refusals.Halt.TheVariants as halts
use Rattle.ep_ast.specs.declared.expressions.ExprTree.{ExprTree}
use Rattle.ep_ast.specs.declared.statements.StmtTree.{StmtTree, Block, While, Do, For}
use Rattle.ep_ast.specs.declared.statements.HeadingTree.{HeadingTree}
use Rattle.ep_ast.specs.declared.statements.BlockItemTree.{BlockItemTree, Arms}
use Rattle.ep_ast.specs.declared.statements.BlockItemTree.TheBlock.{back-BlockItemTree-Arms-3}
use Rattle.ep_ast.specs.Expression.{expr}
use Rattle.ep_ast.specs.Statement as shape
use Rattle.ep_ast.specs.Statement.{Stmts, Parts, first_of, stmt_of, part_of, to_stmts, to_parts, held_stmts, make_arms}
use Rattle.ep_ast.proofs.Rows.{parts-vec, stmts-option, stmts-vec}
use Rattle.ep_core.specs.Program as core
use Rattle.ep_typing.specs.declared.types.CType.{CType}
use Rattle.ep_typing.specs.Env.{Env}
use Rattle.ep_operands.specs.Refinement.{Stops}
use Rattle.ep_elaboration.specs.Declarations.{Line}
use Rattle.ep_elaboration.specs.Statements.{entered, left, one_line, order_of, part, statements, to_core}

pub block_tree : (l : ℕ) (t : StmtTree) (v : Vec BlockItemTree) (xs : List BlockItemTree) → t ≡ Block l v → xs ≡ v.items
    → stmt_of t ≡ shape.block l (to_parts (map part_of xs))
block_tree l t v xs is at =
    ap stmt_of is ∙ ap (λ (ps : Parts). shape.block l ps) (parts-vec v)
    ∙ ap (λ (ys : List BlockItemTree). shape.block l (to_parts (map part_of ys))) (sym at)

pub while_tree : (l : ℕ) (t u : StmtTree) (e : ExprTree) (p : Box StmtTree) → t ≡ While l e p → u ≡ p.value
    → stmt_of t ≡ shape.while_loop l (expr e) (stmt_of u)
while_tree l t u e p is at = ap stmt_of is ∙ ap (λ (s : StmtTree). shape.while_loop l (expr e) (stmt_of s)) (sym at)

pub do_tree : (l : ℕ) (t u : StmtTree) (e : ExprTree) (p : Box StmtTree) → t ≡ Do l p e → u ≡ p.value
    → stmt_of t ≡ shape.do_loop l (stmt_of u) (expr e)
do_tree l t u e p is at = ap stmt_of is ∙ ap (λ (s : StmtTree). shape.do_loop l (stmt_of s) (expr e)) (sym at)

pub for_tree : (l : ℕ) (t u : StmtTree) (h : HeadingTree) (b : Box HeadingTree) (p : Box StmtTree) → t ≡ For l b p
    → h ≡ b.value → u ≡ p.value
    → stmt_of t ≡ shape.for_loop l (first_of h.first) (option_map expr h.test) (option_map expr h.next) (stmt_of u)
for_tree l t u h b p is heading at =
    ap stmt_of is
    ∙ ap (λ (g : HeadingTree). shape.for_loop l (first_of g.first) (option_map expr g.test) (option_map expr g.next) (stmt_of p.value)) (sym heading)
    ∙ ap (λ (s : StmtTree). shape.for_loop l (first_of h.first) (option_map expr h.test) (option_map expr h.next) (stmt_of s)) (sym at)

pub arms_tree : (l : ℕ) (o : NamedOrder) (v : Vec StmtTree) (e : Option (Vec StmtTree))
    → part_of (Arms l o v e) ≡ make_arms l o (shape.statements v) (option_map shape.statements e)
arms_tree l o v e =
    ap (λ (ss : Stmts). make_arms l o ss (held_stmts (back-BlockItemTree-Arms-3 e))) (stmts-vec v)
    ∙ ap (λ (ts : Option Stmts). make_arms l o (shape.statements v) ts) (stmts-option e)

module _ (G : Env) (c : CType) (k : Bool) (l : ℕ) where
  module _ (o : NamedOrder) (t : BlockItemTree) (v : Vec StmtTree) (other : Option (Vec StmtTree)) (xs : List StmtTree)
      (is : t ≡ Arms l o v other) (at : xs ≡ v.items) where
    armed : part G c k (part_of t)
        ≡ part G c k (make_arms l o (to_stmts (map stmt_of xs)) (option_map shape.statements other))
    armed =
        ap (λ (u : BlockItemTree). part G c k (part_of u)) is ∙ ap (part G c k) (arms_tree l o v other)
        ∙ ap (λ (ys : List StmtTree). part G c k (make_arms l o (to_stmts (map stmt_of ys)) (option_map shape.statements other)))
        (sym at)

    pub arms_stop : (e : Halt) → Stops (statements (entered G) c k (to_stmts (map stmt_of xs))) e
        → Stops (part G c k (part_of t)) e
    unfolding part
    arms_stop halts.Memory n = tt
    arms_stop (halts.Refused r) n = armed ∙ by other
      where
        by : (z : Option (Vec StmtTree))
            → part G c k (make_arms l o (to_stmts (map stmt_of xs)) (option_map shape.statements z)) ≡ Err r
        by None = rw n refl
        by (Some w) = rw n refl

    pub arm_is : (H K : Env) (ls out none : List Line) (w : core.What) → other ≡ None
        → statements (entered G) c k (to_stmts (map stmt_of xs)) ≡ Ok (ls, H) → K ≡ left H → none ≡ []
        → w ≡ core.by_order (order_of o) (to_core ls) (to_core none) → out ≡ one_line l w
        → part G c k (part_of t) ≡ Ok (out, K)
    unfolding part
    arm_is H K ls out none w e n j z q p =
        armed
        ∙ ap (λ (y : Option (Vec StmtTree)). part G c k (make_arms l o (to_stmts (map stmt_of xs)) (option_map shape.statements y))) e
        ∙ rw n (rw (p, q, z, j) refl)

    module _ (u : Vec StmtTree) (ys : List StmtTree) (some : other ≡ Some u) (there : ys ≡ u.items) where
      both : part G c k (part_of t) ≡ part G c k (shape.two_arms l o (to_stmts (map stmt_of xs)) (to_stmts (map stmt_of ys)))
      both =
          armed
          ∙ ap (λ (y : Option (Vec StmtTree)). part G c k (make_arms l o (to_stmts (map stmt_of xs)) (option_map shape.statements y))) some
          ∙ ap (λ (zs : List StmtTree). part G c k (shape.two_arms l o (to_stmts (map stmt_of xs)) (to_stmts (map stmt_of zs)))) (sym there)

      pub second_stops : (H K : Env) (ls : List Line) (e : Halt)
          → statements (entered G) c k (to_stmts (map stmt_of xs)) ≡ Ok (ls, H) → K ≡ left H
          → Stops (statements (entered K) c k (to_stmts (map stmt_of ys))) e → Stops (part G c k (part_of t)) e
      unfolding part
      second_stops H K ls halts.Memory n j m = tt
      second_stops H K ls (halts.Refused r) n j m =
          let second : statements (entered (left H)) c k (to_stmts (map stmt_of ys)) ≡ Err r =
          sym (ap (λ (E : Env). statements (entered E) c k (to_stmts (map stmt_of ys))) j) ∙ m in
          both ∙ rw n (rw second refl)

      pub two_arms_are : (H K I L : Env) (ls ms out : List Line) (w : core.What)
          → statements (entered G) c k (to_stmts (map stmt_of xs)) ≡ Ok (ls, H) → K ≡ left H
          → statements (entered K) c k (to_stmts (map stmt_of ys)) ≡ Ok (ms, I) → L ≡ left I
          → w ≡ core.by_order (order_of o) (to_core ls) (to_core ms) → out ≡ one_line l w
          → part G c k (part_of t) ≡ Ok (out, L)
      unfolding part
      two_arms_are H K I L ls ms out w n j m i q p =
          let second : statements (entered (left H)) c k (to_stmts (map stmt_of ys)) ≡ Ok (ms, I) =
          sym (ap (λ (E : Env). statements (entered E) c k (to_stmts (map stmt_of ys))) j) ∙ m in
          both ∙ rw n (rw second (rw (p, q, i) refl))
