-- Statements, by rules without an order. C11 6.8.
use Rattle.std.specs.Prelude.{◌≡◌, [], ◌++◌, ℕ, Bool, true, false, List, Option, Some, None, Ok, pos}
use Rattle.ep_core.specs.Program as core
use Rattle.ep_ast.specs.Declaration.{Declaration}
use Rattle.ep_ast.specs.Expression.{Expr, line_of}
use Rattle.ep_ast.specs.Statement.{First, Part, Parts, Stmt, Stmts, arm, block, break_loop, continue_loop, declares}
use Rattle.ep_ast.specs.Statement.{declares_in, do_loop, evaluate, evaluates, for_loop, if_else, if_then, more_parts}
use Rattle.ep_ast.specs.Statement.{more_stmts, no_parts, no_stmts, return_value, states, two_arms, while_loop}
use Rattle.ep_ast.specs.declared.orders.NamedOrder.{NamedOrder}
use Rattle.ep_elaboration.specs.Declarations.{Line, Made}
use Rattle.ep_elaboration.specs.Statements.{blocks_behind, entered, for_lines, jump, left, nothing_returned, one_line}
use Rattle.ep_elaboration.specs.Statements.{operand_returned, order_of, to_core}
use Rattle.ep_elaboration.specs.GivenRules.{MeansDeclaration}
use Rattle.ep_elaboration.specs.WholeRules.{MeansTest, MeansWhole}
use Rattle.ep_elaboration.specs.FieldRules.{MeansFieldStatement}
use Rattle.ep_int.specs.declared.types.IntType.TheVariants.{I32}
use Rattle.ep_typing.specs.Env.{Env}
use Rattle.ep_typing.specs.Names.{mentioned}
use Rattle.ep_typing.specs.Operand.{Operand}
use Rattle.ep_typing.specs.declared.types.CType.{CType}
use Rattle.ep_typing.specs.Rules.{Means}

-- a test, with what it declares
pub data MeansTestIn : Env → Expr → (core.Expr × Env) → Type 0 where
  is_test_in : {G : Env} {e : Expr} (w : core.Expr) → MeansTest (mentioned G e) e w
      → MeansTestIn G e (w, mentioned G e)

-- the test of a `for`; a missing one is always true (C11 6.8.5.3p2)
pub data MeansTestIf : Env → Option Expr → (core.Expr × Env) → Type 0 where
  no_test : {G : Env} → MeansTestIf G None (core.const I32 (pos 1), G)
  some_test : {G : Env} {e : Expr} (t : core.Expr × Env) → MeansTestIn G e t → MeansTestIf G (Some e) t

-- an expression as a statement, with what it declares
pub data MeansEvaluation : Env → Bool → ℕ → Expr → (List Line × Env) → Type 0 where
  is_evaluation : {G : Env} {c : Bool} {l : ℕ} {e : Expr} (w : core.What) → MeansWhole (mentioned G e) c e w
      → MeansEvaluation G c l e (one_line l w, mentioned G e)
  is_field_statement : {G : Env} {c : Bool} {l : ℕ} {e : Expr} (w : core.What)
      → MeansFieldStatement (mentioned G e) l e w → MeansEvaluation G c l e (one_line l w, mentioned G e)

-- an outer part of a `for`
pub data MeansEvaluationIf : Env → Option Expr → (List Line × Env) → Type 0 where
  no_evaluation : {G : Env} → MeansEvaluationIf G None ([], G)
  some_evaluation : {G : Env} {e : Expr} (w : List Line × Env) → MeansEvaluation G false (line_of e) e w
      → MeansEvaluationIf G (Some e) w

-- the first part of a `for` (C11 6.8.5.3p1)
pub data MeansFirst : Env → First → (List Line × Env) → Type 0 where
  first_declares : {G : Env} {d : Declaration} (m : Made × Env) → MeansDeclaration G false false d m
      → MeansFirst G (declares d) (m.0.lines, m.1)
  first_evaluates : {G : Env} {e : Option Expr} (w : List Line × Env) → MeansEvaluationIf G e w
      → MeansFirst G (evaluates e) w

mutual
  -- a statement, in a function with this result, inside of a loop or not (C11 6.8)
  pub data MeansStatement : Env → CType → Bool → Stmt → (List Line × Env) → Type 0 where
    is_block : {G : Env} {c : CType} {i : Bool} {l : ℕ} {ps : Parts} (b : List Line × Env)
        → MeansParts (entered G) c i ps b
        → MeansStatement G c i (block l ps) (one_line l (core.scope (blocks_behind 0 b.1) (to_core b.0)), left b.1)
    is_nothing : {G : Env} {c : CType} {i : Bool} {l : ℕ}
        → MeansStatement G c i (evaluate l None) (one_line l (core.simple core.nothing), G)
    is_evaluated : {G : Env} {c : CType} {i : Bool} {l : ℕ} {e : Expr} (w : List Line × Env)
        → MeansEvaluation G true l e w → MeansStatement G c i (evaluate l (Some e)) w
    is_if : {G : Env} {c : CType} {i : Bool} {l : ℕ} {e : Expr} {s : Stmt} (t : core.Expr × Env) (a : List Line × Env)
        → MeansTestIn (entered G) e t → MeansStatement (entered t.1) c i s a
        → MeansStatement G c i (if_then l e s) (
          one_line l (core.if_else t.0 (to_core a.0) core.stop),
          left
              (left a.1),
        )
    is_if_else : {G : Env} {c : CType} {i : Bool} {l : ℕ} {e : Expr} {s u : Stmt} (t : core.Expr × Env)
        (a b : List Line × Env)
        → MeansTestIn (entered G) e t → MeansStatement (entered t.1) c i s a
        → MeansStatement (entered (left a.1)) c i u b
        → MeansStatement G c i (if_else l e s u) (
          one_line l (core.if_else t.0 (to_core a.0) (to_core b.0)),
          left
              (left b.1),
        )
    is_while : {G : Env} {c : CType} {i : Bool} {l : ℕ} {e : Expr} {s : Stmt} (t : core.Expr × Env)
        (a : List Line × Env)
        → MeansTestIn (entered G) e t → MeansStatement (entered t.1) c true s a
        → MeansStatement G c i (while_loop l e s) (
          one_line l (core.loop true t.0 (to_core a.0) core.stop),
          left
              (left a.1),
        )
    is_do : {G : Env} {c : CType} {i : Bool} {l : ℕ} {s : Stmt} {e : Expr} (a : List Line × Env) (t : core.Expr × Env)
        → MeansStatement (entered (entered G)) c true s a → MeansTestIn (left a.1) e t
        → MeansStatement G c i (do_loop l s e) (one_line l (core.loop false t.0 (to_core a.0) core.stop), left t.1)
    is_for : {G : Env} {c : CType} {i : Bool} {l : ℕ} {f : First} {e n : Option Expr} {s : Stmt} (p : List Line × Env)
        (t : core.Expr × Env) (q a : List Line × Env)
        → MeansFirst (entered G) f p → MeansTestIf p.1 e t → MeansEvaluationIf t.1 n q
        → MeansStatement (entered q.1) c true s a
        → MeansStatement G c i (for_loop l f e n s) (
          for_lines f l p.0 (core.loop true t.0 (to_core a.0)
              (to_core q.0)) (blocks_behind 0 (left a.1)),
          left (left a.1),
        )
    is_break : {G : Env} {c : CType} {i : Bool} {l : ℕ} (b : List Line) → jump i l core.break_loop ≡ Ok b
        → MeansStatement G c i (break_loop l) (b, G)
    is_continue : {G : Env} {c : CType} {i : Bool} {l : ℕ} (b : List Line) → jump i l core.continue_loop ≡ Ok b
        → MeansStatement G c i (continue_loop l) (b, G)
    returns_nothing : {G : Env} {c : CType} {i : Bool} {l : ℕ} (w : core.What) → nothing_returned c ≡ Ok w
        → MeansStatement G c i (return_value l None) (one_line l w, G)
    returns_value : {G : Env} {c : CType} {i : Bool} {l : ℕ} {e : Expr} (x : Operand) (w : core.What)
        → Means (mentioned G e) e x → operand_returned (mentioned G e).types c x ≡ Ok w
        → MeansStatement G c i (return_value l (Some e)) (one_line l w, mentioned G e)

  -- statements, one after the other
  pub data MeansStatements : Env → CType → Bool → Stmts → (List Line × Env) → Type 0 where
    no_statements : {G : Env} {c : CType} {i : Bool} → MeansStatements G c i no_stmts ([], G)
    more_statements : {G : Env} {c : CType} {i : Bool} {s : Stmt} {ss : Stmts} (a b : List Line × Env)
        → MeansStatement G c i s a → MeansStatements a.1 c i ss b
        → MeansStatements G c i (more_stmts s ss) (a.0 ++ b.0, b.1)

  -- a part of a block; of two arms by byte order none sees the other
  pub data MeansPart : Env → CType → Bool → Part → (List Line × Env) → Type 0 where
    part_declares : {G : Env} {c : CType} {i : Bool} {d : Declaration} (m : Made × Env)
        → MeansDeclaration G false true d m → MeansPart G c i (declares_in d) (m.0.lines, m.1)
    part_states : {G : Env} {c : CType} {i : Bool} {s : Stmt} (a : List Line × Env) → MeansStatement G c i s a
        → MeansPart G c i (states s) a
    is_arm : {G : Env} {c : CType} {i : Bool} {l : ℕ} {o : NamedOrder} {ss : Stmts} (a : List Line × Env)
        → MeansStatements (entered G) c i ss a
        → MeansPart G c i (arm l o ss) (one_line l (core.by_order (order_of o) (to_core a.0) core.stop), left a.1)
    is_two_arms : {G : Env} {c : CType} {i : Bool} {l : ℕ} {o : NamedOrder} {ss us : Stmts} (a b : List Line × Env)
        → MeansStatements (entered G) c i ss a → MeansStatements (entered (left a.1)) c i us b
        → MeansPart G c i (two_arms l o ss us) (
          one_line l (core.by_order (order_of o) (to_core a.0)
              (to_core b.0)),
          left b.1,
        )

  -- the parts of a block, one after the other
  pub data MeansParts : Env → CType → Bool → Parts → (List Line × Env) → Type 0 where
    no_parts_left : {G : Env} {c : CType} {i : Bool} → MeansParts G c i no_parts ([], G)
    one_part_more : {G : Env} {c : CType} {i : Bool} {p : Part} {ps : Parts} (a b : List Line × Env)
        → MeansPart G c i p a → MeansParts a.1 c i ps b → MeansParts G c i (more_parts p ps) (a.0 ++ b.0, b.1)
