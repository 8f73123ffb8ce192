-- What statements mean, or the first offence in the order of the text: C11 6.8, and this project's statements by byte
-- order.
use Rattle.std.specs.Prelude.{ℕ, Bool, true, false, if◌then◌else◌, List, [], ◌∷◌, ◌++◌, drop, Option, Some, None}
use Rattle.std.specs.Prelude.{unwrap_or, Result, Ok, Err, pos}
use Rattle.ep_ast.specs.Kind as kinds
use Rattle.ep_int.specs.declared.types.IntType.TheVariants.{I32}
use Rattle.ep_int.specs.declared.types.Order.{Order}
use Rattle.ep_int.specs.declared.types.Order.TheVariants as orders
use Rattle.ep_ast.specs.declared.orders.NamedOrder.{NamedOrder}
use Rattle.ep_ast.specs.declared.orders.NamedOrder.TheVariants.{Little, Big}
use Rattle.ep_ast.specs.declared.refusals.Refusal.{Refusal}
use Rattle.ep_ast.specs.Expression as source
use Rattle.ep_ast.specs.Statement.{First, declares, evaluates, Stmt, block, evaluate, if_then, if_else, while_loop}
use Rattle.ep_ast.specs.Statement.{do_loop, for_loop, break_loop, continue_loop, return_value, Stmts, no_stmts}
use Rattle.ep_ast.specs.Statement.{more_stmts, Part, declares_in, states, arm, two_arms, Parts, no_parts, more_parts}
use Rattle.ep_layout.specs.Table.{Table}
use Rattle.ep_core.specs.Program as core
use Rattle.ep_typing.specs.declared.types.CType.{CType}
use Rattle.ep_typing.specs.Results.{◌>>=◌, at, on_statement}
use Rattle.ep_typing.specs.Types.{is_void}
use Rattle.ep_typing.specs.Env as env
use Rattle.ep_typing.specs.Env.{Env, Meaning, Scope, no_names}
use Rattle.ep_typing.specs.Names.{mentioned}
use Rattle.ep_typing.specs.Operand.{Operand, fitted, value_of}
use Rattle.ep_typing.specs.Typing.{test, typed, whole_statement}
use Rattle.ep_elaboration.specs.Declarations.{Line, declaration}
use Rattle.ep_elaboration.specs.FieldStatements.{field_statement}

-- ---- lists of statements

abbrev pub to_core : List Line → core.Stmts
to_core [] = core.stop
to_core (s ∷ ss) = core.more s.0 s.1 (to_core ss)

abbrev pub one_line : ℕ → core.What → List Line
one_line l w = (l, w) ∷ []

-- ---- scopes

abbrev pub entered : Env → Env
entered G = record G { scopes = no_names ∷ G.scopes }

abbrev pub outer : List Scope → List Scope
outer [] = []
outer (s ∷ ss) = ss

abbrev pub left : Env → Env
left G = record G { scopes = outer G.scopes }

abbrev pub innermost : Env → Scope
innermost G = first_scope G.scopes where
  first_scope : List Scope → Scope
  first_scope [] = no_names
  first_scope (s ∷ ss) = s

abbrev pub block_of : Meaning → List ℕ
block_of (env.variable b c) = b ∷ []
block_of (env.function n) = []
block_of (env.type_name c) = []

-- the blocks of names
abbrev pub blocks_of : List (List ℕ × Meaning) → List ℕ
blocks_of [] = []
blocks_of (x ∷ xs) = block_of x.1 ++ blocks_of xs

-- the blocks of the innermost scope, behind its first names
abbrev pub blocks_behind : (names : ℕ) → Env → List ℕ
blocks_behind n G = blocks_of (drop n (innermost G).names)

-- ---- parts of statements, with what is declared behind them

unfoldable pub tested_in : Env → source.Expr → Result (core.Expr × Env) Refusal
tested_in G e = do
  w ← test (mentioned G e) e
  Ok (w, mentioned G e)

-- the test of a `for`; a missing one is always true (C11 6.8.5.3p2)
unfoldable pub tested_if : Env → Option source.Expr → Result (core.Expr × Env) Refusal
tested_if G None = Ok (core.const I32 (pos 1), G)
tested_if G (Some e) = tested_in G e

-- an expression as a statement; in an outer part of a `for` without a call (this project's rule)
unfoldable pub evaluated_in : Env → (may_call : Bool) → ℕ → source.Expr → Result (List Line × Env) Refusal
evaluated_in G may_call l e = do
  w ← unwrap_or (field_statement (mentioned G e) l e) (whole_statement (mentioned G e) may_call e)
  Ok (one_line l w, mentioned G e)

unfoldable pub evaluated_if : Env → Option source.Expr → Result (List Line × Env) Refusal
evaluated_if G None = Ok ([], G)
evaluated_if G (Some e) = evaluated_in G false (source.line_of e) e

-- a declaration has lines of its own, an expression is one of the `for`'s on this line
unfoldable pub first_part : Env → (line : ℕ) → First → Result (List Line × Env) Refusal
first_part G l (declares d) = do
  m ← declaration G false false d
  Ok (m.0.lines, m.1)
first_part G l (evaluates e) = on_statement l (evaluated_if G e)

-- A `for` that declares something has a scope of the core round its parts.
abbrev pub for_lines : First → ℕ → (first : List Line) → (loop : core.What) → (blocks : List ℕ) → List Line
for_lines (declares d) l first w bs = one_line l (core.scope bs (to_core (first ++ one_line l w)))
for_lines (evaluates e) l first w bs = first ++ one_line l w

-- ---- jumps

-- stray_jump: outside of a loop (C11 6.8.6.2p1 and 6.8.6.3p1)
abbrev pub jump : (in_loop : Bool) → ℕ → core.What → Result (List Line) ℕ
jump in_loop l w = if in_loop then Ok (one_line l w) else Err kinds.stray_jump

abbrev pub returned : Option core.Expr → core.What
returned e = core.simple (core.returns e)

-- type_mismatch: no value where the function has a result (this project's rule, beside C11 6.8.6.4p1)
unfoldable pub nothing_returned : (result : CType) → Result core.What ℕ
nothing_returned c = if is_void c then Ok (returned None) else Err kinds.type_mismatch

abbrev pub value_returned : Table → CType → Operand → Result core.What ℕ
value_returned t c x = do
  v ← value_of t x
  e ← fitted c v
  Ok (returned (Some e))

-- type_mismatch: a value where the function has no result (C11 6.8.6.4p1). The value is converted as by assignment
-- (6.8.6.4p3).
unfoldable pub operand_returned : Table → (result : CType) → Operand → Result core.What ℕ
operand_returned t c x = if is_void c then Err kinds.type_mismatch else value_returned t c x

-- ---- byte orders

abbrev pub order_of : NamedOrder → Order
order_of Little = orders.Little
order_of Big = orders.Big

-- ---- statements

-- in a function with this result, inside of a loop or not; `if`, loops and what stands in them are scopes of their own
-- (C11 6.8.4p3 and 6.8.5p5), and so are the arms by byte order, of which none sees the other
unfoldable mutual
  pub statement : Env → (result : CType) → (in_loop : Bool) → Stmt → Result (List Line × Env) Refusal
  statement G c i (block l ps) = do
    b ← parts (entered G) c i ps
    Ok (one_line l (core.scope (blocks_behind 0 b.1) (to_core b.0)), left b.1)
  statement G c i (evaluate l None) = Ok (one_line l (core.simple core.nothing), G)
  statement G c i (evaluate l (Some e)) = on_statement l (evaluated_in G true l e)
  statement G c i (if_then l e s) = do
    t ← on_statement l (tested_in (entered G) e)
    a ← statement (entered t.1) c i s
    Ok (one_line l (core.if_else t.0 (to_core a.0) core.stop), left (left a.1))
  statement G c i (if_else l e s u) = do
    t ← on_statement l (tested_in (entered G) e)
    a ← statement (entered t.1) c i s
    b ← statement (entered (left a.1)) c i u
    Ok (one_line l (core.if_else t.0 (to_core a.0) (to_core b.0)), left (left b.1))
  statement G c i (while_loop l e s) = do
    t ← on_statement l (tested_in (entered G) e)
    a ← statement (entered t.1) c true s
    Ok (one_line l (core.loop true t.0 (to_core a.0) core.stop), left (left a.1))
  statement G c i (do_loop l s e) = do
    a ← statement (entered (entered G)) c true s
    t ← on_statement l (tested_in (left a.1) e)
    Ok (one_line l (core.loop false t.0 (to_core a.0) core.stop), left t.1)
  statement G c i (for_loop l f e n s) = do
    p ← first_part (entered G) l f
    t ← on_statement l (tested_if p.1 e)
    q ← on_statement l (evaluated_if t.1 n)
    a ← statement (entered q.1) c true s
    Ok (
      for_lines f l p.0 (core.loop true t.0 (to_core a.0) (to_core q.0)) (blocks_behind 0 (left a.1)),
      left (left a.1),
    )
  statement G c i (break_loop l) = do
    b ← at l (jump i l core.break_loop)
    Ok (b, G)
  statement G c i (continue_loop l) = do
    b ← at l (jump i l core.continue_loop)
    Ok (b, G)
  statement G c i (return_value l None) = do
    w ← at l (nothing_returned c)
    Ok (one_line l w, G)
  statement G c i (return_value l (Some e)) = do
    x ← on_statement l (typed (mentioned G e) e)
    w ← at l (operand_returned (mentioned G e).types c x)
    Ok (one_line l w, mentioned G e)

  pub statements : Env → (result : CType) → (in_loop : Bool) → Stmts → Result (List Line × Env) Refusal
  statements G c i no_stmts = Ok ([], G)
  statements G c i (more_stmts s ss) = do
    a ← statement G c i s
    b ← statements a.1 c i ss
    Ok (a.0 ++ b.0, b.1)

  pub part : Env → (result : CType) → (in_loop : Bool) → Part → Result (List Line × Env) Refusal
  part G c i (declares_in d) = do
    m ← declaration G false true d
    Ok (m.0.lines, m.1)
  part G c i (states s) = statement G c i s
  part G c i (arm l o ss) = do
    a ← statements (entered G) c i ss
    Ok (one_line l (core.by_order (order_of o) (to_core a.0) core.stop), left a.1)
  part G c i (two_arms l o ss us) = do
    a ← statements (entered G) c i ss
    b ← statements (entered (left a.1)) c i us
    Ok (one_line l (core.by_order (order_of o) (to_core a.0) (to_core b.0)), left b.1)

  pub parts : Env → (result : CType) → (in_loop : Bool) → Parts → Result (List Line × Env) Refusal
  parts G c i no_parts = Ok ([], G)
  parts G c i (more_parts p ps) = do
    a ← part G c i p
    b ← parts a.1 c i ps
    Ok (a.0 ++ b.0, b.1)
