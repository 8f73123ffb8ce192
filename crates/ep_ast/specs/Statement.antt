-- The trees of statements and of programs, without where they lie in memory: C11 6.8 and 6.9.
use Rattle.std.specs.Prelude.{ℕ, List, [], ◌∷◌, map, Option, Some, None}
use Rattle.std.specs.Global.{Vec}
use Rattle.std.specs.Option.{option_map}
use Rattle.ep_ast.specs.declared.orders.NamedOrder.{NamedOrder}
use Rattle.ep_ast.specs.declared.statements.StmtTree.{StmtTree, Block', Expr, If', While', Do', For', Break, Continue}
use Rattle.ep_ast.specs.declared.statements.StmtTree.{Return, Row_of-BlockItemTree, end_of-BlockItemTree}
use Rattle.ep_ast.specs.declared.statements.StmtTree.{more_of-BlockItemTree, Held-StmtTree-If-3, StmtTree-If-3-None'}
use Rattle.ep_ast.specs.declared.statements.StmtTree.{StmtTree-If-3-Some'}
use Rattle.ep_ast.specs.declared.statements.BlockTree.{BlockTree}
use Rattle.ep_ast.specs.declared.statements.BlockItemTree.{BlockItemTree, Declaration, Statement, Arms'}
use Rattle.ep_ast.specs.declared.statements.BlockItemTree.{Row_of-StmtTree, end_of-StmtTree, more_of-StmtTree}
use Rattle.ep_ast.specs.declared.statements.BlockItemTree.{Held-BlockItemTree-Arms-3, BlockItemTree-Arms-3-None'}
use Rattle.ep_ast.specs.declared.statements.BlockItemTree.{BlockItemTree-Arms-3-Some'}
use Rattle.ep_ast.specs.declared.statements.ForInitTree.{ForInitTree}
use Rattle.ep_ast.specs.declared.statements.ForInitTree.TheVariants as firsts
use Rattle.ep_ast.specs.declared.statements.FunctionTree.{FunctionTree}
use Rattle.ep_ast.specs.declared.statements.ItemTree.{ItemTree}
use Rattle.ep_ast.specs.declared.statements.ItemTree.TheVariants as items
use Rattle.ep_ast.specs.declared.statements.ProgramTree.{ProgramTree}
use Rattle.ep_ast.specs.Expression as expressions
use Rattle.ep_ast.specs.Expression.{expr}
use Rattle.ep_ast.specs.Declaration as declarations
use Rattle.ep_ast.specs.Declaration.{declaration_of, typedef_of, head_of, aggregate_of}

-- the first part of a `for`
pub data First : Type 0 where
  declares : declarations.Declaration → First
  evaluates : Option expressions.Expr → First

abbrev pub first_of : ForInitTree → First
first_of (firsts.Declaration d) = declares (declaration_of d)
first_of (firsts.Expr e) = evaluates (option_map expr e)

mutual
  pub data Stmt : Type 0 where
    block : (line : ℕ) (parts : Parts) → Stmt
    evaluate : (line : ℕ) (value : Option expressions.Expr) → Stmt
    if_then : (line : ℕ) (test : expressions.Expr) (then : Stmt) → Stmt
    if_else : (line : ℕ) (test : expressions.Expr) (then otherwise : Stmt) → Stmt
    while_loop : (line : ℕ) (test : expressions.Expr) (turn : Stmt) → Stmt
    do_loop : (line : ℕ) (turn : Stmt) (test : expressions.Expr) → Stmt
    for_loop : (line : ℕ) (first : First) (test next : Option expressions.Expr) (turn : Stmt) → Stmt
    break_loop : (line : ℕ) → Stmt
    continue_loop : (line : ℕ) → Stmt
    return_value : (line : ℕ) (value : Option expressions.Expr) → Stmt

  pub data Stmts : Type 0 where
    no_stmts : Stmts
    more_stmts : Stmt → Stmts → Stmts

  -- a part of a block; statements by byte order have one arm without an `#else`, two with it
  pub data Part : Type 0 where
    declares_in : declarations.Declaration → Part
    states : Stmt → Part
    arm : (line : ℕ) (order : NamedOrder) (then : Stmts) → Part
    two_arms : (line : ℕ) (order : NamedOrder) (then otherwise : Stmts) → Part

  pub data Parts : Type 0 where
    no_parts : Parts
    more_parts : Part → Parts → Parts

abbrev pub to_stmts : List Stmt → Stmts
to_stmts [] = no_stmts
to_stmts (s ∷ ss) = more_stmts s (to_stmts ss)

abbrev pub to_parts : List Part → Parts
to_parts [] = no_parts
to_parts (p ∷ ps) = more_parts p (to_parts ps)

abbrev pub make_if : ℕ → expressions.Expr → Stmt → Option Stmt → Stmt
make_if l e s None = if_then l e s
make_if l e s (Some t) = if_else l e s t

abbrev pub make_arms : ℕ → NamedOrder → Stmts → Option Stmts → Part
make_arms l o ss None = arm l o ss
make_arms l o ss (Some ts) = two_arms l o ss ts

abbrev mutual
  pub stmt_of : StmtTree → Stmt
  stmt_of (Block' l shape ps) = block l (parts_of ps)
  stmt_of (Expr l e) = evaluate l (option_map expr e)
  stmt_of (If' l e p s o) = make_if l (expr e) (stmt_of s) (held_stmt o)
  stmt_of (While' l e p s) = while_loop l (expr e) (stmt_of s)
  stmt_of (Do' l p s e) = do_loop l (stmt_of s) (expr e)
  stmt_of (For' l h p s) =
      for_loop l (first_of h.value.first) (option_map expr h.value.test) (option_map expr h.value.next) (stmt_of s)
  stmt_of (Break l) = break_loop l
  stmt_of (Continue l) = continue_loop l
  stmt_of (Return l e) = return_value l (option_map expr e)

  pub held_stmt : Held-StmtTree-If-3 → Option Stmt
  held_stmt StmtTree-If-3-None' = None
  held_stmt (StmtTree-If-3-Some' p s) = Some (stmt_of s)

  pub stmts_of : {m : _} → Row_of-StmtTree m → Stmts
  stmts_of end_of-StmtTree = no_stmts
  stmts_of (more_of-StmtTree s rest) = more_stmts (stmt_of s) (stmts_of rest)

  pub part_of : BlockItemTree → Part
  part_of (Declaration d) = declares_in (declaration_of d)
  part_of (Statement s) = states (stmt_of s)
  part_of (Arms' l o shape ss e) = make_arms l o (stmts_of ss) (held_stmts e)

  pub parts_of : {m : _} → Row_of-BlockItemTree m → Parts
  parts_of end_of-BlockItemTree = no_parts
  parts_of (more_of-BlockItemTree p rest) = more_parts (part_of p) (parts_of rest)

  pub held_stmts : Held-BlockItemTree-Arms-3 → Option Stmts
  held_stmts BlockItemTree-Arms-3-None' = None
  held_stmts (BlockItemTree-Arms-3-Some' shape ss) = Some (stmts_of ss)

abbrev pub statements : Vec StmtTree → Stmts
statements v = to_stmts (map stmt_of v.items)

pub record Block : Type 0 where
  pub line : ℕ
  pub parts : List Part

abbrev pub block_of : BlockTree → Block
block_of b = record { line = b.line; parts = map part_of b.items.items }

pub record Function : Type 0 where
  pub line : ℕ
  pub head : declarations.Head
  pub body : Block

abbrev pub function_of : FunctionTree → Function
function_of f = record { line = f.line; head = head_of f.head; body = block_of f.body }

abbrev pub functions_of : Vec FunctionTree → List Function
functions_of v = map function_of v.items

-- what stands at file scope
pub data Item : Type 0 where
  typedefs : declarations.Typedef → Item
  defines : Function → Item
  prototype : declarations.Head → Item
  declares_all : declarations.Declaration → Item
  completes : declarations.Aggregate → Item
  functions_by_order : (line : ℕ) (order : NamedOrder) (then : List Function) (otherwise : Option (List Function))
      → Item

abbrev pub item_of : ItemTree → Item
item_of (items.Typedef t) = typedefs (typedef_of t)
item_of (items.Function f) = defines (function_of f)
item_of (items.Prototype h) = prototype (head_of h)
item_of (items.Declaration d) = declares_all (declaration_of d)
item_of (items.Aggregate a) = completes (aggregate_of a)
item_of (items.Arms l o fs gs) = functions_by_order l o (functions_of fs) (option_map functions_of gs)

abbrev pub program_of : ProgramTree → List Item
program_of p = map item_of p.items.items
