-- How much a program has inside one another: brackets, and operators, statements and type derivations. This project's
-- limit is 64 of each.
use Rattle.std.specs.Prelude.{ℕ, suc, ◌+◌, ◌-◌, max, length, nat_lt, if◌then◌else◌, Bool, false, ◌||◌, Option, Some}
use Rattle.std.specs.Prelude.{None, List, [], ◌∷◌}
use Rattle.std.specs.List.{list_any}
use Rattle.ep_ast.specs.Token.{Tok, mark, if_little, if_big, end_if, line_of}
use Rattle.ep_ast.specs.Expression as expressions
use Rattle.ep_ast.specs.Declaration as declarations
use Rattle.ep_ast.specs.Declaration.{Declarator, MemberField, Spec, Specs, no_specs, more_specs, Aggregate, Member}
use Rattle.ep_ast.specs.Declaration.{Members, no_members, more_members, Value, Values, no_values, more_values, Init}
use Rattle.ep_ast.specs.Declaration.{Declaration, Typedef, Param, Params, Head}
use Rattle.ep_ast.specs.Statement as tree
use Rattle.ep_ast.specs.Statement.{First, Stmt, Stmts, no_stmts, more_stmts, Part, Parts, no_parts, more_parts}
use Rattle.ep_ast.specs.Statement.{to_parts, Block, Function, Item}
use Rattle.ep_ast.specs.Nesting.{is_too_deep, counted}

-- ---- brackets

-- how many brackets and `#if`s are open after this token, where `n` were before it; kinds aren't matched
abbrev pub open_after : ℕ → Tok → ℕ
open_after n (mark l c) = counted n c
open_after n (if_little l) = n + 1
open_after n (if_big l) = n + 1
open_after n (end_if l) = n - 1
open_after n t = n

-- the line of the first token at which more than 64 are open, where `n` are at the start
abbrev pub brackets_past : ℕ → List Tok → Option ℕ
brackets_past n [] = None
brackets_past n (t ∷ ts) = if nat_lt 64 (open_after n t) then Some (line_of t) else brackets_past (open_after n t) ts

-- ---- lines

-- the first of two lines, where there is one
abbrev pub or_else : Option ℕ → Option ℕ → Option ℕ
or_else None l = l
or_else (Some k) l = Some k

abbrev pub line_if : Bool → (line : ℕ) → Option ℕ
line_if t l = if t then Some l else None

abbrev pub first_of : {X : Type 0} → (X → Option ℕ) → List X → Option ℕ
first_of f [] = None
first_of f (x ∷ xs) = or_else (f x) (first_of f xs)

-- ---- declarations, each by the line of its name

abbrev pub is_deep_if : Option expressions.Expr → Bool
is_deep_if None = false
is_deep_if (Some e) = is_too_deep e

abbrev pub are_deep : (stars : List ℕ) → (bounds : List (Option expressions.Expr)) → Bool
are_deep ns bs = nat_lt 64 (length ns + length bs) || list_any is_deep_if bs

abbrev pub in_declarator : Declarator → Option ℕ
in_declarator d = line_if (are_deep d.stars d.bounds) d.line

abbrev pub in_field : MemberField → Option ℕ
in_field (declarations.whole d) = in_declarator d
in_field (declarations.bits l n e) = line_if (is_too_deep e) l

abbrev mutual
  pub in_spec : Spec → Option ℕ
  in_spec (declarations.plain w) = None
  in_spec (declarations.body a) = in_aggregate a

  pub in_specs : Specs → Option ℕ
  in_specs no_specs = None
  in_specs (more_specs s ss) = or_else (in_spec s) (in_specs ss)

  pub in_aggregate : Aggregate → Option ℕ
  in_aggregate (declarations.aggregate l c tag ms) = in_members ms

  pub in_member : Member → Option ℕ
  in_member (declarations.member l ss fs) = or_else (in_specs ss) (first_of in_field fs)

  pub in_members : Members → Option ℕ
  in_members no_members = None
  in_members (more_members m ms) = or_else (in_member m) (in_members ms)

abbrev mutual
  pub is_deep_value : Value → Bool
  is_deep_value (declarations.single e) = is_too_deep e
  is_deep_value (declarations.listed l vs) = are_deep_values vs

  pub are_deep_values : Values → Bool
  are_deep_values no_values = false
  are_deep_values (more_values v vs) = is_deep_value v || are_deep_values vs

abbrev pub is_deep_value_if : Option Value → Bool
is_deep_value_if None = false
is_deep_value_if (Some v) = is_deep_value v

abbrev pub in_init : Init → Option ℕ
in_init i = or_else (in_declarator i.declarator) (line_if (is_deep_value_if i.value) i.line)

abbrev pub in_declaration : Declaration → Option ℕ
in_declaration d = or_else (first_of in_spec d.specs) (first_of in_init d.inits)

abbrev pub in_typedef : Typedef → Option ℕ
in_typedef t = or_else (first_of in_spec t.specs) (first_of in_declarator t.declarators)

abbrev pub in_param : Param → Option ℕ
in_param p = line_if (are_deep p.stars p.bounds) p.line

abbrev pub in_params : Option Params → Option ℕ
in_params None = None
in_params (Some (declarations.void l)) = None
in_params (Some (declarations.some_params l ps)) = first_of in_param ps

abbrev pub in_head : Head → Option ℕ
in_head h = or_else (first_of in_spec h.specs) (or_else (line_if (are_deep h.stars []) h.line) (in_params h.params))

-- ---- statements

-- How many statements stand inside one another, the outermost one too. A block is one, and an `else if` is one inside
-- another; declarations and byte orders are none.
abbrev mutual
  pub height : Stmt → ℕ
  height (tree.block l ps) = suc (height_of_parts ps)
  height (tree.evaluate l e) = 1
  height (tree.if_then l e s) = suc (height s)
  height (tree.if_else l e s t) = suc (max (height s) (height t))
  height (tree.while_loop l e s) = suc (height s)
  height (tree.do_loop l s e) = suc (height s)
  height (tree.for_loop l f e g s) = suc (height s)
  height (tree.break_loop l) = 1
  height (tree.continue_loop l) = 1
  height (tree.return_value l e) = 1

  pub height_of_stmts : Stmts → ℕ
  height_of_stmts no_stmts = 0
  height_of_stmts (more_stmts s ss) = max (height s) (height_of_stmts ss)

  pub height_of_part : Part → ℕ
  height_of_part (tree.declares_in d) = 0
  height_of_part (tree.states s) = height s
  height_of_part (tree.arm l o ss) = height_of_stmts ss
  height_of_part (tree.two_arms l o ss ts) = max (height_of_stmts ss) (height_of_stmts ts)

  pub height_of_parts : Parts → ℕ
  height_of_parts no_parts = 0
  height_of_parts (more_parts p ps) = max (height_of_part p) (height_of_parts ps)

abbrev pub in_first : First → (line : ℕ) → Option ℕ
in_first (tree.declares d) l = in_declaration d
in_first (tree.evaluates e) l = line_if (is_deep_if e) l

-- The first in the text: operators name the innermost statement, statements the outermost of those that are inside one
-- another.
abbrev mutual
  pub in_stmt : Stmt → Option ℕ
  in_stmt (tree.block l ps) = or_else (line_if (nat_lt 64 (height (tree.block l ps))) l) (in_parts ps)
  in_stmt (tree.evaluate l e) = line_if (is_deep_if e) l
  in_stmt (tree.if_then l e s) = or_else (line_if (nat_lt 64 (height (tree.if_then l e s)) || is_too_deep e) l)
      (in_stmt s)
  in_stmt (tree.if_else l e s t) = or_else (line_if (nat_lt 64 (height (tree.if_else l e s t)) || is_too_deep e) l)
      (or_else (in_stmt s) (in_stmt t))
  in_stmt (tree.while_loop l e s) = or_else (line_if (nat_lt 64 (height (tree.while_loop l e s)) || is_too_deep e) l)
      (in_stmt s)
  in_stmt (tree.do_loop l s e) = or_else (line_if (nat_lt 64 (height (tree.do_loop l s e)) || is_too_deep e) l)
      (in_stmt s)
  in_stmt (tree.for_loop l f e g s) =
      or_else (line_if (nat_lt 64 (height (tree.for_loop l f e g s)) || is_deep_if e || is_deep_if g) l)
      (or_else (in_first f l) (in_stmt s))
  in_stmt (tree.break_loop l) = None
  in_stmt (tree.continue_loop l) = None
  in_stmt (tree.return_value l e) = line_if (is_deep_if e) l

  pub in_stmts : Stmts → Option ℕ
  in_stmts no_stmts = None
  in_stmts (more_stmts s ss) = or_else (in_stmt s) (in_stmts ss)

  pub in_part : Part → Option ℕ
  in_part (tree.declares_in d) = in_declaration d
  in_part (tree.states s) = in_stmt s
  in_part (tree.arm l o ss) = in_stmts ss
  in_part (tree.two_arms l o ss ts) = or_else (in_stmts ss) (in_stmts ts)

  pub in_parts : Parts → Option ℕ
  in_parts no_parts = None
  in_parts (more_parts p ps) = or_else (in_part p) (in_parts ps)

-- ---- programs

abbrev pub in_function : Function → Option ℕ
in_function f = or_else (in_head f.head) (in_parts (to_parts f.body.parts))

abbrev pub in_functions : Option (List Function) → Option ℕ
in_functions None = None
in_functions (Some fs) = first_of in_function fs

abbrev pub in_item : Item → Option ℕ
in_item (tree.typedefs t) = in_typedef t
in_item (tree.defines f) = in_function f
in_item (tree.prototype h) = in_head h
in_item (tree.declares_all d) = in_declaration d
in_item (tree.completes a) = in_aggregate a
in_item (tree.functions_by_order l o fs gs) = or_else (first_of in_function fs) (in_functions gs)

-- the line of the first that holds too many
abbrev pub too_deep : List Item → Option ℕ
too_deep is = first_of in_item is
