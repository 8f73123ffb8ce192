-- The calls of a program: in which order they stand in the text, how deep, and which functions they lead to. This
-- project's rules on recursion, on missing bodies and on depth.
use Rattle.std.specs.Prelude.{ℕ, zero, suc, ◌+◌, ◌==◌, max, Bool, ◌||◌, if◌then◌else◌, List, [], ◌∷◌, ◌++◌, map}
use Rattle.std.specs.Prelude.{Option, Some, None, is_some}
use Rattle.std.specs.List.{list_any, filter}
use Rattle.ep_int.specs.Memory.{contains}
use Rattle.ep_ast.specs.Expression as source
use Rattle.ep_ast.specs.Declaration.{Value, single, listed, Init}
use Rattle.ep_ast.specs.Statement.{First, declares, evaluates, Stmt, block, evaluate, if_then, if_else, while_loop}
use Rattle.ep_ast.specs.Statement.{do_loop, for_loop, break_loop, continue_loop, return_value, Stmts, no_stmts}
use Rattle.ep_ast.specs.Statement.{more_stmts, Part, declares_in, states, arm, two_arms, Parts, no_parts, more_parts}
use Rattle.ep_ast.specs.Statement.{to_parts, Function, Item, typedefs, defines, prototype, declares_all, completes}
use Rattle.ep_ast.specs.Statement.{functions_by_order}
use Rattle.ep_typing.specs.Env.{entry}
use Rattle.ep_typing.specs.Parts.{built_in}

-- ---- statements inside one another

-- A statement: how many stand round it in its function, with itself, and the function that it calls, if it does, with
-- the line of its name. Built-in functions are no part of the program.
pub record Stand : Type 0 where
  pub depth : ℕ
  pub line : ℕ
  pub callee : Option (List ℕ)

abbrev pub calls_none : (depth : ℕ) → Stand
calls_none d = record { depth = d; line = 0; callee = None }

abbrev pub own_callee : List ℕ → Option (List ℕ)
own_callee t = if is_some (entry t built_in) then None else Some t

-- what is called, by its name
abbrev pub named_call : (depth : ℕ) → source.Expr → Stand
named_call d (source.id l t) = record { depth = d; line = l; callee = own_callee t }
named_call d e = calls_none d

-- an expression that is a call
abbrev pub call_in : (depth : ℕ) → source.Expr → Stand
call_in d (source.call l f es) = named_call d f
call_in d e = calls_none d

-- an expression as a statement: a call, or an assignment of what a call gives
abbrev pub evaluation : (depth : ℕ) → source.Expr → Stand
evaluation d (source.assign l m a b) = call_in d b
evaluation d e = call_in d e

-- a declaration with an initialiser counts as a statement, for it takes a step; one without does not
abbrev pub initialisation : (depth : ℕ) → Option Value → List Stand
initialisation d None = []
initialisation d (Some (single e)) = call_in d e ∷ []
initialisation d (Some (listed l vs)) = calls_none d ∷ []

abbrev pub initialisations : (depth : ℕ) → List Init → List Stand
initialisations d [] = []
initialisations d (i ∷ is) = initialisation d i.value ++ initialisations d is

abbrev pub first_stands : (depth : ℕ) → First → List Stand
first_stands d (declares x) = initialisations d x.inits
first_stands d (evaluates e) = []

-- The statements in their order, where so many stand round them: a block is one, the outer block of a function is none,
-- and what stands by byte order is one.
abbrev mutual
  pub stands : (round : ℕ) → Stmt → List Stand
  stands n (block l ps) = calls_none (suc n) ∷ stands_in_parts (suc n) ps
  stands n (evaluate l None) = calls_none (suc n) ∷ []
  stands n (evaluate l (Some e)) = evaluation (suc n) e ∷ []
  stands n (if_then l e s) = calls_none (suc n) ∷ stands (suc n) s
  stands n (if_else l e s u) = calls_none (suc n) ∷ (stands (suc n) s ++ stands (suc n) u)
  stands n (while_loop l e s) = calls_none (suc n) ∷ stands (suc n) s
  stands n (do_loop l s e) = calls_none (suc n) ∷ stands (suc n) s
  stands n (for_loop l f e g s) = calls_none (suc n) ∷ (first_stands (suc (suc n)) f ++ stands (suc n) s)
  stands n (break_loop l) = calls_none (suc n) ∷ []
  stands n (continue_loop l) = calls_none (suc n) ∷ []
  stands n (return_value l e) = calls_none (suc n) ∷ []

  pub stands_in_stmts : (round : ℕ) → Stmts → List Stand
  stands_in_stmts n no_stmts = []
  stands_in_stmts n (more_stmts s ss) = stands n s ++ stands_in_stmts n ss

  pub stands_in_part : (round : ℕ) → Part → List Stand
  stands_in_part n (declares_in d) = initialisations (suc n) d.inits
  stands_in_part n (states s) = stands n s
  stands_in_part n (arm l o ss) = calls_none (suc n) ∷ stands_in_stmts (suc n) ss
  stands_in_part n (two_arms l o ss us) =
      calls_none (suc n) ∷ (stands_in_stmts (suc n) ss ++ stands_in_stmts (suc n) us)

  pub stands_in_parts : (round : ℕ) → Parts → List Stand
  stands_in_parts n no_parts = []
  stands_in_parts n (more_parts p ps) = stands_in_part n p ++ stands_in_parts n ps

-- ---- the whole text

-- a statement with the name of the function that it stands in
abbrev pub Placed : Type 0
Placed = List ℕ × Stand

abbrev pub in_function : (round : ℕ) → Function → List Placed
in_function n f = map (λ s. (f.head.name, s)) (stands_in_parts n (to_parts f.body.parts))

abbrev pub in_functions : (round : ℕ) → List Function → List Placed
in_functions n [] = []
in_functions n (f ∷ fs) = in_function n f ++ in_functions n fs

abbrev pub in_arm : Option (List Function) → List Placed
in_arm None = []
in_arm (Some fs) = in_functions 1 fs

abbrev pub conditionals : List Function → List Placed
conditionals fs = map (λ (f : Function). (f.head.name, calls_none 1)) fs

-- functions by byte order are one whose body is a conditional
abbrev pub in_item : Item → List Placed
in_item (typedefs t) = []
in_item (defines f) = in_function 0 f
in_item (prototype h) = []
in_item (declares_all d) = []
in_item (completes a) = []
in_item (functions_by_order l o fs gs) = conditionals fs ++ (in_functions 1 fs ++ in_arm gs)

abbrev pub in_items : List Item → List Placed
in_items [] = []
in_items (i ∷ is) = in_item i ++ in_items is

-- ---- functions by numbers

-- a statement of a function, and what it calls
pub record CallSite : Type 0 where
  pub caller : ℕ
  pub depth : ℕ
  pub line : ℕ
  pub callee : Option ℕ

-- a call
pub record Call : Type 0 where
  pub caller : ℕ
  pub line : ℕ
  pub callee : ℕ

abbrev pub call_at : CallSite → Option ℕ → List Call
call_at p None = []
call_at p (Some g) = (record { caller = p.caller; line = p.line; callee = g }) ∷ []

-- the calls in the order of the text
abbrev pub calls_of : List CallSite → List Call
calls_of [] = []
calls_of (p ∷ ps) = call_at p p.callee ++ calls_of ps

abbrev pub callees : List Call → ℕ → List ℕ
callees cs f = map (λ (c : Call). c.callee) (filter (λ (c : Call). c.caller == f) cs)

-- ---- where calls lead to

-- from one function to another by so many calls at most
unfoldable pub reaches : List Call → (calls : ℕ) → ℕ → ℕ → Bool
reaches cs zero f g = f == g
reaches cs (suc k) f g = f == g || list_any (λ h. reaches cs k h g) (callees cs f)

-- a call of main, or one whose callee leads back to its caller, among so many functions
abbrev pub is_recursive : List Call → (functions main : ℕ) → Call → Bool
is_recursive cs n main c = c.callee == main || reaches cs n c.callee c.caller

-- ---- the order of functions

abbrev pub one_after_another : (List ℕ → ℕ → List ℕ) → (done : List ℕ) → List ℕ → List ℕ
one_after_another one done [] = done
one_after_another one done (f ∷ fs) = one_after_another one (one done f) fs

abbrev pub unless_come : (done : List ℕ) → ℕ → (before : List ℕ) → List ℕ
unless_come done f before = if contains f done then done else before ++ f ∷ []

-- A function comes behind those that it calls, in the order of its calls, unless it has come already. Calls lead so far
-- at most.
unfoldable pub with_function : List Call → (calls : ℕ) → (done : List ℕ) → ℕ → List ℕ
with_function cs zero done f = unless_come done f done
with_function cs (suc k) done f =
    unless_come done f (one_after_another (with_function cs k) done (callees cs f))

-- ---- how deep statements stand along calls

abbrev pub callee_depth : (below : ℕ → ℕ) → Option ℕ → ℕ
callee_depth below None = 0
callee_depth below (Some g) = below g

abbrev pub deepest : (below : ℕ → ℕ) → List CallSite → ℕ
deepest below [] = 0
deepest below (p ∷ ps) = max (p.depth + callee_depth below p.callee) (deepest below ps)

abbrev pub call_sites_in : List CallSite → ℕ → List CallSite
call_sites_in ps f = filter (λ (p : CallSite). p.caller == f) ps

-- how deep a function's deepest statement stands, where calls lead so far at most
unfoldable pub function_depth : List CallSite → (calls : ℕ) → ℕ → ℕ
function_depth ps zero f = 0
function_depth ps (suc k) f = deepest (function_depth ps k) (call_sites_in ps f)
