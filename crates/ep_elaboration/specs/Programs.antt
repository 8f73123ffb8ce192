-- What whole programs mean, or for what they are refused: C11 6.9, and this project's checks of the whole program.
use Rattle.std.specs.Prelude.{ℕ, Bool, true, not, nat_lt, if◌then◌else◌, List, [], ◌∷◌, ◌++◌, length, map, find}
use Rattle.std.specs.Prelude.{position, sum_by, Option, Some, None, option_map, unwrap_or, ◌==◌, Result, Ok, Err}
use Rattle.ep_ast.specs.Kind as kinds
use Rattle.ep_int.specs.Memory.{contains}
use Rattle.ep_int.specs.declared.types.Model.{Model}
use Rattle.ep_ast.specs.declared.refusals.Refusal.{Refusal}
use Rattle.ep_ast.specs.Statement as tree
use Rattle.ep_ast.specs.Statement.{Item}
use Rattle.ep_core.specs.Program as core
use Rattle.ep_typing.specs.Results.{at}
use Rattle.ep_typing.specs.Env.{Env, Signature, start}
use Rattle.ep_elaboration.specs.Functions.{Defined, is_main, number_of_function}
use Rattle.ep_elaboration.specs.Functions.{numbers_of}
use Rattle.ep_elaboration.specs.Calls.{Call, CallSite, Placed, in_items, is_recursive}
use Rattle.ep_elaboration.specs.Calls.{one_after_another, with_function}

-- ---- the text

-- what was declared so far, the first values of globals, and the functions that have a body
pub record Sofar : Type 0 where
  pub env : Env
  pub values : List core.Init
  pub defined : List Defined

abbrev pub begun : Model → Sofar
begun m = record { env = start m; values = []; defined = [] }

abbrev pub with_env : Sofar → Env → Sofar
with_env s G = record s { env = G }

abbrev pub with_defined : Sofar → List Defined × Env → Sofar
with_defined s r = record s { env = r.1; defined = s.defined ++ r.0 }

-- the functions of an arm; there are none where there is no `#else`
abbrev pub functions_in : Option (List tree.Function) → List tree.Function
functions_in None = []
functions_in (Some fs) = fs

-- ---- the checks of the whole program

abbrev pub function_number : List Signature → List ℕ → ℕ
function_number fs t = unwrap_or (number_of_function fs t) 0

abbrev pub call_site_of : List Signature → Placed → CallSite
call_site_of fs p = record {
  caller = function_number fs p.0;
  depth = p.1.depth;
  line = p.1.line;
  callee = option_map (function_number fs) p.1.callee;
}

abbrev pub call_sites_of : Sofar → List Item → List CallSite
call_sites_of s is = map (call_site_of s.env.functions) (in_items is)

abbrev pub main_of : List Defined → Option Defined
main_of ds = find (λ (d : Defined). is_main d.function.name) ds

-- no call of the text breaks a rule, or the first one that does
abbrev pub none_breaks : (kind : ℕ) → Option Call → Result Bool Refusal
none_breaks k None = Ok true
none_breaks k (Some c) = at c.line (Err k)

-- no_definition: a call of a function without a body
abbrev pub all_have_bodies : List Defined → List Call → Result Bool Refusal
all_have_bodies ds cs =
    none_breaks kinds.no_definition (find (λ (c : Call). not (contains c.callee (numbers_of ds))) cs)

-- recursion: a call of main, or a cycle of calls
abbrev pub none_recurs : Sofar → (main : ℕ) → List Call → Result Bool Refusal
none_recurs s main cs = none_breaks kinds.recursion (find (is_recursive cs (length s.env.functions) main) cs)

-- call_depth: more than 256 statements inside one another along calls from main, on the line of main
abbrev pub not_too_deep : ℕ → Result Bool ℕ
not_too_deep n = if nat_lt 256 n then Err kinds.call_depth else Ok true

-- too_large: all objects together of more than 65,536 bytes
abbrev pub all_fit : List core.Block → Result Bool ℕ
all_fit bs = if nat_lt 65536 (sum_by (λ (b : core.Block). b.size) bs) then Err kinds.too_large else Ok true

-- ---- the program

-- calls of functions by their places in the program
unfoldable mutual
  pub renumbered_what : (ℕ → ℕ) → core.What → core.What
  renumbered_what to (core.simple w) = core.simple w
  renumbered_what to (core.call f es d) = core.call (to f) es d
  renumbered_what to (core.if_else e a b) = core.if_else e (renumbered to a) (renumbered to b)
  renumbered_what to (core.loop first e a b) = core.loop first e (renumbered to a) (renumbered to b)
  renumbered_what to core.break_loop = core.break_loop
  renumbered_what to core.continue_loop = core.continue_loop
  renumbered_what to (core.by_order o a b) = core.by_order o (renumbered to a) (renumbered to b)
  renumbered_what to (core.scope bs a) = core.scope bs (renumbered to a)

  pub renumbered : (ℕ → ℕ) → core.Stmts → core.Stmts
  renumbered to core.stop = core.stop
  renumbered to (core.more l w rest) = core.more l (renumbered_what to w) (renumbered to rest)

-- the place of a function in an order
abbrev pub place_in : List ℕ → ℕ → ℕ
place_in order f = unwrap_or (position (λ (g : ℕ). f == g) order) 0

abbrev pub numbered : List Defined → ℕ → Option Defined
numbered ds f = find (λ (d : Defined). d.number == f) ds

abbrev pub in_order : (order : List ℕ) → Option Defined → List core.Function
in_order order None = []
in_order order (Some d) = record d.function { body = renumbered (place_in order) d.function.body } ∷ []

abbrev pub all_in_order : (order : List ℕ) → List Defined → List ℕ → List core.Function
all_in_order order ds [] = []
all_in_order order ds (f ∷ fs) = in_order order (numbered ds f) ++ all_in_order order ds fs

-- each function behind those that it calls, else in the order of their bodies
abbrev pub order_of : Sofar → List Call → List ℕ
order_of s cs = one_after_another (with_function cs (length s.env.functions)) [] (numbers_of s.defined)

abbrev pub program_of : Sofar → (main : ℕ) → (order : List ℕ) → core.Program
program_of s main order = record {
  types = s.env.types;
  blocks = s.env.blocks;
  init = s.values;
  functions = all_in_order order s.defined order;
  main = place_in order main;
}
