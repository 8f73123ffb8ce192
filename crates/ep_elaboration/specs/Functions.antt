-- Heads of functions, prototypes and definitions: C11 6.7.6.3 and 6.9.1, and this project's functions by byte order.
use Rattle.std.specs.Prelude.{ℕ, ◌+◌, Bool, true, false, ◌&&◌, ◌||◌, not, if◌then◌else◌, List, [], ◌∷◌, ◌++◌, length}
use Rattle.std.specs.Prelude.{map, position, Option, Some, None, is_some, unwrap_or, bytes_eq, codes, Result, Ok, Err}
use Rattle.ep_ast.specs.Kind as kinds
use Rattle.ep_int.specs.Memory.{contains}
use Rattle.ep_int.specs.declared.types.IntType.TheVariants.{I32}
use Rattle.ep_int.specs.declared.types.Scalar.{Scalar}
use Rattle.ep_ast.specs.declared.orders.NamedOrder.{NamedOrder}
use Rattle.ep_ast.specs.declared.refusals.Refusal.{Refusal}
use Rattle.ep_ast.specs.Expression as source
use Rattle.ep_ast.specs.Declaration.{Param, Params, void, some_params, Head, to_specs}
use Rattle.ep_ast.specs.Statement.{Function}
use Rattle.ep_layout.specs.Table.{Table}
use Rattle.ep_core.specs.Program as core
use Rattle.ep_typing.specs.declared.types.CType.{CType}
use Rattle.ep_typing.specs.Results.{◌>>=◌, at, needed}
use Rattle.ep_typing.specs.Types.{c_type_number, element_of, int_type, is_aggregate, is_array, is_same, is_void}
use Rattle.ep_typing.specs.Types.{pointer_to, scalar_of, size_of_type, with_c_type, with_stars}
use Rattle.ep_typing.specs.Env as env
use Rattle.ep_typing.specs.Env.{Env, Meaning, Scope, Signature, entry}
use Rattle.ep_typing.specs.Parts.{built_in}
use Rattle.ep_typing.specs.Calls.{signature}
use Rattle.ep_elaboration.specs.Declarators.{arrays_of, bound, bounds, is_taken, with_name, with_types}
use Rattle.ep_elaboration.specs.Aggregates.{specs_declared, words_declared}
use Rattle.ep_elaboration.specs.Statements.{entered, innermost, left, order_of}

-- ---- parameters

-- array_bound: the first bound may be missing, but where it stands it is a constant from 1 to 65,536; the others have
-- to stand
unfoldable pub param_bounds : Env → ℕ → List (Option source.Expr) → Result (Option (List ℕ) × Env) Refusal
param_bounds G l [] = Ok (None, G)
param_bounds G l (None ∷ bs) = do
  q ← bounds G l bs
  Ok (Some q.0, q.1)
param_bounds G l (Some e ∷ bs) = do
  r ← bound G l (Some e)
  q ← bounds r.1 l bs
  Ok (Some q.0, q.1)

-- An array is a pointer to its elements (C11 6.7.6.3p7); its own type isn't made, only that of its elements.
-- incomplete_type: elements without a size (C11 6.7.6.2p1).
unfoldable pub param_type : Table → CType → Option (List ℕ) → Result (CType × Table) ℕ
param_type t c (Some ns) = do
  r ← arrays_of t c ns
  n ← needed kinds.incomplete_type (size_of_type r.1 r.0)
  Ok (pointer_to r.0, with_c_type r.1 (pointer_to r.0))
param_type t c None =
    let d = if is_array c then pointer_to (element_of t c) else c in Ok (d, with_c_type t d)

-- incomplete_type: of type void (C11 6.7.6.3p4). struct_by_value: an aggregate (this project's rule).
abbrev pub passable : Env → CType × Table → Result (CType × Env) ℕ
passable G r =
    if is_void r.0 then Err kinds.incomplete_type
    else if is_aggregate r.0 then Err kinds.struct_by_value
    else Ok (r.0, with_types G r.1)

abbrev pub named_param : Option (List ℕ) → (block : ℕ) → CType × Env → CType × Env
named_param None b r = r
named_param (Some t) b r = (r.0, with_name r.1 t (env.variable b r.0))

abbrev pub is_name_taken : Env → Option (List ℕ) → Bool
is_name_taken G None = false
is_name_taken G (Some t) = is_taken t G.scopes

abbrev pub passed_param : Env → Option (List ℕ) → (block : ℕ) → CType → Option (List ℕ) → Result (CType × Env) ℕ
passed_param G t b c ns = do
  r ← param_type G.types c ns
  d ← passable G r
  Ok (named_param t b d)

-- at the declarator of a parameter the lowest of redeclared, incomplete_type, too_large and struct_by_value
unfoldable pub with_param : Env → Option (List ℕ) → (block : ℕ) → CType → Option (List ℕ) → Result (CType × Env) ℕ
with_param G t b c ns = if is_name_taken G t then Err kinds.redeclared else passed_param G t b c ns

unfoldable pub param_declared : Env → (block : ℕ) → Param → Result (CType × Env) Refusal
param_declared G b p = do
  c ← words_declared G p.words
  r ← param_bounds c.1 p.line p.bounds
  at p.line (with_param r.1 p.name b (with_stars c.0 (length p.stars)) r.0)

-- parameters whose blocks have the numbers from this one on
unfoldable pub params_declared : Env → (block : ℕ) → List Param → Result (List CType × Env) Refusal
params_declared G b [] = Ok ([], G)
params_declared G b (p ∷ ps) = do
  r ← param_declared G b p
  q ← params_declared r.1 (b + 1) ps
  Ok (r.0 ∷ q.0, q.1)

abbrev pub params_of : Option Params → List Param
params_of None = []
params_of (Some (void l)) = []
params_of (Some (some_params l ps)) = ps

-- ---- heads

-- what a head says: a result, which is void where there is none, and parameters
pub record Headed : Type 0 where
  pub result : CType
  pub params : List CType

-- struct_by_value: a result that is an aggregate or an array (C11 6.7.6.3p1, and this project's rule)
abbrev pub given_back : CType → Result CType ℕ
given_back c = if is_aggregate c || is_array c then Err kinds.struct_by_value else Ok c

-- the types of the blocks of a function: first its result, if it has one, then its parameters
abbrev pub results : Headed → List CType
results h = if is_void h.result then [] else h.result ∷ []

abbrev pub behind_result : (block : ℕ) → CType → ℕ
behind_result b c = if is_void c then b else b + 1

-- A head, with the scope of its parameters innermost behind it. Tags in the result belong to the scope round it. The
-- blocks of result and parameters have the numbers from this one on.
unfoldable pub headed : Env → (block : ℕ) → Head → Result (Headed × Env) Refusal
headed G b h = do
  c ← specs_declared G [] [] (to_specs h.specs)
  r ← at h.line (given_back (with_stars c.0 (length h.stars)))
  ps ← params_declared (entered (with_types c.1 (with_c_type c.1.types r))) (behind_result b r) (params_of h.params)
  Ok (record { result = r; params = ps.0 }, ps.1)

-- ---- functions by their names

abbrev pub signature_of : Head → Headed → Signature
signature_of h r = record { name = h.name; params = r.params; result = r.result }

abbrev pub are_same : List CType → List CType → Bool
are_same [] [] = true
are_same (c ∷ cs) (d ∷ ds) = is_same c d && are_same cs ds
are_same cs ds = false

abbrev pub is_same_signature : Signature → Signature → Bool
is_same_signature s u = is_same s.result u.result && are_same s.params u.params

-- main has no parameters and gives an int (C11 5.1.2.2.1p1, less its parameters)
abbrev pub is_main : List ℕ → Bool
is_main t = bytes_eq (codes "main") t

abbrev pub fits_main : Signature → Bool
fits_main s = not (is_main s.name) || is_same_signature s (record { name = []; params = []; result = int_type I32 })

-- a function keeps the number that it had first
abbrev pub number_of_function : List Signature → List ℕ → Option ℕ
number_of_function fs t = position (λ (s : Signature). bytes_eq t s.name) fs

-- whether the function of a number, if there is one, has another type
abbrev pub is_unlike : Env → Signature → Option ℕ → Bool
is_unlike G s None = false
is_unlike G s (Some n) = not (is_same_signature (signature G n) s)

-- redeclared: another sort of name, or another type than it had (C11 6.7p4), or a second body (6.9p3). A function
-- keeps its type
-- also where its name isn't seen, as that of a first arm in the second.
abbrev pub stands_against : Env → (defined : List ℕ) → (with_body : Bool) → Signature → Option Meaning → Bool
stands_against G defined with_body s (Some (env.function n)) =
    not (is_same_signature (signature G n) s) || (with_body && contains n defined)
stands_against G defined with_body s (Some (env.variable b c)) = true
stands_against G defined with_body s (Some (env.type_name c)) = true
stands_against G defined with_body s None =
    is_some (entry s.name built_in) || is_unlike G s (number_of_function G.functions s.name)

abbrev pub numbered_function : Env → Signature → Option ℕ → ℕ × Env
numbered_function G s (Some n) = (n, G)
numbered_function G s None = (length G.functions, record G { functions = G.functions ++ s ∷ [] })

abbrev pub named_function : Signature → Option Meaning → ℕ × Env → ℕ × Env
named_function s (Some m) r = r
named_function s None r = (r.0, with_name r.1 s.name (env.function r.0))

-- the names of the scope where functions are declared
abbrev pub file_names : Env → List (List ℕ × Meaning)
file_names G = (innermost G).names

-- redeclared, then type_mismatch for a main of another type
unfoldable pub function_declared : Env → (defined : List ℕ) → (with_body : Bool) → Signature → Result (ℕ × Env) ℕ
function_declared G defined with_body s =
    if stands_against G defined with_body s (entry s.name (file_names G)) then Err kinds.redeclared
    else if fits_main s then Ok (named_function s (entry s.name (file_names G))
    (numbered_function G s (number_of_function G.functions s.name)))
    else Err kinds.type_mismatch

unfoldable pub prototype : Env → (defined : List ℕ) → Head → Result Env Refusal
prototype G defined h = do
  r ← headed G (length G.blocks) h
  n ← at h.line (function_declared (left r.1) defined false (signature_of h r.0))
  Ok n.1

-- ---- definitions

-- a function with its number among the declared ones, and the number of the first block of its result and parameters
pub record Defined : Type 0 where
  pub number : ℕ
  pub first : ℕ
  pub function : core.Function

-- what a body comes to: its own blocks, its statements, and the line where it begins
pub record Body : Type 0 where
  pub line : ℕ
  pub locals : List ℕ
  pub stmts : core.Stmts

abbrev pub own_block : Table → CType → core.Block
own_block t c = record { size = unwrap_or (size_of_type t c) 0; ty = c_type_number t c; global = false }

abbrev pub with_blocks : Env → List CType → Env
with_blocks G cs = record G { blocks = G.blocks ++ map (own_block G.types) cs }

abbrev pub numbered_from : ℕ → List CType → List (ℕ × Scalar)
numbered_from b [] = []
numbered_from b (c ∷ cs) = (b, scalar_of c) ∷ numbered_from (b + 1) cs

abbrev pub result_at : ℕ → CType → Option (ℕ × Scalar)
result_at b c = if is_void c then None else Some (b, scalar_of c)

-- parameters share the scope of the body's outer block
abbrev pub body_env : Env → Scope → Env
body_env G s = record G { scopes = s ∷ G.scopes }

abbrev pub blocks_if : (own : Bool) → Env → List CType → Env
blocks_if false G cs = G
blocks_if true G cs = with_blocks G cs

-- what a definition comes to: the function's number, what its head says, and its body
pub record Typed : Type 0 where
  pub number : ℕ
  pub head : Headed
  pub body : Body

abbrev pub defined_of : Function → (block : ℕ) → Typed → Defined
defined_of f b r = record {
  number = r.number;
  first = b;
  function = record {
    name = f.head.name;
    line = f.head.line;
    params = numbered_from (behind_result b r.head.result) r.head.params;
    result = result_at b r.head.result;
    locals = r.body.locals;
    body = r.body.stmts;
  };
}

abbrev pub numbers_of : List Defined → List ℕ
numbers_of ds = map (λ (d : Defined). d.number) ds

-- ---- functions by byte order

abbrev pub first_block : List Defined → ℕ
first_block [] = 0
first_block (d ∷ ds) = d.first

abbrev pub rest_of : List Defined → List Defined
rest_of [] = []
rest_of (d ∷ ds) = ds

abbrev pub scoped : (line : ℕ) → List ℕ → core.Stmts → core.Stmts
scoped l bs ss = core.more l (core.scope bs ss) core.stop

-- one function, whose body is a conditional
abbrev pub joined : ℕ → NamedOrder → (line : ℕ) → Defined → Body → Defined
joined l o k d b = record d {
  function = record d.function {
    locals = [];
    body = core.more l (core.by_order (order_of o) (scoped k d.function.locals d.function.body)
        (scoped b.line b.locals b.stmts)) core.stop;
  };
}

abbrev pub all_joined : ℕ → NamedOrder → List Function → List Defined → List Body → List Defined
all_joined l o (f ∷ fs) (d ∷ ds) (b ∷ bs) = joined l o f.body.line d b ∷ all_joined l o fs ds bs
all_joined l o fs ds bs = []

-- ---- whether two arms define the same functions

abbrev pub is_same_text : Option (List ℕ) → Option (List ℕ) → Bool
is_same_text None None = true
is_same_text (Some t) (Some u) = bytes_eq t u
is_same_text t u = false

abbrev pub have_same_names : List Param → List Param → Bool
have_same_names [] [] = true
have_same_names (p ∷ ps) (q ∷ qs) = is_same_text p.name q.name && have_same_names ps qs
have_same_names ps qs = false

abbrev pub are_named_alike : Head → Head → Bool
are_named_alike h k = bytes_eq h.name k.name && have_same_names (params_of h.params) (params_of k.params)
