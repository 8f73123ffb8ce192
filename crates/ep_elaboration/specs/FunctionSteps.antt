-- Functions one after another, and the two arms of a conditional: the first offence, in the order of the text. The
-- rules are those of C11 6.7 and 6.9, and this project's for conditionals.
use Rattle.std.specs.Prelude.{ℕ, Bool, true, false, ◌&&◌, if◌then◌else◌, List, [], ◌∷◌, ◌++◌, length}
use Rattle.std.specs.Prelude.{Result, Ok, Err}
use Rattle.ep_ast.specs.declared.orders.NamedOrder.{NamedOrder}
use Rattle.ep_ast.specs.declared.refusals.Refusal.{Refusal}
use Rattle.ep_ast.specs.Declaration.{Head}
use Rattle.ep_ast.specs.Statement.{Function, to_parts}
use Rattle.ep_typing.specs.Results.{◌>>=◌, at}
use Rattle.ep_typing.specs.Env.{Env}
use Rattle.ep_elaboration.specs.Declarators.{with_types}
use Rattle.ep_elaboration.specs.Statements.{blocks_behind, innermost, left, parts, to_core}
use Rattle.ep_elaboration.specs.Functions.{Headed, results, headed, signature_of, is_same_signature}
use Rattle.ep_elaboration.specs.Functions.{function_declared, Defined, Body, body_env, blocks_if, Typed, defined_of}
use Rattle.ep_elaboration.specs.Functions.{first_block, rest_of, all_joined, are_named_alike}
use Rattle.ep_ast.specs.Kind as kinds

-- A function's name is known in its body. The blocks of result and parameters come before those of the body, where they
-- are its own.
unfoldable pub function_typed : Env → (block : ℕ) → (own : Bool) → (defined : List ℕ) → Function
    → Result (Typed × Env) Refusal
function_typed G b own defined f = do
  r ← headed G b f.head
  n ← at f.head.line (function_declared (left r.1) defined true (signature_of f.head r.0))
  a ← parts (body_env (blocks_if own n.1 (results r.0 ++ r.0.params)) (innermost r.1)) r.0.result false
      (to_parts f.body.parts)
  Ok (
    record {
      number = n.0;
      head = r.0;
      body = record {
        line = f.body.line;
        locals = blocks_behind (length (innermost r.1).names) a.1;
        stmts = to_core a.0;
      };
    },
    left a.1,
  )

unfoldable pub function_defined : Env → (defined : List ℕ) → Function → Result (Defined × Env) Refusal
function_defined G defined f = do
  r ← function_typed G (length G.blocks) true defined f
  Ok (defined_of f (length G.blocks) r.0, r.1)

-- ---- functions by byte order

-- the functions of the first arm
unfoldable pub functions_defined : Env → (defined : List ℕ) → List Function → Result (List Defined × Env) Refusal
functions_defined G defined [] = Ok ([], G)
functions_defined G defined (f ∷ fs) = do
  r ← function_defined G defined f
  q ← functions_defined r.1 (r.0.number ∷ defined) fs
  Ok (r.0 ∷ q.0, q.1)

-- those of the second arm, each over the blocks of the one that it stands for
unfoldable pub others_typed : Env → (defined : List ℕ) → List Defined → List Function → Result (List Body × Env) Refusal
others_typed G defined ds [] = Ok ([], G)
others_typed G defined ds (g ∷ gs) = do
  r ← function_typed G (first_block ds) false defined g
  q ← others_typed r.1 (r.0.number ∷ defined) (rest_of ds) gs
  Ok (r.0.body ∷ q.0, q.1)

-- types are compared where both heads can stand there by themselves
abbrev pub is_alike : Head → Headed × Env → Head → Result (Headed × Env) Refusal → Bool
is_alike h r k (Err s) = true
is_alike h r k (Ok q) = is_same_signature (signature_of h r.0) (signature_of k q.0)

abbrev pub stands_alone : Env → (defined : List ℕ) → Head → Result (Headed × Env) Refusal
stands_alone G defined h = do
  r ← headed G (length G.blocks) h
  n ← at h.line (function_declared (left r.1) defined true (signature_of h r.0))
  Ok (r.0, with_types G r.1.types)

abbrev pub are_typed_alike : Env → (defined : List ℕ) → (h : Head) → Result (Headed × Env) Refusal → Head → Bool
are_typed_alike G defined h (Err s) k = true
are_typed_alike G defined h (Ok r) k = is_alike h r k (stands_alone r.1 defined k)

unfoldable pub are_alike : Env → (defined : List ℕ) → Head → Head → Bool
are_alike G defined h k = are_typed_alike G defined h (stands_alone G defined h) k

-- the same names, in the same order, with the same names of parameters, and of the same types
unfoldable pub arms_agree : Env → (defined : List ℕ) → List Function → List Function → Bool
arms_agree G defined [] [] = true
arms_agree G defined (f ∷ fs) (g ∷ gs) =
    are_named_alike f.head g.head && are_alike G defined f.head g.head && arms_agree G defined fs gs
arms_agree G defined fs gs = false

-- conditional_arms: two arms that don't agree
abbrev pub agreeing : Bool → Result Bool ℕ
agreeing b = if b then Ok true else Err kinds.conditional_arms

-- The second arm sees what stood before the first one, for on its machine the first isn't there.
unfoldable pub arms_defined : Env → (defined : List ℕ) → ℕ → NamedOrder → List Function → List Function
    → Result (List Defined × Env) Refusal
arms_defined G defined l o fs gs = do
  agree ← at l (agreeing (arms_agree G defined fs gs))
  a ← functions_defined G defined fs
  b ← others_typed (record a.1 { scopes = G.scopes }) defined a.0 gs
  Ok (all_joined l o fs a.0 b.0, b.1)
