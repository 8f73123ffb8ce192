-- Calls of functions and of the built-in ones, with their kinds in order: C11 6.5.2.2, and this project's inputs and
-- outputs.
use Rattle.std.specs.Prelude.{ℕ, not, if◌then◌else◌, List, [], ◌∷◌, map, slice_get, slice_index_or, Option, unwrap_or}
use Rattle.std.specs.Prelude.{option_map, option_and_then, Result, Ok, Err}
use Rattle.ep_ast.specs.Kind as kinds
use Rattle.ep_int.specs.declared.types.IntType.{IntType}
use Rattle.ep_int.specs.declared.types.IntType.TheVariants.{U8}
use Rattle.ep_core.specs.Program as core
use Rattle.ep_typing.specs.declared.types.CType.{CType}
use Rattle.ep_typing.specs.Results.{◌>>=◌, lowest, needed}
use Rattle.ep_typing.specs.Types.{int_type, is_aggregate, is_pointer, is_scalar, void_type}
use Rattle.ep_typing.specs.Env.{Env, Signature}
use Rattle.ep_typing.specs.Constant.{count_of}
use Rattle.ep_typing.specs.Operand.{Operand, place, value, function, Value, Callee, declared, input, output}
use Rattle.ep_typing.specs.Operand.{copy_bytes, fill_bytes, read_bytes, write_bytes, fitted}
use Rattle.ep_typing.specs.Operators.{bare}

-- what a parameter asks: a value of a type, a pointer of any type, or a length
pub data Parameter : Type 0 where
  of_type : CType → Parameter
  any_pointer : Parameter
  a_length : Parameter

-- type_mismatch and pointer_to_integer: no pointer; null is one of any type. It isn't converted (this project's rule).
abbrev pub as_any_pointer : Value → Result core.Expr ℕ
as_any_pointer v =
    if not (is_scalar v.ty) then Err kinds.type_mismatch
    else if is_pointer v.ty then Ok (bare v)
    else if v.is_null then Ok core.null_value
    else Err kinds.pointer_to_integer

-- type_mismatch and pointer_to_integer: no integer. length_not_constant: not a constant from 1 to 65,536 (this
-- project's rule).
abbrev pub as_length : Value → Result core.Expr ℕ
as_length v =
    if not (is_scalar v.ty) then Err kinds.type_mismatch
    else if is_pointer v.ty then Err kinds.pointer_to_integer
    else needed kinds.length_not_constant (option_map (λ n. v.expr) (count_of v))

unfoldable pub passed : Parameter → Value → Result core.Expr ℕ
passed (of_type c) v = fitted c v
passed any_pointer v = as_any_pointer v
passed a_length v = as_length v

-- an argument without a parameter: arity (C11 6.5.2.2p2); type_mismatch where it is an aggregate, which no argument may
-- be (this project's rule)
abbrev pub surplus : Value → Result core.Expr ℕ
surplus v = if is_aggregate v.ty then Err kinds.type_mismatch else Err kinds.arity

-- An argument for each parameter, else arity (C11 6.5.2.2p2); of all that is wrong the lowest kind.
unfoldable pub all_passed : List Parameter → List Value → Result (List core.Expr) ℕ
all_passed [] [] = Ok []
all_passed [] (v ∷ vs) = lowest (surplus v) (all_passed [] vs)
all_passed (p ∷ ps) [] = Err kinds.arity
all_passed (p ∷ ps) (v ∷ vs) = lowest (passed p v) (all_passed ps vs)

abbrev pub signature : Env → ℕ → Signature
signature G n = unwrap_or (slice_get G.functions n) (record { name = []; params = []; result = void_type })

-- the parameters of what is called (C11 7.24.2.1p1 and 7.24.6.1p1)
abbrev pub parameters : Env → Callee → List Parameter
parameters G (declared n) = map of_type (signature G n).params
parameters G (input t) = []
parameters G (output t) = of_type (int_type t) ∷ []
parameters G copy_bytes = any_pointer ∷ any_pointer ∷ a_length ∷ []
parameters G fill_bytes = any_pointer ∷ of_type (int_type U8) ∷ a_length ∷ []
parameters G read_bytes = any_pointer ∷ a_length ∷ []
parameters G write_bytes = any_pointer ∷ a_length ∷ []

-- what a call does: a function of the program with its arguments and the type of its result, an input, or an action
pub data Called : Type 0 where
  a_call : (function : ℕ) → List core.Expr → (result : CType) → Called
  an_input : IntType → Called
  an_action : core.Simple → Called

abbrev pub argument : List core.Expr → ℕ → core.Expr
argument es k = slice_index_or es k core.null_value

-- the number that a length is
abbrev pub length_at : List Value → ℕ → ℕ
length_at vs k = unwrap_or (option_and_then count_of (slice_get vs k)) 0

abbrev pub done_by : Env → Callee → List Value → List core.Expr → Called
done_by G (declared n) vs es = a_call n es (signature G n).result
done_by G (input t) vs es = an_input t
done_by G (output t) vs es = an_action (core.output t (argument es 0))
done_by G copy_bytes vs es = an_action (core.copy_bytes (argument es 0) (argument es 1) (length_at vs 2))
done_by G fill_bytes vs es = an_action (core.fill (argument es 0) (argument es 1) (length_at vs 2))
done_by G read_bytes vs es = an_action (core.read_bytes (argument es 0) (length_at vs 1))
done_by G write_bytes vs es = an_action (core.write_bytes (argument es 0) (length_at vs 1))

-- type_mismatch: what is called is no function (C11 6.5.2.2p1)
unfoldable pub called : Env → Operand → List Value → Result Called ℕ
called G (place p c) vs = Err kinds.type_mismatch
called G (value v) vs = Err kinds.type_mismatch
called G (function f) vs = do
  es ← all_passed (parameters G f) vs
  Ok (done_by G f vs es)

-- the type of what a call gives; none for an action (this project's rule)
abbrev pub result_of : Called → CType
result_of (a_call n es c) = c
result_of (an_input t) = int_type t
result_of (an_action w) = void_type

-- a call whose result, if it has one, goes there
abbrev pub called_into : Called → Option core.Dest → core.What
called_into (a_call n es c) d = core.call n es d
called_into (an_input t) d = core.simple (core.input t d)
called_into (an_action w) d = core.simple w
