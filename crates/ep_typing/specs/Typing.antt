-- What expressions mean, or the first offence in the order of the text: operands before operators, left before right,
-- at one node the lowest kind. C11 6.5 and 6.8.3.
use Rattle.std.specs.Prelude.{ℕ, ◌==◌, Bool, true, ◌&&◌, ◌||◌, not, if◌then◌else◌, List, [], ◌∷◌, Option, Some, None}
use Rattle.std.specs.Prelude.{Result, Ok, Err, pos}
use Rattle.ep_ast.specs.Kind as kinds
use Rattle.ep_int.specs.declared.types.IntType.TheVariants.{I32}
use Rattle.ep_ast.specs.declared.refusals.Refusal.{Refusal}
use Rattle.ep_ast.specs.Mark as mark
use Rattle.ep_ast.specs.Expression as source
use Rattle.ep_layout.specs.Table.{Table}
use Rattle.ep_layout.specs.declared.types.Ty.TheVariants as rows
use Rattle.ep_core.specs.Program as core
use Rattle.ep_typing.specs.declared.types.CType.{CType}
use Rattle.ep_typing.specs.Results.{◌>>=◌, at, needed}
use Rattle.ep_typing.specs.Types.{is_aggregate, is_array, is_pointer, is_same, is_void, known_number, number_in}
use Rattle.ep_typing.specs.Types.{scalar_of, size_of_type}
use Rattle.ep_typing.specs.declared.types.FieldRow.{FieldRow}
use Rattle.ep_typing.specs.Env.{Env}
use Rattle.ep_typing.specs.Names.{mentioned, named_type}
use Rattle.ep_typing.specs.Operand.{Operand, place, value, function, Value, are_scalars, fitted, int_value, is_mixed}
use Rattle.ep_typing.specs.Operand.{plain_value, tested, value_of}
use Rattle.ep_typing.specs.Operators.{chosen, operated}
use Rattle.ep_typing.specs.Parts.{an_operand, casted, indexable, indexed, named, named_uncalled, numbered, sized}
use Rattle.ep_typing.specs.Parts.{type_sized, unary_typed}
use Rattle.ep_typing.specs.Fields.{field_in, found_in, pointed_by, selected_behind, selected_in}
use Rattle.ep_typing.specs.Calls.{Called, called, called_into, result_of}

-- ---- expressions

-- A compound assignment reads its left side before the right one is looked at (C11 6.5.16.2p3).
unfoldable pub read_first : Table → (mark : ℕ) → Operand → Result Operand ℕ
read_first t m x = if m == mark.equal then Ok x else an_operand (value_of t x)

-- ---- what a node does with its last operand

unfoldable pub joined : Table → (mark : ℕ) → Value → Operand → Result Operand ℕ
joined t m u y = do
  v ← value_of t y
  an_operand (operated t m u v)

unfoldable pub chosen_from : Table → (test left : Value) → Operand → Result Operand ℕ
chosen_from t r u y = do
  v ← value_of t y
  an_operand (chosen r u v)

unfoldable pub cast_to : Table → CType → Operand → Result Operand ℕ
cast_to t c x = do
  v ← value_of t x
  an_operand (casted c v)

unfoldable pub indexed_by : Table → Operand → Operand → Result Operand ℕ
indexed_by t u y = do
  v ← value_of t y
  indexed t u v

-- what is called: a function by its name, or what another expression stands for
abbrev pub callee : Env → source.Expr → (uncalled : Result Operand Refusal) → Result Operand Refusal
callee G (source.id l t) x = at l (named G t)
callee G e x = x

-- ---- the order of an expression

-- assignment_in_expression: an assignment, `++` or `--` stands only as a whole statement or an outer part of a `for`.
-- call_in_expression: a call stands only
-- as a whole statement, as the right side of a whole `=` or as an initialiser. Both are this project's rules.
unfoldable mutual
  pub typed : Env → source.Expr → Result Operand Refusal
  typed G (source.assign l m a b) = do
    x ← typed G a
    old ← at l (read_first G.types m x)
    y ← typed G b
    at l (Err kinds.assignment_in_expression)
  typed G (source.conditional l e a b) = do
    w ← typed G e
    r ← at l (value_of G.types w)
    x ← typed G a
    u ← at l (value_of G.types x)
    y ← typed G b
    at l (chosen_from G.types r u y)
  typed G (source.binary l m a b) = do
    x ← typed G a
    u ← at l (value_of G.types x)
    y ← typed G b
    at l (joined G.types m u y)
  typed G (source.cast l n a) = do
    c ← named_type G n
    x ← typed G a
    at l (cast_to G.types c x)
  typed G (source.step l m a) = do
    x ← typed G a
    at l (Err kinds.assignment_in_expression)
  typed G (source.unary l m a) = do
    x ← typed G a
    at l (unary_typed G.types m x)
  typed G (source.sizeof_expr l a) = do
    x ← typed G a
    at l (an_operand (sized G.types x))
  typed G (source.sizeof_type l n) = do
    c ← named_type G n
    at l (an_operand (type_sized G.types c))
  typed G (source.index l a b) = do
    x ← typed G a
    u ← at l (indexable G.types x)
    y ← typed G b
    at l (indexed_by G.types u y)
  typed G (source.call l f es) = do
    x ← callee G f (typed G f)
    vs ← typed_all G l es
    at l (Err kinds.call_in_expression)
  typed G (source.member l a n) = do
    x ← typed G a
    at l (selected_in G x n)
  typed G (source.arrow l a n) = do
    x ← typed G a
    at l (selected_behind G x n)
  typed G (source.post_increment l a) = do
    x ← typed G a
    at l (Err kinds.assignment_in_expression)
  typed G (source.post_decrement l a) = do
    x ← typed G a
    at l (Err kinds.assignment_in_expression)
  typed G (source.id l t) = at l (named_uncalled G t)
  typed G (source.number l n) = Ok (numbered G.types.model n)

  -- the values of a call's arguments, on the line of the call
  pub typed_all : Env → ℕ → source.Exprs → Result (List Value) Refusal
  typed_all G l source.no_exprs = Ok []
  typed_all G l (source.more_exprs e es) = do
    x ← typed G e
    v ← at l (value_of G.types x)
    vs ← typed_all G l es
    Ok (v ∷ vs)

-- the bit-field that an expression names, with the place of its unit
unfoldable pub field_of : Env → source.Expr → Option (core.Place × FieldRow)
field_of G (source.member l a n) = found_in (typed G a) (λ x. field_in G x n)
field_of G (source.arrow l a n) = found_in (typed G a >>= (λ x. at l (pointed_by G x))) (λ y. field_in G y n)
field_of G _ = None

-- the scalar that is tested by an `if`, a loop, or evaluated alone
unfoldable pub test : Env → source.Expr → Result core.Expr Refusal
test G e = do
  x ← typed G e
  v ← at (source.line_of e) (value_of G.types x)
  at (source.line_of e) (tested v)

-- ---- assignments

-- what a compound assignment computes, by its mark
abbrev pub operator_of : ℕ → ℕ
operator_of m =
    if m == mark.plus_equal then mark.plus
    else if m == mark.minus_equal then mark.minus
    else if m == mark.star_equal then mark.star
    else if m == mark.slash_equal then mark.slash
    else if m == mark.percent_equal then mark.percent
    else if m == mark.ampersand_equal then mark.ampersand
    else if m == mark.bar_equal then mark.bar
    else if m == mark.caret_equal then mark.caret
    else if m == mark.left_shift_equal then mark.left_shift
    else mark.right_shift

-- type_mismatch: a function, an array or an object of type void is never assigned to (C11 6.5.16p2 and 6.3.2.1p1)
unfoldable pub assignable : Operand → Result Operand ℕ
assignable (place p c) = if is_void c || is_array c then Err kinds.type_mismatch else Ok (place p c)
assignable (value v) = Ok (value v)
assignable (function f) = Err kinds.type_mismatch

-- what is assigned to a value, which is no object
unfoldable pub not_stored : {A : Type 0} → Value → Value → Result A ℕ
not_stored u v =
    if not (are_scalars u.ty v.ty) then Err kinds.type_mismatch
    else if is_mixed u.ty v then Err kinds.pointer_to_integer
    else Err kinds.not_an_lvalue

-- A scalar is stored as of its object's type. type_mismatch, pointer_to_integer and incompatible_pointers: it doesn't
-- fit. not_an_lvalue: there is no object (C11 6.5.16p2).
unfoldable pub stored : Operand → Value → Result core.Simple ℕ
stored (place p c) v = do
  e ← fitted c v
  Ok (core.assign (scalar_of c) p e)
stored (value u) v = not_stored u v
stored (function f) v = Err kinds.type_mismatch

-- a struct or union is copied to one of the same type, incomplete_type where that isn't completed (C11 6.5.16.1p1)
unfoldable pub copied : Table → CType → (to from : core.Place) → Result core.Simple ℕ
copied t c p q = do
  n ← needed kinds.incomplete_type (size_of_type t c)
  Ok (core.copy_aggregate p q (known_number t (rows.Aggregate (number_in c.base))))

abbrev pub moves_aggregate : CType → CType → Bool
moves_aggregate c d = is_aggregate c && is_same c d

unfoldable pub put : Table → Operand → Operand → Value → Result core.Simple ℕ
put t (place p c) (place q d) v = if moves_aggregate c d then copied t c p q else stored (place p c) v
put t x y v = stored x v

-- `=`
unfoldable pub assigned : Table → Operand → Operand → Result core.Simple ℕ
assigned t x y = do
  z ← assignable x
  v ← value_of t y
  put t z y v

-- `l op= e` is `l = l op (e)`, whose left side was read (C11 6.5.16.2p3)
unfoldable pub updated : Table → (mark : ℕ) → Operand → (old right : Operand) → Result core.Simple ℕ
updated t m x old y = do
  u ← value_of t old
  v ← value_of t y
  w ← operated t m u v
  assigned t x (value w)

-- ---- results of calls

-- a result is stored as of its object's type; whether it is a pointer of another type than the object's
abbrev pub dest : core.Place → CType → (result : CType) → core.Dest
dest p c r = record { what = scalar_of c; cast = is_pointer c && not (is_same c r); place = p }

-- what takes a result of a type; type_mismatch where there is none (C11 6.5.16.1p1, as for a value)
unfoldable pub taken : Operand → (result : CType) → Result core.Dest ℕ
taken (place p c) r = do
  e ← fitted c (plain_value core.null_value r)
  Ok (dest p c r)
taken (value u) r = not_stored u (plain_value core.null_value r)
taken (function f) r = Err kinds.type_mismatch

-- ---- whole statements

-- what stands right of an assignment: an operand, or a call
pub data Right : Type 0 where
  an_object : Operand → Right
  a_result : Called → Right

abbrev pub assigned_from : Table → (mark : ℕ) → Operand → (old : Operand) → Right → Result core.What ℕ
assigned_from t m x old (a_result f) = do
  d ← taken x (result_of f)
  Ok (called_into f (Some d))
assigned_from t m x old (an_object y) = do
  w ← (if m == mark.equal then assigned t x y else updated t (operator_of m) x old y)
  Ok (core.simple w)

-- a call with its function and arguments, where it may stand
unfoldable pub call_typed : Env → ℕ → source.Expr → source.Exprs → Result Called Refusal
call_typed G l f es = do
  x ← callee G f (typed G f)
  vs ← typed_all G l es
  at l (called G x vs)

unfoldable pub right_side : Env → (may_call : Bool) → source.Expr → Result Right Refusal
right_side G true (source.call l f es) = do
  c ← call_typed G l f es
  Ok (a_result c)
right_side G may_call e = do
  y ← typed G e
  Ok (an_object y)

-- the left side, then the right one, then the assignment
unfoldable pub assignment : Env → (may_call : Bool) → ℕ → (mark : ℕ) → (left right : source.Expr)
    → Result core.What Refusal
assignment G may_call l m a b = do
  x ← typed G a
  old ← at l (read_first G.types m x)
  y ← right_side G (may_call && m == mark.equal) b
  at l (assigned_from G.types m x old y)

abbrev pub one : Value
one = int_value (core.const I32 (pos 1)) I32

-- `l++` and `++l` are `l += 1`, and likewise down (C11 6.5.2.4p2 and 6.5.3.1p2)
unfoldable pub stepped : Env → ℕ → (mark : ℕ) → source.Expr → Result core.What Refusal
stepped G l m a = do
  x ← typed G a
  old ← at l (read_first G.types m x)
  at l (assigned_from G.types m x old (an_object (value one)))

abbrev pub step_mark : ℕ → ℕ
step_mark m = if m == mark.plus_plus then mark.plus_equal else mark.minus_equal

-- an expression as a whole statement, or, where no call may stand, as an outer part of a `for` (C11 6.8.3p2)
unfoldable pub whole_statement : Env → (may_call : Bool) → source.Expr → Result core.What Refusal
whole_statement G may_call (source.assign l m a b) = assignment G may_call l m a b
whole_statement G may_call (source.step l m a) = stepped G l (step_mark m) a
whole_statement G may_call (source.post_increment l a) = stepped G l mark.plus_equal a
whole_statement G may_call (source.post_decrement l a) = stepped G l mark.minus_equal a
whole_statement G true (source.call l f es) = do
  c ← call_typed G l f es
  Ok (called_into c None)
whole_statement G may_call e = do
  w ← test G e
  Ok (core.simple (core.eval w))

-- ---- with what an expression declares

-- what an expression means, after the tags and types that it mentions
abbrev pub meaning : Env → source.Expr → Result Operand Refusal
meaning G e = typed (mentioned G e) e

abbrev pub statement_meaning : Env → source.Expr → Result core.What Refusal
statement_meaning G e = whole_statement (mentioned G e) true e
