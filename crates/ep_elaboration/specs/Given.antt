-- First values: an expression, or a list in braces. C11 6.7.9, less lists that leave braces out.
use Rattle.std.specs.Prelude.{ℕ, zero, suc, ◌+◌, ◌*◌, ◌==◌, nat_lt, Bool, true, false, ◌&&◌, ◌||◌, not}
use Rattle.std.specs.Prelude.{if◌then◌else◌, List, [], ◌∷◌, ◌++◌, slice_get, Option, Some, None, option_map, unwrap_or}
use Rattle.std.specs.Prelude.{is_some, Result, Ok, Err, ℤ, pos}
use Rattle.ep_ast.specs.Kind as kinds
use Rattle.ep_int.specs.declared.types.IntType.TheVariants.{I32}
use Rattle.ep_int.specs.Types.{wrapped}
use Rattle.ep_ast.specs.declared.refusals.Refusal.{Refusal}
use Rattle.ep_ast.specs.Mark as mark
use Rattle.ep_ast.specs.Expression as source
use Rattle.ep_ast.specs.Declaration as tree
use Rattle.ep_ast.specs.Declaration.{single, listed, Values, no_values, more_values}
use Rattle.ep_layout.specs.Table.{Table, MemberRow, is_union, members_of}
use Rattle.ep_core.specs.Program as core
use Rattle.ep_typing.specs.Results.{◌>>=◌, at, needed}
use Rattle.ep_typing.specs.Types.{bound_of, c_type_number, element_of, int_of, is_aggregate, is_array, is_pointer}
use Rattle.ep_typing.specs.Types.{number_in, size_of_type, type_of}
use Rattle.ep_typing.specs.declared.types.CType.{CType}
use Rattle.ep_typing.specs.Env.{Env}
use Rattle.ep_typing.specs.Fields.{fields_of}
use Rattle.ep_typing.specs.Names.{mentioned}
use Rattle.ep_typing.specs.Constant.{constant_of}
use Rattle.ep_typing.specs.Operand as operands
use Rattle.ep_typing.specs.Operand.{Value, value_of}
use Rattle.ep_typing.specs.Typing.{Right, an_object, a_result, assigned_from, right_side, typed}
use Rattle.ep_elaboration.specs.Declarators.{Object}

-- what first values come to: statements that store them, and of a global the numbers that its bytes begin with
pub record Given : Type 0 where
  pub statements : List core.What
  pub values : List core.Init

abbrev pub nothing_given : Given
nothing_given = record { statements = []; values = [] }

abbrev pub one_given : core.What → Given
one_given w = record { statements = w ∷ []; values = [] }

abbrev pub both_given : Given → Given → Given
both_given a b = record { statements = a.statements ++ b.statements; values = a.values ++ b.values }

-- ---- parts of an object

abbrev pub element_at : Table → Object → ℕ → Option Object
element_at t x i =
    let unit = unwrap_or (size_of_type t (element_of t x.ty)) 0 in
    if nat_lt i (bound_of t x.ty) then Some (record {
      place = core.element x.place (bound_of t x.ty) unit (core.const I32 (pos i));
      block = x.block;
      offset = x.offset + i * unit;
      ty = element_of t x.ty;
    }) else None

abbrev pub member_object : Table → Object → MemberRow → Object
member_object t x m = record {
  place = core.member x.place m.offset;
  block = x.block;
  offset = x.offset + m.offset;
  ty = type_of t m.ty;
}

-- the members that a list gives values: of a union the first one (C11 6.7.9p17)
abbrev pub first_member : List MemberRow → List MemberRow
first_member [] = []
first_member (m ∷ ms) = m ∷ []

abbrev pub given_members : Table → ℕ → List MemberRow
given_members t a = if is_union t a then first_member (members_of t a) else members_of t a

-- the part that the value of this number in a list is for
abbrev pub part_at : Table → Object → ℕ → Option Object
part_at t x i =
    if is_array x.ty then element_at t x i
    else option_map (member_object t x) (slice_get (given_members t (number_in x.ty.base)) i)

-- ---- constants

-- not_constant: no constant. A pointer begins as null alone (C11 6.7.9p4 and this project's rule).
abbrev pub constant_value : Object → Value → Result (List core.Init) ℕ
constant_value x v =
    if is_pointer x.ty then (if v.is_null then Ok [] else Err kinds.not_constant)
    else needed kinds.not_constant (option_map (λ (n : ℤ). record {
      block = x.block;
      offset = x.offset;
      t = int_of x.ty;
      value = wrapped (int_of x.ty) n;
    } ∷ []) (constant_of v))

abbrev pub constant_given : Table → Object → Right → Result (List core.Init) ℕ
constant_given t x (a_result f) = Err kinds.not_constant
constant_given t x (an_object y) = value_of t y >>= constant_value x

-- of what isn't global no constant is asked
unfoldable pub first_values : (global : Bool) → Table → Object → Right → Result (List core.Init) ℕ
first_values false t x r = Ok []
first_values true t x r = constant_given t x r

-- ---- an expression

abbrev pub object_operand : Object → operands.Operand
object_operand x = operands.place x.place x.ty

-- It is assigned, in this environment, which has what it mentions; a call only where the whole initialiser is one.
unfoldable pub expression_given : Env → (global may_call : Bool) → ℕ → Option Object → source.Expr
    → Result Given Refusal
expression_given G global may_call l (Some x) e = do
  r ← right_side G may_call e
  w ← at l (assigned_from G.types mark.equal (object_operand x) (object_operand x) r)
  vs ← at l (first_values global G.types x r)
  Ok (record { statements = w ∷ []; values = vs })
expression_given G global may_call l None e = do
  y ← typed G e
  at l (Err kinds.type_mismatch)

-- ---- lists

-- type_mismatch: a list for what has no parts, or that is one value too many
abbrev pub with_parts : Option Object → Result Object ℕ
with_parts None = Err kinds.type_mismatch
with_parts (Some x) = if is_array x.ty || is_aggregate x.ty then Ok x else Err kinds.type_mismatch

-- an aggregate with a bit-field
abbrev pub has_fields : Env → CType → Bool
has_fields G c = is_aggregate c && is_some (fields_of G.fields (number_in c.base))

-- `{0}`
abbrev pub is_zero : tree.Value → Bool
is_zero (single (source.number l n)) = n.value == 0
is_zero v = false

abbrev pub is_zero_alone : Values → Bool
is_zero_alone no_values = false
is_zero_alone (more_values v no_values) = is_zero v
is_zero_alone (more_values v (more_values u vs)) = false

-- bit_field_place: a list other than `{0}` for an aggregate with a bit-field (this project's rule)
unfoldable pub with_list : Env → Option Object → Values → Result Object ℕ
with_list G o vs = do
  x ← with_parts o
  if has_fields G x.ty && not (is_zero_alone vs) then Err kinds.bit_field_place else Ok x

abbrev pub line_of_value : tree.Value → ℕ
line_of_value (single e) = source.line_of e
line_of_value (listed l vs) = l

-- What breaks a rule is named on this line: of the initialiser itself that of the declared name, of a value in a list
-- its own.
unfoldable mutual
  pub value_given : Env → (global may_call : Bool) → ℕ → Option Object → tree.Value → Result (Given × Env) Refusal
  value_given G global may_call l x (single e) = do
    g ← expression_given (mentioned G e) global may_call l x e
    Ok (g, mentioned G e)
  value_given G global may_call l x (listed k vs) = do
    y ← at l (with_list G x vs)
    all_given G global y 0 vs

  -- values from this number on
  pub all_given : Env → (global : Bool) → Object → ℕ → Values → Result (Given × Env) Refusal
  all_given G global x i no_values = Ok (nothing_given, G)
  all_given G global x i (more_values v vs) = do
    r ← value_given G global false (line_of_value v) (part_at G.types x i) v
    q ← all_given r.1 global x (suc i) vs
    Ok (both_given r.0 q.0, q.1)

-- how many values a list has, if it is one
abbrev pub count_values : Values → ℕ
count_values no_values = zero
count_values (more_values v vs) = suc (count_values vs)

abbrev pub count_listed : Option tree.Value → Option ℕ
count_listed None = None
count_listed (Some (single e)) = None
count_listed (Some (listed l vs)) = Some (count_values vs)

-- a list first clears the whole object, and then stores each value (C11 6.7.9p19 and p21)
abbrev pub cleared : Table → Object → tree.Value → Given → Given
cleared t x (single e) g = g
cleared t x (listed l vs) g = record g {
  statements = core.simple (core.clear x.place (c_type_number t x.ty)) ∷ g.statements;
}
