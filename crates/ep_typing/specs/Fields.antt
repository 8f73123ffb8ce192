-- Bit-fields: which one a name means, and that it stands in no expression. C11 6.7.2.1 and this project's rules.
use Rattle.std.specs.Prelude.{ℕ, ◌==◌, if◌then◌else◌, List, [], ◌∷◌, slice_get, Option, Some, None, unwrap_or}
use Rattle.std.specs.Prelude.{option_map, option_and_then, Result, Ok, Err}
use Rattle.ep_ast.specs.Kind as kinds
use Rattle.ep_layout.specs.Table.{Table, MemberRow, members_of}
use Rattle.ep_core.specs.Program as core
use Rattle.ep_typing.specs.Results.{◌>>=◌}
use Rattle.ep_typing.specs.Types.{is_aggregate, number_in}
use Rattle.ep_typing.specs.declared.types.FieldRow.{FieldRow}
use Rattle.ep_typing.specs.Env.{Env, NamedFields, entry}
use Rattle.ep_typing.specs.Operand.{Operand, place, value, function, value_of}
use Rattle.ep_typing.specs.Parts.{pointed, selected}

-- the bit-fields of an aggregate, where it has some
abbrev pub fields_of : List (ℕ × NamedFields) → (aggregate : ℕ) → Option NamedFields
fields_of [] a = None
fields_of (x ∷ xs) a = if x.0 == a then Some x.1 else fields_of xs a

-- these are the bit-fields of an aggregate from here on
abbrev pub with_fields_of : List (ℕ × NamedFields) → (aggregate : ℕ) → NamedFields → List (ℕ × NamedFields)
with_fields_of [] a ns = (a, ns) ∷ []
with_fields_of (x ∷ xs) a ns = if x.0 == a then (a, ns) ∷ xs else x ∷ with_fields_of xs a ns

-- the bit-field of a name in an aggregate
abbrev pub field_named : List (ℕ × NamedFields) → (aggregate : ℕ) → (name : List ℕ) → Option FieldRow
field_named fs a n = option_and_then (entry n) (fields_of fs a)

abbrev pub unit_offset : Table → (aggregate : ℕ) → FieldRow → ℕ
unit_offset t a f = unwrap_or (option_map (λ (m : MemberRow). m.offset) (slice_get (members_of t a) f.unit)) 0

-- an aggregate's bit-field, with the place of its unit
abbrev pub field_at : Table → core.Place → (aggregate : ℕ) → FieldRow → core.Place × FieldRow
field_at t p a f = (core.member p (unit_offset t a f), f)

unfoldable pub field_in : Env → Operand → (name : List ℕ) → Option (core.Place × FieldRow)
field_in G (place p c) n =
    if is_aggregate c
    then option_map (field_at G.types p (number_in c.base)) (field_named G.fields (number_in c.base) n)
    else None
field_in G (value v) n = None
field_in G (function f) n = None

-- a bit-field stops whatever else would be
abbrev pub but_field : {A B : Type 0} → Option A → Result B ℕ → Result B ℕ
but_field None r = r
but_field (Some f) r = Err kinds.bit_field_place

-- A member that is no bit-field. bit_field_place: a bit-field is read and written by whole statements alone (this
-- project's rule).
unfoldable pub selected_in : Env → Operand → (name : List ℕ) → Result Operand ℕ
selected_in G x n = but_field (field_in G x n) (selected G.types x n)

-- the object that a pointer points to
abbrev pub pointed_by : Env → Operand → Result Operand ℕ
pointed_by G x = value_of G.types x >>= pointed

-- through a pointer (C11 6.5.2.3p2)
unfoldable pub selected_behind : Env → Operand → (name : List ℕ) → Result Operand ℕ
selected_behind G x n = do
  y ← pointed_by G x
  selected_in G y n

-- what is found in what another part comes to
abbrev pub found_in : {A B E : Type 0} → Result A E → (A → Option B) → Option B
found_in (Ok x) f = f x
found_in (Err e) f = None
