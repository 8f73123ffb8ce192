-- What stands round an expression: names, tags, blocks, functions and types so far. C11 6.2.1 and 6.2.3.
use Rattle.std.specs.Prelude.{ℕ, Bool, if◌then◌else◌, List, [], ◌∷◌, ◌++◌, length, Option, Some, None, bytes_eq}
use Rattle.ep_int.specs.declared.types.Model.{Model}
use Rattle.ep_layout.specs.Table.{Table, declared, empty}
use Rattle.ep_core.specs.Program.{Block}
use Rattle.ep_typing.specs.declared.types.CType.{CType}
use Rattle.ep_typing.specs.declared.types.FieldRow.{FieldRow}

-- what a name means that was declared: functions, variables and typedefs share one space of names
pub data Meaning : Type 0 where
  variable : (block : ℕ) → CType → Meaning
  function : (number : ℕ) → Meaning
  type_name : CType → Meaning

-- one scope: its names and its tags, in the order of their declarations; a tag names an aggregate by its number
pub record Scope : Type 0 where
  pub names : List (List ℕ × Meaning)
  pub tags : List (List ℕ × ℕ)

-- a function that was declared, with the types of its parameters; the result of one without is void
pub record Signature : Type 0 where
  pub name : List ℕ
  pub params : List CType
  pub result : CType

-- the bit-fields of an aggregate that have a name
abbrev pub NamedFields : Type 0
NamedFields = List (List ℕ × FieldRow)

-- The scopes stand from inside out, and the last is the file's. Blocks and functions are numbered as they come. Each
-- aggregate with a bit-field stands among the fields by its number.
pub record Env : Type 0 where
  pub types : Table
  pub fields : List (ℕ × NamedFields)
  pub scopes : List Scope
  pub blocks : List Block
  pub functions : List Signature

abbrev pub no_names : Scope
no_names = record { names = []; tags = [] }

abbrev pub start : Model → Env
start m = record { types = empty m; fields = []; scopes = no_names ∷ []; blocks = []; functions = [] }

-- ---- looking up

-- the entry of a name in a list, the first one where several have it
abbrev pub entry : {A : Type 0} → List ℕ → List (List ℕ × A) → Option A
entry t [] = None
entry t (e ∷ es) = if bytes_eq t e.0 then Some e.1 else entry t es

abbrev pub first_of : {A : Type 0} → Option A → Option A → Option A
first_of (Some x) o = Some x
first_of None o = o

-- an inner scope hides an outer one (C11 6.2.1p4)
abbrev pub look_up : List ℕ → List Scope → Option Meaning
look_up t [] = None
look_up t (s ∷ ss) = first_of (entry t s.names) (look_up t ss)

abbrev pub look_up_tag : List ℕ → List Scope → Option ℕ
look_up_tag t [] = None
look_up_tag t (s ∷ ss) = first_of (entry t s.tags) (look_up_tag t ss)

-- ---- tags

abbrev pub tag_in : List Scope → List ℕ → ℕ → List Scope
tag_in [] t a = []
tag_in (s ∷ ss) t a = record s { tags = s.tags ++ (t, a) ∷ [] } ∷ ss

-- a tag in the innermost scope, for an aggregate that isn't completed yet
abbrev pub with_tag : Env → List ℕ → (is_union : Bool) → Env
with_tag G t is_union = record G {
  types = declared G.types t is_union;
  scopes = tag_in G.scopes t (length G.types.aggregates);
}
