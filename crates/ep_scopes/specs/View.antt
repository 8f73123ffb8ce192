-- What the code keeps of names, seen as what the definitions speak of.
use Rattle.std.specs.Prelude.{ℕ, List, [], ◌∷◌, ◌++◌, map, take}
use Rattle.std.specs.Global.{Vec}
use Rattle.ep_core.specs.View.{block_view}
use Rattle.ep_typing.specs.declared.types.CType.{CType}
use Rattle.ep_typing.specs.declared.types.FieldRow.{FieldRow}
use Rattle.ep_typing.specs.Env as rule
use Rattle.ep_scopes.specs.declared.scopes.Meaning.{Meaning}
use Rattle.ep_scopes.specs.declared.scopes.Meaning.TheVariants as meanings
use Rattle.ep_scopes.specs.declared.scopes.Scope.{Scope}
use Rattle.ep_scopes.specs.declared.scopes.Scopes.{Scopes}
use Rattle.ep_scopes.specs.declared.env.FunctionType.{FunctionType}
use Rattle.ep_scopes.specs.declared.fields.FieldNames.{FieldNames}
use Rattle.ep_scopes.specs.declared.fields.Fields.{Fields}
use Rattle.ep_scopes.specs.declared.env.Env.{Env}

abbrev pub meaning : Meaning → rule.Meaning
meaning (meanings.Variable b c) = rule.variable b c
meaning (meanings.Function n) = rule.function n
meaning (meanings.TypeName c) = rule.type_name c

abbrev pub entry : Vec ℕ × Meaning → List ℕ × rule.Meaning
entry e = (e.0.items, meaning e.1)

abbrev pub tag : Vec ℕ × ℕ → List ℕ × ℕ
tag e = (e.0.items, e.1)

abbrev pub scope : Scope → rule.Scope
scope s = record { names = map entry s.names.entries; tags = map tag s.tags.entries }

-- the innermost scope is the last
abbrev pub stacked : List rule.Scope → List Scope → List rule.Scope
stacked G [] = G
stacked G (s ∷ ss) = stacked (scope s ∷ G) ss

abbrev pub scopes : Scopes → List rule.Scope
scopes s = stacked [] s.all.items

abbrev pub signature : Vec ℕ × FunctionType → rule.Signature
signature e = record { name = e.0.items; params = e.1.params.items; result = e.1.result }

-- a function's type: those of its parameters, and its result
abbrev pub function_type : FunctionType → List CType × CType
function_type t = (t.params.items, t.result)

abbrev pub type_of : rule.Signature → List CType × CType
type_of s = (s.params, s.result)

abbrev pub named_field : Vec ℕ × FieldRow → List ℕ × FieldRow
named_field e = (e.0.items, e.1)

abbrev pub named_fields : FieldNames → rule.NamedFields
named_fields n = map named_field n.rows.entries

abbrev pub aggregate_fields : ℕ × FieldNames → ℕ × rule.NamedFields
aggregate_fields e = (e.0, named_fields e.1)

abbrev pub fields : Fields → List (ℕ × rule.NamedFields)
fields f = map aggregate_fields f.all.entries

abbrev pub env : Env → rule.Env
env e = record {
  types = e.types;
  fields = fields e.fields;
  scopes = scopes e.scopes;
  blocks = map block_view e.blocks.items;
  functions = map signature e.functions.entries;
}

-- ---- scopes from inside out

abbrev pub innermost : List rule.Scope → rule.Scope
innermost [] = rule.no_names
innermost (s ∷ ss) = s

abbrev pub outer : List rule.Scope → List rule.Scope
outer [] = []
outer (s ∷ ss) = ss

-- a name more in the innermost scope, if there is one
abbrev pub name_in : List rule.Scope → List ℕ → rule.Meaning → List rule.Scope
name_in [] t m = []
name_in (s ∷ ss) t m = record s { names = s.names ++ (t, m) ∷ [] } ∷ ss

-- a scope with its first names and tags alone
abbrev pub cut : (names tags : ℕ) → rule.Scope → rule.Scope
cut n k s = record { names = take n s.names; tags = take k s.tags }

-- the innermost scope with its first names and tags alone
abbrev pub rewound : (names tags : ℕ) → List rule.Scope → List rule.Scope
rewound n k [] = []
rewound n k (s ∷ ss) = cut n k s ∷ ss

abbrev pub block_of : rule.Meaning → List ℕ
block_of (rule.variable b c) = b ∷ []
block_of (rule.function n) = []
block_of (rule.type_name c) = []

-- the blocks of names
abbrev pub blocks_of : List (List ℕ × rule.Meaning) → List ℕ
blocks_of [] = []
blocks_of (x ∷ xs) = block_of x.1 ++ blocks_of xs

-- ---- functions

-- a function more, whose name no scope has yet
abbrev pub with_function : rule.Env → List ℕ → List CType × CType → rule.Env
with_function G t f =
    record G { functions = G.functions ++ record { name = t; params = f.0; result = f.1 } ∷ [] }
