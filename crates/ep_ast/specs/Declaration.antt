-- The trees of declarations, without where they lie in memory: C11 6.7.
use Rattle.std.specs.Prelude.{ℕ, List, [], ◌∷◌, map, Option}
use Rattle.std.specs.Global.{Vec}
use Rattle.std.specs.Option.{option_map}
use Rattle.ep_ast.specs.declared.declarations.DeclaratorTree.{DeclaratorTree}
use Rattle.ep_ast.specs.declared.declarations.MemberFieldTree.{MemberFieldTree}
use Rattle.ep_ast.specs.declared.declarations.MemberFieldTree.TheVariants as fields
use Rattle.ep_ast.specs.declared.declarations.SpecTree.{SpecTree, Plain, Body', Row_of-MemberTree, end_of-MemberTree}
use Rattle.ep_ast.specs.declared.declarations.SpecTree.{more_of-MemberTree}
use Rattle.ep_ast.specs.declared.declarations.AggregateTree.{AggregateTree}
use Rattle.ep_ast.specs.declared.declarations.MemberTree.{MemberTree, Row_of-SpecTree, end_of-SpecTree}
use Rattle.ep_ast.specs.declared.declarations.MemberTree.{more_of-SpecTree}
use Rattle.ep_ast.specs.declared.declarations.ValueTree.{ValueTree, Expr, List', Row_of-ValueTree, end_of-ValueTree}
use Rattle.ep_ast.specs.declared.declarations.ValueTree.{more_of-ValueTree}
use Rattle.ep_ast.specs.declared.declarations.InitTree.{InitTree}
use Rattle.ep_ast.specs.declared.declarations.DeclarationTree.{DeclarationTree}
use Rattle.ep_ast.specs.declared.declarations.TypedefTree.{TypedefTree}
use Rattle.ep_ast.specs.declared.declarations.ParamTree.{ParamTree}
use Rattle.ep_ast.specs.declared.declarations.ParamsTree.{ParamsTree}
use Rattle.ep_ast.specs.declared.declarations.ParamsTree.TheVariants as params
use Rattle.ep_ast.specs.declared.declarations.HeadTree.{HeadTree}
use Rattle.ep_ast.specs.Expression as expressions
use Rattle.ep_ast.specs.Mark.{word_number}
use Rattle.ep_ast.specs.Expression.{TypeWord, type_word, expr}

-- a name with its derivations; `bounds` has each pair of `[ ]`
pub record Declarator : Type 0 where
  pub line : ℕ
  pub stars : List ℕ
  pub name : List ℕ
  pub bounds : List (Option expressions.Expr)

abbrev pub declarator : DeclaratorTree → Declarator
declarator d = record {
  line = d.line;
  stars = d.stars.items;
  name = d.name.items;
  bounds = map (option_map expr) d.bounds.items;
}

abbrev pub text_of : Vec ℕ → List ℕ
text_of v = v.items

-- a member's name with its derivations, or a bit-field: perhaps a name, and its width (C11 6.7.2.1)
pub data MemberField : Type 0 where
  whole : Declarator → MemberField
  bits : (line : ℕ) (name : Option (List ℕ)) (width : expressions.Expr) → MemberField

abbrev pub member_field : MemberFieldTree → MemberField
member_field (fields.Whole d) = whole (declarator d)
member_field (fields.Bits l n e) = bits l (option_map text_of n) (expr e)

mutual
  -- a type word, or a `struct` or `union` with its members
  pub data Spec : Type 0 where
    plain : TypeWord → Spec
    body : Aggregate → Spec

  pub data Specs : Type 0 where
    no_specs : Specs
    more_specs : Spec → Specs → Specs

  pub data Aggregate : Type 0 where
    aggregate : (line code : ℕ) (tag : Option (List ℕ)) (members : Members) → Aggregate

  pub data Member : Type 0 where
    member : (line : ℕ) (specs : Specs) (fields : List MemberField) → Member

  pub data Members : Type 0 where
    no_members : Members
    more_members : Member → Members → Members

abbrev pub to_specs : List Spec → Specs
to_specs [] = no_specs
to_specs (s ∷ ss) = more_specs s (to_specs ss)

abbrev pub to_members : List Member → Members
to_members [] = no_members
to_members (m ∷ ms) = more_members m (to_members ms)

abbrev mutual
  pub spec_of : SpecTree → Spec
  spec_of (Plain w) = plain (type_word w)
  spec_of (Body' l n t shape ms) = body (aggregate l (word_number n) (option_map text_of t) (members_of ms))

  pub specs_of : {m : _} → Row_of-SpecTree m → Specs
  specs_of end_of-SpecTree = no_specs
  specs_of (more_of-SpecTree s rest) = more_specs (spec_of s) (specs_of rest)

  pub members_of : {m : _} → Row_of-MemberTree m → Members
  members_of end_of-MemberTree = no_members
  members_of (more_of-MemberTree l shape ss fs rest) =
      more_members (member l (specs_of ss) (map member_field fs.items)) (members_of rest)

abbrev pub member_of : MemberTree → Member
member_of m = member m.line (to_specs (map spec_of m.specs.items)) (map member_field m.fields.items)

abbrev pub aggregate_of : AggregateTree → Aggregate
aggregate_of a = aggregate a.line (word_number a.word) (option_map text_of a.tag)
    (to_members (map member_of a.members.items))

-- what an initialiser gives: an expression, or a list in braces
mutual
  pub data Value : Type 0 where
    single : expressions.Expr → Value
    listed : (line : ℕ) (values : Values) → Value

  pub data Values : Type 0 where
    no_values : Values
    more_values : Value → Values → Values

abbrev pub to_values : List Value → Values
to_values [] = no_values
to_values (v ∷ vs) = more_values v (to_values vs)

abbrev mutual
  pub value_of : ValueTree → Value
  value_of (Expr e) = single (expr e)
  value_of (List' l shape vs) = listed l (values_of vs)

  pub values_of : {m : _} → Row_of-ValueTree m → Values
  values_of end_of-ValueTree = no_values
  values_of (more_of-ValueTree v rest) = more_values (value_of v) (values_of rest)

pub record Init : Type 0 where
  pub line : ℕ
  pub declarator : Declarator
  pub value : Option Value

abbrev pub init_of : InitTree → Init
init_of i = record { line = i.line; declarator = declarator i.declarator; value = option_map value_of i.value }

pub record Declaration : Type 0 where
  pub line : ℕ
  pub specs : List Spec
  pub inits : List Init

abbrev pub declaration_of : DeclarationTree → Declaration
declaration_of d = record { line = d.line; specs = map spec_of d.specs.items; inits = map init_of d.inits.items }

pub record Typedef : Type 0 where
  pub line : ℕ
  pub specs : List Spec
  pub declarators : List Declarator

abbrev pub typedef_of : TypedefTree → Typedef
typedef_of t = record {
  line = t.line;
  specs = map spec_of t.specs.items;
  declarators = map declarator t.declarators.items;
}

pub record Param : Type 0 where
  pub line : ℕ
  pub words : List TypeWord
  pub stars : List ℕ
  pub name : Option (List ℕ)
  pub bounds : List (Option expressions.Expr)

abbrev pub param_of : ParamTree → Param
param_of p = record {
  line = p.line;
  words = map type_word p.specs.items;
  stars = p.stars.items;
  name = option_map text_of p.name;
  bounds = map (option_map expr) p.bounds.items;
}

-- what stands between the brackets of a head, where something does
pub data Params : Type 0 where
  void : (line : ℕ) → Params
  some_params : (line : ℕ) (all : List Param) → Params

abbrev pub params_of : ParamsTree → Params
params_of (params.Void l) = void l
params_of (params.List l ps) = some_params l (map param_of ps.items)

pub record Head : Type 0 where
  pub line : ℕ
  pub specs : List Spec
  pub stars : List ℕ
  pub name : List ℕ
  pub params : Option Params

abbrev pub head_of : HeadTree → Head
head_of h = record {
  line = h.line;
  specs = map spec_of h.specs.items;
  stars = h.stars.items;
  name = h.name.items;
  params = option_map params_of h.params;
}
