-- What the readers of declarators and parameters answer.
use Rattle.std.specs.Prelude.{◌≡◌, ℕ, Bool, false, ◌&&◌, ◌==◌, ◌<◌, not, List, ◌∷◌, length, map, Option, Some, None}
use Rattle.std.specs.Global.{Vec}
use Rattle.std.specs.Option.{option_map}
use Rattle.std.specs.Borrow.{Bor}
use Rattle.ep_ast.specs.Token.{Tok, name, mark}
use Rattle.ep_ast.specs.Mark.{colon}
use Rattle.ep_ast.specs.declared.declarations.DeclaratorTree.{DeclaratorTree}
use Rattle.ep_ast.specs.declared.declarations.InitTree.{InitTree}
use Rattle.ep_ast.specs.declared.declarations.MemberFieldTree.{MemberFieldTree}
use Rattle.ep_ast.specs.Declaration.{Declarator, MemberField, Init, Params, declarator, member_field, init_of}
use Rattle.ep_ast.specs.Declaration.{params_of}
use Rattle.ep_ast.specs.DeclarationGrammar.{are_named}
use Rattle.ep_ast.specs.ProgramGrammar.{Typedefs}
use Rattle.ep_ast.specs.Depth.{in_declarator, in_field, in_init, in_params}
use Rattle.ep_lexer.specs.Tokens.{view}
use Rattle.ep_reading.specs.declared.measured.Measured.{Measured}
use Rattle.ep_reading.specs.Measured.{Shows, ShowsAll}
use Rattle.ep_declarations.specs.declared.declarators.Named.{Named}
use Rattle.ep_declarations.specs.declared.fields.BitsOpening.{BitsOpening}
use Rattle.ep_declarations.specs.declared.parameters.ParameterList.{ParameterList}

abbrev pub ShowsDeclarator : Measured DeclaratorTree → Declarator → Type 0
ShowsDeclarator k d = Shows declarator in_declarator k d

abbrev pub ShowsDeclarators : Measured (Vec DeclaratorTree) → List Declarator → Type 0
ShowsDeclarators k ds = ShowsAll declarator in_declarator k ds

abbrev pub ShowsField : Measured MemberFieldTree → MemberField → Type 0
ShowsField k f = Shows member_field in_field k f

abbrev pub ShowsFields : Measured (Vec MemberFieldTree) → List MemberField → Type 0
ShowsFields k fs = ShowsAll member_field in_field k fs

abbrev pub ShowsInits : Measured (Vec InitTree) → List Init → Type 0
ShowsInits k is = ShowsAll init_of in_init k is

abbrev pub ShowsNamed : Named → Declarator → Type 0
ShowsNamed n d = (n.name.now ≡ d.name) × ShowsDeclarator n.tree d

abbrev pub ShowsParameters : ParameterList → Option Params → Type 0
ShowsParameters p ps = Shows (option_map params_of) in_params p.tree ps × (p.named ≡ are_named ps)

-- names of types, with those that are types after them
abbrev pub NamesTypes : (before : List ℕ → Bool) → List Tok → List Tok → List Declarator × (List ℕ → Bool) → Type 0
NamesTypes before xs ys v = Typedefs before v.1 xs ys v.0

-- their declarators are kept, and these are the names of types behind them
abbrev pub AddsTypes :
    (after : List ℕ → Bool) → Measured (Vec DeclaratorTree) → List Declarator × (List ℕ → Bool) → Type 0
AddsTypes after k v = ShowsDeclarators k v.0 × (v.1 ≡ after)

-- ---- bit-fields

-- the `:` of a bit-field stands here, perhaps behind a name that is no type's
abbrev pub begins_bits : (is_type : List ℕ → Bool) → List Tok → Bool
begins_bits is_type (mark l c ∷ ts) = c == colon
begins_bits is_type (name l text ∷ mark m c ∷ ts) = not (is_type text) && c == colon
begins_bits is_type _ = false

abbrev pub OpensBits :
    (is_type : List ℕ → Bool) → (line : ℕ) → Option (List ℕ) → (inside : List Tok) → List Tok → Type 0
OpensBits is_type l None xs ts = (c : ℕ) × (c ≡ colon) × (ts ≡ mark l c ∷ xs)
OpensBits is_type l (Some text) xs ts =
    (m c : ℕ) × (is_type text ≡ false) × (c ≡ colon) × (ts ≡ name l text ∷ mark m c ∷ xs)

abbrev pub field_name : Option (Bor (List ℕ)) → Option (List ℕ)
field_name n = option_map (λ b. b.now) n

abbrev pub AtBits : (is_type : List ℕ → Bool) → List Tok → Option BitsOpening → Type 0
AtBits is_type ts (Some o) = OpensBits is_type o.line (field_name o.name) (map view o.inside.now) ts
AtBits is_type ts None = begins_bits is_type ts ≡ false

abbrev pub IsBitsPast : ℕ → BitsOpening → Type 0
IsBitsPast n o = length o.inside.now < n
