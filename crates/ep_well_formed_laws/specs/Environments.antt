-- Environments in which all that they name is there.
use Rattle.std.specs.Prelude.{◌≡◌, ◌⊎◌, ℕ, ◌<◌, true, ◌||◌, List, [], ◌∷◌, length, slice_get, Some}
use Rattle.ep_int.specs.Memory.{contains}
use Rattle.ep_layout.specs.declared.types.Ty.TheVariants as rows
use Rattle.ep_layout.specs.Table.{Table, MemberRow, is_completed, members_of}
use Rattle.ep_core.specs.Program.{Block}
use Rattle.ep_core.specs.Runs.{is_global}
use Rattle.ep_core.specs.WellFormed.{block_fits}
use Rattle.ep_bitfield.specs.Bits.{is_field}
use Rattle.ep_typing.specs.declared.types.CType.{CType}
use Rattle.ep_typing.specs.declared.types.FieldRow.{FieldRow}
use Rattle.ep_typing.specs.Types.{is_scalar, void_type}
use Rattle.ep_typing.specs.Env.{Env, Meaning, variable, function, type_name, NamedFields, Scope, Signature}
use Rattle.ep_elaboration.specs.FieldStatements.{part_of_unit}
use Rattle.ep_well_formed_laws.specs.Numbers.{HasNumber, IsTable, type_number}

-- ---- of each name and tag in scope

abbrev pub EachName : (Meaning → Type 0) → List (List ℕ × Meaning) → Type 0
EachName P [] = Unit {0}
EachName P (x ∷ xs) = P x.1 × EachName P xs

abbrev pub EachMeaning : (Meaning → Type 0) → List Scope → Type 0
EachMeaning P [] = Unit {0}
EachMeaning P (s ∷ ss) = EachName P s.names × EachMeaning P ss

abbrev pub EachOf : (ℕ → Type 0) → List (List ℕ × ℕ) → Type 0
EachOf P [] = Unit {0}
EachOf P (x ∷ xs) = P x.1 × EachOf P xs

abbrev pub EachTag : (ℕ → Type 0) → List Scope → Type 0
EachTag P [] = Unit {0}
EachTag P (s ∷ ss) = EachOf P s.tags × EachTag P ss

-- ---- what they name is there

-- a variable's type is in the table
abbrev pub IsTyped : Table → Meaning → Type 0
IsTyped t (variable b c) = HasNumber t c
IsTyped t (function n) = Unit {0}
IsTyped t (type_name c) = HasNumber t c

-- a variable's block has its type, and a function was declared
abbrev pub IsPlaced : Table → List Block → List Signature → Meaning → Type 0
IsPlaced t bs fs (variable b c) = (x : Block) × (slice_get bs b ≡ Some x) × (type_number t c ≡ Some x.ty)
IsPlaced t bs fs (function n) = (s : Signature) × (slice_get fs n ≡ Some s)
IsPlaced t bs fs (type_name c) = Unit {0}

-- a variable's block is global, or one of these
abbrev pub CanName : List Block → (seen : List ℕ) → Meaning → Type 0
CanName bs seen (variable b c) = (is_global (slice_get bs b) || contains b seen) ≡ true
CanName bs seen (function n) = Unit {0}
CanName bs seen (type_name c) = Unit {0}

-- a scalar type that is in the table
abbrev pub IsPassed : Table → CType → Type 0
IsPassed t c = (is_scalar c ≡ true) × HasNumber t c

abbrev pub ArePassed : Table → List CType → Type 0
ArePassed t [] = Unit {0}
ArePassed t (c ∷ cs) = IsPassed t c × ArePassed t cs

pub record IsSignature (t : Table) (s : Signature) : Type 0 where
  pub params : ArePassed t s.params
  pub result : (s.result ≡ void_type) ⊎ IsPassed t s.result

-- a bit-field's unit is a member of the field's type, which has room for it
pub record IsFieldOf (t : Table) (aggregate : ℕ) (f : FieldRow) : Type 0 where
  pub member : MemberRow
  pub here : slice_get (members_of t aggregate) f.unit ≡ Some member
  pub integer : slice_get t.types member.ty ≡ Some (rows.Int f.t)
  pub room : is_field (part_of_unit f) ≡ true

abbrev pub AreFieldsOf : Table → (aggregate : ℕ) → NamedFields → Type 0
AreFieldsOf t a [] = Unit {0}
AreFieldsOf t a (x ∷ xs) = IsFieldOf t a x.1 × AreFieldsOf t a xs

-- an aggregate has its members, among which are the units of its bit-fields (C11 6.7.2.1p9: a bit-field is a member)
pub record IsFieldsOf (t : Table) (aggregate : ℕ) (fields : NamedFields) : Type 0 where
  pub completed : is_completed t aggregate ≡ true
  pub units : AreFieldsOf t aggregate fields

abbrev pub AreFields : Table → List (ℕ × NamedFields) → Type 0
AreFields t [] = Unit {0}
AreFields t (x ∷ xs) = IsFieldsOf t x.0 x.1 × AreFields t xs

-- types, bit-fields, tags and functions of an environment
pub record IsDeclared (G : Env) : Type 0 where
  pub table : IsTable G.types
  pub fields : AreFields G.types G.fields
  pub names : EachMeaning (IsTyped G.types) G.scopes
  pub tags : EachTag (λ a. a < length G.types.aggregates) G.scopes
  pub functions : (n : ℕ) (s : Signature) → slice_get G.functions n ≡ Some s → IsSignature G.types s

-- and its objects and the functions that it names
pub record IsEnv (G : Env) : Type 0 where
  pub declared : IsDeclared G
  pub places : EachMeaning (IsPlaced G.types G.blocks G.functions) G.scopes
  pub blocks : (b : ℕ) (x : Block) → slice_get G.blocks b ≡ Some x → block_fits G.types x ≡ true

-- each variable in scope can be named
abbrev pub Covers : (seen : List ℕ) → Env → Type 0
Covers seen G = EachMeaning (CanName G.blocks seen) G.scopes

-- there is a scope
abbrev pub HasScope : Env → Type 0
HasScope G = (s : Scope) × (ss : List Scope) × (G.scopes ≡ s ∷ ss)
