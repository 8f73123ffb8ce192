-- Type words with the bodies of structs and unions, and what they declare: C11 6.7.2.1 and 6.7.2.3.
use Rattle.std.specs.Prelude.{ℕ, ◌==◌, ◌+◌, ◌-◌, nat_eq, nat_le, ℤ, pos, negsuc, Bool, true, false, ◌&&◌, ◌||◌}
use Rattle.std.specs.Prelude.{not, if◌then◌else◌, List, [], ◌∷◌, ◌++◌, length, map, codes, bytes_eq, Option, Some, None}
use Rattle.std.specs.Prelude.{is_some, option_and_then, Result, Ok, Err}
use Rattle.std.specs.List.{list_any}
use Rattle.ep_ast.specs.Kind as kinds
use Rattle.ep_int.specs.declared.types.IntType.{IntType}
use Rattle.ep_int.specs.declared.types.IntType.TheVariants.{U8}
use Rattle.ep_int.specs.Types.{bits_of}
use Rattle.ep_int.specs.Memory.{contains}
use Rattle.ep_ast.specs.declared.refusals.Refusal.{Refusal}
use Rattle.ep_ast.specs.Expression as source
use Rattle.ep_ast.specs.Expression.{TypeWord}
use Rattle.ep_ast.specs.Declaration.{Declarator, MemberField, bits, Specs, no_specs, more_specs, plain, body, Aggregate}
use Rattle.ep_ast.specs.Declaration.{aggregate, Members, no_members, more_members, member}
use Rattle.ep_ast.specs.Declaration as tree
use Rattle.ep_ast.specs.Mark.{union_word}
use Rattle.ep_layout.specs.declared.types.LayoutStop.{LayoutStop}
use Rattle.ep_layout.specs.SameTypes.{is_same_sign}
use Rattle.ep_layout.specs.Table.{Table, completed_with, declared, is_completed, is_union, members_stop}
use Rattle.ep_bitfield.specs.declared.field.Field.{Field}
use Rattle.ep_bitfield.specs.Bits.{is_unit_type}
use Rattle.ep_bitfield.specs.Units.{packed}
use Rattle.ep_typing.specs.declared.types.Base.TheVariants as bases
use Rattle.ep_typing.specs.declared.types.CType.{CType}
use Rattle.ep_typing.specs.Results.{◌>>=◌, at, needed, on_statement}
use Rattle.ep_typing.specs.Types.{c_type_number, int_of, is_integer, size_of_type, whole, with_c_type, with_stars}
use Rattle.ep_typing.specs.Env.{Env, NamedFields, Scope, entry, with_tag}
use Rattle.ep_typing.specs.Fields.{with_fields_of}
use Rattle.ep_typing.specs.Names.{mentioned, mentioned_words, with_type_of, words_type}
use Rattle.ep_typing.specs.Constant.{constant_of}
use Rattle.ep_typing.specs.Operand.{Value, value_of}
use Rattle.ep_typing.specs.Typing.{typed}
use Rattle.ep_elaboration.specs.Declarators.{arrays_of, bounds, stop_kind, with_types}

-- What a body declares: a member with the number of its type, or a bit-field, perhaps with a name, with the number of
-- its type, that type, and its width.
pub data Entry : Type 0 where
  a_member : (name : List ℕ) → (ty : ℕ) → Entry
  a_field : (name : Option (List ℕ)) → (ty : ℕ) → IntType → (width : ℕ) → Entry

-- what a body declares so far
abbrev pub Named : Type 0
Named = List Entry

-- the names are one
abbrev pub is_named : List ℕ → Entry → Bool
is_named t (a_member n ty) = bytes_eq t n
is_named t (a_field None ty u w) = false
is_named t (a_field (Some n) ty u w) = bytes_eq t n

abbrev pub is_declared : List ℕ → Named → Bool
is_declared t es = list_any (is_named t) es

-- ---- units

-- what an entry is where fields are put into units; a member ends a unit as a field of width 0 does
abbrev pub packed_as : Entry → IntType × ℕ
packed_as (a_member n ty) = (U8, 0)
packed_as (a_field n ty t w) = (t, w)

abbrev pub fields_packed : Named → List Field
fields_packed es = map (λ (p : ℕ × Field). p.1) (packed (map packed_as es))

-- the first field of its unit
abbrev pub begins_unit : Field → Bool
begins_unit f = nat_eq f.used 0 && nat_le 1 f.width

-- a unit is a member of this name, which no source has
abbrev pub unit_name : List ℕ
unit_name = codes ":"

-- the members of a body, units among them
abbrev pub members_with : Named → List Field → List (List ℕ × ℕ)
members_with [] fs = []
members_with (e ∷ es) [] = []
members_with (a_member n ty ∷ es) (f ∷ fs) = (n, ty) ∷ members_with es fs
members_with (a_field n ty t w ∷ es) (f ∷ fs) =
    if begins_unit f then (unit_name, ty) ∷ members_with es fs else members_with es fs

abbrev pub members_in : Named → List (List ℕ × ℕ)
members_in es = members_with es (fields_packed es)

abbrev pub named_field : (unit : ℕ) → Option (List ℕ) → Field → NamedFields
named_field u None f = []
named_field u (Some n) f = (n, record { unit = u; t = f.t; used = f.used; width = f.width }) ∷ []

-- the bit-fields with names, behind so many members; a field that begins no unit lies in the last one
abbrev pub fields_with : (members : ℕ) → Named → List Field → NamedFields
fields_with k [] fs = []
fields_with k (e ∷ es) [] = []
fields_with k (a_member n ty ∷ es) (f ∷ fs) = fields_with (k + 1) es fs
fields_with k (a_field n ty t w ∷ es) (f ∷ fs) =
    if begins_unit f then named_field k n f ++ fields_with (k + 1) es fs
    else named_field (k - 1) n f ++ fields_with k es fs

abbrev pub fields_in : Named → NamedFields
fields_in es = fields_with 0 es (fields_packed es)

abbrev pub is_field_entry : Entry → Bool
is_field_entry (a_member n ty) = false
is_field_entry (a_field n ty t w) = true

-- those of a body, if it has one
abbrev pub with_fields : List (ℕ × NamedFields) → (aggregate : ℕ) → Named → List (ℕ × NamedFields)
with_fields fs a es = if list_any is_field_entry es then with_fields_of fs a (fields_in es) else fs

-- ---- tags

abbrev pub tags_here : List Scope → List (List ℕ × ℕ)
tags_here [] = []
tags_here (s ∷ ss) = s.tags

-- redeclared: a body for a tag whose body is there or not closed yet, or that was mentioned with the other word (C11
-- 6.7.2.3p1 and p3)
abbrev pub has_body : Env → (unclosed : List ℕ) → (with_union : Bool) → ℕ → Bool
has_body G unclosed u a =
    contains a unclosed || is_completed G.types a || not (is_same_sign (is_union G.types a) u)

abbrev pub body_of : Env → (unclosed : List ℕ) → (with_union : Bool) → List ℕ → Option ℕ → Result (ℕ × Env) ℕ
body_of G unclosed u t None = Ok (length G.types.aggregates, with_tag G t u)
body_of G unclosed u t (Some a) = if has_body G unclosed u a then Err kinds.redeclared else Ok (a, G)

-- the aggregate of a body, by its tag, if it has one
unfoldable pub opened : Env → (unclosed : List ℕ) → (with_union : Bool) → Option (List ℕ) → Result (ℕ × Env) ℕ
opened G unclosed u (Some t) = body_of G unclosed u t (entry t (tags_here G.scopes))
opened G unclosed u None = Ok (length G.types.aggregates, record G { types = declared G.types [] u })

-- ---- members

abbrev pub sized_member : Env → Named → List ℕ → CType × Table → Result (Named × Env) ℕ
sized_member G ms t r = do
  n ← needed kinds.incomplete_type (size_of_type r.1 r.0)
  Ok (ms ++ a_member t (c_type_number r.1 r.0) ∷ [], with_types G r.1)

-- at the declarator of a member the lowest of redeclared, incomplete_type and too_large (C11 6.7.2.1p3 and 6.7p3)
unfoldable pub with_member : Env → Named → List ℕ → CType → List ℕ → Result (Named × Env) ℕ
with_member G ms t c ns =
    if is_declared t ms then Err kinds.redeclared else arrays_of G.types c ns >>= sized_member G ms t

unfoldable pub member_declared : Env → Named → CType → Declarator → Result (Named × Env) Refusal
member_declared G ms c d = do
  r ← bounds G d.line d.bounds
  at d.line (with_member r.1 ms d.name (with_stars c (length d.stars)) r.0)

-- ---- bit-fields

-- the types of bit-fields (C11 6.7.2.1p5 and this project's choice)
abbrev pub is_field_type : CType → Bool
is_field_type c = is_integer c && is_unit_type (int_of c)

-- at least 1, or 0 without a name, and no more than the type has bits (C11 6.7.2.1p4)
abbrev pub width_from : IntType → (has_name : Bool) → ℤ → Option ℕ
width_from t has_name (pos n) = if nat_le n (bits_of t) && (nat_le 1 n || not has_name) then Some n else None
width_from t has_name (negsuc n) = None

-- the width is a constant
abbrev pub width_in : IntType → (has_name : Bool) → Result Value ℕ → Option ℕ
width_in t has_name (Ok v) = option_and_then (width_from t has_name) (constant_of v)
width_in t has_name (Err k) = None

abbrev pub is_taken_name : Option (List ℕ) → Named → Bool
is_taken_name None ms = false
is_taken_name (Some n) ms = is_declared n ms

abbrev pub field_added : Env → Named → CType → Option (List ℕ) → (width : ℕ) → Result (Named × Env) ℕ
field_added G ms c n w =
    let t = with_c_type G.types c in
    if is_taken_name n ms then Err kinds.redeclared
    else Ok (ms ++ a_field n (c_type_number t c) (int_of c) w ∷ [], with_types G t)

-- bit_field: of another type, in a union, or of a width that isn't so. redeclared: a name that the body has (C11
-- 6.7.2.1p3 to p5).
unfoldable pub with_field : Env → (in_union : Bool) → Named → CType → Option (List ℕ) → Result Value ℕ
    → Result (Named × Env) ℕ
with_field G in_union ms c n v =
    if in_union || not (is_field_type c) then Err kinds.bit_field
    else needed kinds.bit_field (width_in (int_of c) (is_some n) v) >>= field_added G ms c n

-- the body that is open is a union's
abbrev pub in_union : Env → (unclosed : List ℕ) → Bool
in_union G [] = false
in_union G (a ∷ more) = is_union G.types a

-- a width is an expression of its own
unfoldable pub field_declared : Env → (unclosed : List ℕ) → Named → CType → (line : ℕ) → Option (List ℕ) → source.Expr
    → Result (Named × Env) Refusal
field_declared G unclosed ms c l n e = do
  x ← on_statement l (typed (mentioned G e) e)
  at l (with_field (mentioned G e) (in_union G unclosed) ms c n (value_of (mentioned G e).types x))

unfoldable pub entry_declared : Env → (unclosed : List ℕ) → Named → CType → MemberField → Result (Named × Env) Refusal
entry_declared G unclosed ms c (tree.whole d) = member_declared G ms c d
entry_declared G unclosed ms c (bits l n e) = field_declared G unclosed ms c l n e

unfoldable pub entries_declared : Env → (unclosed : List ℕ) → Named → CType → List MemberField
    → Result (Named × Env) Refusal
entries_declared G unclosed ms c [] = Ok (ms, G)
entries_declared G unclosed ms c (f ∷ fs) = do
  r ← entry_declared G unclosed ms c f
  entries_declared r.1 unclosed r.0 c fs

-- ---- bodies

-- bit_field: all that it declares are bit-fields without name and bits (C11 6.7.2.1p8 and this project's rule).
-- too_large: past 65,536 bytes, at the closing brace, on the line of the word.
abbrev pub closed_with : Env → ℕ → Named → List (List ℕ × ℕ) → Option LayoutStop → Result (CType × Env) ℕ
closed_with G a es [] s = Err kinds.bit_field
closed_with G a es (m ∷ ms) (Some s) = Err (stop_kind s)
closed_with G a es (m ∷ ms) None =
    let H = record G { types = completed_with G.types a (m ∷ ms); fields = with_fields G.fields a es } in
    let c = whole (bases.Aggregate a) in Ok (c, record H { types = with_c_type H.types c })

abbrev pub closed : Env → ℕ → (with_union : Bool) → Named → Result (CType × Env) ℕ
closed G a u es = closed_with G a es (members_in es) (members_stop G.types u (members_in es))

-- the type of words without a body
unfoldable pub words_declared : Env → List TypeWord → Result (CType × Env) Refusal
words_declared G ws = do
  c ← words_type (mentioned_words G ws) ws
  Ok (c, with_type_of (mentioned_words G ws) (Ok c))

-- `unclosed` has the aggregates whose bodies stand round this, and `ws` the words before
unfoldable mutual
  pub specs_declared : Env → (unclosed : List ℕ) → (ws : List TypeWord) → Specs → Result (CType × Env) Refusal
  specs_declared G unclosed ws no_specs = words_declared G ws
  specs_declared G unclosed ws (more_specs (plain w) ss) = specs_declared G unclosed (ws ++ w ∷ []) ss
  specs_declared G unclosed ws (more_specs (body a) ss) = body_declared G unclosed a

  pub body_declared : Env → (unclosed : List ℕ) → Aggregate → Result (CType × Env) Refusal
  body_declared G unclosed (aggregate l c tag ms) = do
    o ← at l (opened G unclosed (c == union_word) tag)
    r ← all_members o.1 (o.0 ∷ unclosed) [] ms
    at l (closed r.1 o.0 (c == union_word) r.0)

  pub all_members : Env → (unclosed : List ℕ) → Named → Members → Result (Named × Env) Refusal
  all_members G unclosed ms no_members = Ok (ms, G)
  all_members G unclosed ms (more_members (member l ss fs) rest) = do
    c ← specs_declared G unclosed [] ss
    r ← entries_declared c.1 unclosed ms c.0 fs
    all_members r.1 unclosed r.0 rest
