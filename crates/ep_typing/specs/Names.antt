-- Type words and type names: C11 6.7.2, 6.7.2.3 and 6.7.7.
use Rattle.std.specs.Prelude.{ℕ, ◌==◌, Bool, true, false, if◌then◌else◌, List, [], ◌∷◌, length, find, Option, Some}
use Rattle.std.specs.Prelude.{None, codes, Result, Ok, Err}
use Rattle.std.specs.List.{list_any}
use Rattle.ep_ast.specs.Kind as kinds
use Rattle.ep_int.specs.declared.types.IntType.{IntType}
use Rattle.ep_int.specs.declared.types.IntType.TheVariants.{I8, U8, I16, U16, I32, U32, I64, U64}
use Rattle.ep_int.specs.declared.types.Model.{Model}
use Rattle.ep_ast.specs.declared.refusals.Refusal.{Refusal}
use Rattle.ep_ast.specs.Expression as source
use Rattle.ep_ast.specs.Expression.{TypeWord, TypeName}
use Rattle.ep_ast.specs.Mark.{union_word, unsigned_word, void_word}
use Rattle.ep_ast.specs.TypeWords.{all_joined, no_bag}
use Rattle.ep_layout.specs.Table.{is_union}
use Rattle.ep_layout.specs.SameTypes.{is_same_sign}
use Rattle.ep_typing.specs.declared.types.Base.TheVariants as bases
use Rattle.ep_typing.specs.declared.types.CType.{CType}
use Rattle.ep_typing.specs.Results.{◌>>=◌, at}
use Rattle.ep_typing.specs.Types.{int_type, long_type, size_type, void_type, whole, with_c_type, with_stars}
use Rattle.ep_typing.specs.Env.{Env, Meaning, variable, function, type_name, entry, look_up, look_up_tag, with_tag}

-- the names that are types without a declaration (C11 7.20.1.1 and 7.19)
abbrev pub built_in_types : Model → List (List ℕ × IntType)
built_in_types m =
    (codes "int8_t", I8) ∷ (codes "int16_t", I16) ∷ (codes "int32_t", I32) ∷ (codes "int64_t", I64)
    ∷ (codes "uint8_t", U8) ∷ (codes "uint16_t", U16) ∷ (codes "uint32_t", U32) ∷ (codes "uint64_t", U64)
    ∷ (codes "size_t", size_type m) ∷ []

-- ---- words

abbrev pub is_unsigned : TypeWord → Bool
is_unsigned (source.word l c) = c == unsigned_word
is_unsigned (source.typedef_name l t) = false
is_unsigned (source.tagged l c t) = false

-- a word that is a type by itself
abbrev pub is_whole : TypeWord → Bool
is_whole (source.word l c) = c == void_word
is_whole (source.typedef_name l t) = true
is_whole (source.tagged l c t) = true

-- the integer type of words in any order; plain `char` is signed (C11 6.7.2p2, and this project's data models)
abbrev pub integer_of : Model → List TypeWord → IntType
integer_of m ws =
    let b = all_joined no_bag ws in
    let u = list_any is_unsigned ws in
    if b.chars == 1 then (if u then U8 else I8)
    else if b.shorts == 1 then (if u then U16 else I16)
    else if b.longs == 2 then (if u then U64 else I64)
    else if b.longs == 1 then long_type m u
    else if u then U32
    else I32

-- the type of a typedef name; a typedef has to come before its uses (C11 6.7.8)
abbrev pub meant_type : Option Meaning → Option IntType → Result CType ℕ
meant_type (Some (variable b c)) o = Err kinds.unknown_name
meant_type (Some (function n)) o = Err kinds.unknown_name
meant_type (Some (type_name c)) o = Ok c
meant_type None (Some t) = Ok (int_type t)
meant_type None None = Err kinds.unknown_name

-- the aggregate of a tag, which was declared with the same word (C11 6.7.2.3p3)
abbrev pub meant_tag : Env → (with_union : Bool) → Option ℕ → Result CType ℕ
meant_tag G u (Some a) =
    if is_same_sign (is_union G.types a) u then Ok (whole (bases.Aggregate a)) else Err kinds.redeclared
meant_tag G u None = Err kinds.unknown_name

abbrev pub of_whole : Env → List TypeWord → Option TypeWord → Result CType Refusal
of_whole G ws None = Ok (int_type (integer_of G.types.model ws))
of_whole G ws (Some (source.word l c)) = Ok void_type
of_whole G ws (Some (source.typedef_name l t)) =
    at l (meant_type (look_up t G.scopes) (entry t (built_in_types G.types.model)))
of_whole G ws (Some (source.tagged l c t)) = at l (meant_tag G (c == union_word) (look_up_tag t G.scopes))

-- the type of words; `const` has no effect (this project's rule)
unfoldable pub words_type : Env → List TypeWord → Result CType Refusal
words_type G ws = of_whole G ws (find is_whole ws)

-- the type of a type name
unfoldable pub named_type : Env → TypeName → Result CType Refusal
named_type G n = do
  c ← words_type G n.words
  Ok (with_stars c (length n.stars))

-- ---- mentions

abbrev pub mentioned_tag : Env → List ℕ → (with_union : Bool) → Option ℕ → Env
mentioned_tag G t u None = with_tag G t u
mentioned_tag G t u (Some a) = G

-- A tag that no scope has is declared in the innermost one where it is mentioned (C11 6.7.2.3p8).
abbrev pub mentioned_word : Env → TypeWord → Env
mentioned_word G (source.word l c) = G
mentioned_word G (source.typedef_name l t) = G
mentioned_word G (source.tagged l c t) = mentioned_tag G t (c == union_word) (look_up_tag t G.scopes)

abbrev pub mentioned_words : Env → List TypeWord → Env
mentioned_words G [] = G
mentioned_words G (w ∷ ws) = mentioned_words (mentioned_word G w) ws

abbrev pub with_type_of : Env → Result CType Refusal → Env
with_type_of G (Ok c) = record G { types = with_c_type G.types c }
with_type_of G (Err r) = G

-- A type name declares its tags, and its type comes into the table.
unfoldable pub mentioned_name : Env → TypeName → Env
mentioned_name G n = let H = mentioned_words G n.words in with_type_of H (named_type H n)

-- What an expression declares: the tags and types that its type names mention, in the order of the text.
unfoldable mutual
  pub mentioned : Env → source.Expr → Env
  mentioned G (source.assign l m a b) = mentioned (mentioned G a) b
  mentioned G (source.conditional l a b c) = mentioned (mentioned (mentioned G a) b) c
  mentioned G (source.binary l m a b) = mentioned (mentioned G a) b
  mentioned G (source.cast l n a) = mentioned (mentioned_name G n) a
  mentioned G (source.step l m a) = mentioned G a
  mentioned G (source.unary l m a) = mentioned G a
  mentioned G (source.sizeof_expr l a) = mentioned G a
  mentioned G (source.sizeof_type l n) = mentioned_name G n
  mentioned G (source.index l a b) = mentioned (mentioned G a) b
  mentioned G (source.call l f es) = mentioned_all (mentioned G f) es
  mentioned G (source.member l a n) = mentioned G a
  mentioned G (source.arrow l a n) = mentioned G a
  mentioned G (source.post_increment l a) = mentioned G a
  mentioned G (source.post_decrement l a) = mentioned G a
  mentioned G (source.id l t) = G
  mentioned G (source.number l n) = G

  pub mentioned_all : Env → source.Exprs → Env
  mentioned_all G source.no_exprs = G
  mentioned_all G (source.more_exprs e es) = mentioned_all (mentioned G e) es
