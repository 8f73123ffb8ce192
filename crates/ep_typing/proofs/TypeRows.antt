-- The types of numbers, type words and type names in both data models.
use Rattle.std.proofs.Common.{◌≡◌, ℕ, List, [], ◌∷◌, map, refl, true, false, Bool, Option, Some, None}
use Rattle.std.specs.Prelude.{codes, drop}
use Rattle.ep_int.specs.declared.types.IntType.TheVariants.{I8, U8, I16, U16, I32, U32, I64, U64}
use Rattle.ep_int.specs.declared.types.Model.TheVariants.{Ilp32, Lp64}
use Rattle.ep_ast.specs.declared.expressions.Literal.{Literal}
use Rattle.ep_ast.specs.Mark as mark
use Rattle.ep_ast.specs.Expression as source
use Rattle.ep_ast.specs.Expression.{TypeWord}
use Rattle.ep_layout.specs.declared.types.Ty.{Ty}
use Rattle.ep_layout.specs.declared.types.Ty.TheVariants.{Ptr, Aggregate}
use Rattle.ep_typing.specs.Env.{Env, look_up_tag}
use Rattle.ep_typing.specs.Names.{integer_of, mentioned, mentioned_name, named_type, words_type}
use Rattle.ep_typing.specs.Types.{number_type, with_pointers}
use Rattle.ep_typing.proofs.Around.{around}
use Rattle.ep_typing.proofs.Trees.{binary, cast, id, sizeof_type, type_name}

abbrev numeral : ℕ → (decimal is_unsigned : Bool) → (longs : ℕ) → Literal
numeral n d u k = record { value = n; decimal = d; unsigned = u; longs = k }

-- 1, 2147483648, 0x80000000, 0x100000000, 0x8000000000000000, 1u, 4294967296u, 1l, 0x80000000l, 1ul, 1ll, 1ull
abbrev numerals : List Literal
numerals =
    numeral 1 true false 0 ∷ numeral 2147483648 true false 0 ∷ numeral 2147483648 false false 0
    ∷ numeral 4294967296 false false 0 ∷ numeral 9223372036854775808 false false 0 ∷ numeral 1 true true 0
    ∷ numeral 4294967296 true true 0 ∷ numeral 1 true false 1 ∷ numeral 2147483648 false false 1 ∷ numeral 1 true true 1
    ∷ numeral 1 true false 2 ∷ numeral 1 true true 2 ∷ []

numbers_in_ilp32 : map (number_type Ilp32) numerals
    ≡ I32 ∷ I64 ∷ U32 ∷ I64 ∷ U64 ∷ U32 ∷ U64 ∷ I32 ∷ U32 ∷ U32 ∷ I64 ∷ U64 ∷ []
numbers_in_ilp32 = refl

numbers_in_lp64 : map (number_type Lp64) numerals
    ≡ I32 ∷ I64 ∷ U32 ∷ I64 ∷ U64 ∷ U32 ∷ U64 ∷ I64 ∷ I64 ∷ U64 ∷ I64 ∷ U64 ∷ []
numbers_in_lp64 = refl

abbrev words : List ℕ → List TypeWord
words cs = map (λ c. source.word 1 c) cs

-- char; signed char; unsigned char; short int; unsigned short; int; signed; unsigned; long; int unsigned long;
-- long long; long unsigned long; const int
abbrev word_lists : List (List ℕ)
word_lists =
    (mark.char_word ∷ []) ∷ (mark.signed_word ∷ mark.char_word ∷ []) ∷ (mark.unsigned_word ∷ mark.char_word ∷ [])
    ∷ (mark.short_word ∷ mark.int_word ∷ []) ∷ (mark.unsigned_word ∷ mark.short_word ∷ []) ∷ (mark.int_word ∷ [])
    ∷ (mark.signed_word ∷ []) ∷ (mark.unsigned_word ∷ []) ∷ (mark.long_word ∷ [])
    ∷ (mark.int_word ∷ mark.unsigned_word ∷ mark.long_word ∷ []) ∷ (mark.long_word ∷ mark.long_word ∷ [])
    ∷ (mark.long_word ∷ mark.unsigned_word ∷ mark.long_word ∷ []) ∷ (mark.const_word ∷ mark.int_word ∷ []) ∷ []

words_in_ilp32 : map (λ cs. integer_of Ilp32 (words cs)) word_lists
    ≡ I8 ∷ I8 ∷ U8 ∷ I16 ∷ U16 ∷ I32 ∷ I32 ∷ U32 ∷ I32 ∷ U32 ∷ I64 ∷ U64 ∷ I32 ∷ []
words_in_ilp32 = refl

words_in_lp64 : map (λ cs. integer_of Lp64 (words cs)) word_lists
    ≡ I8 ∷ I8 ∷ U8 ∷ I16 ∷ U16 ∷ I32 ∷ I32 ∷ U32 ∷ I64 ∷ U64 ∷ I64 ∷ U64 ∷ I32 ∷ []
words_in_lp64 = refl

-- ---- mentions

-- the tag z, and the types that came behind the 19 of `around`
abbrev seen : Env → Option ℕ × List Ty
seen G = (look_up_tag (codes "z") G.scopes, drop 19 G.types.types)

-- (struct z *)p
mention_declares : seen (mentioned (around Ilp32)
    (cast (type_name (source.tagged 2 mark.struct_word (codes "z") ∷ []) (0 ∷ [])) (id (codes "p"))))
    ≡ (Some 3, Aggregate 3 ∷ Ptr 19 ∷ [])
unfolding mentioned mentioned_name named_type words_type with_pointers
mention_declares = refl

-- (struct z *)p + sizeof(struct z)
mentioned_once : seen (mentioned (around Ilp32) (binary mark.plus
    (cast (type_name (source.tagged 2 mark.struct_word (codes "z") ∷ []) (0 ∷ [])) (id (codes "p")))
    (sizeof_type (type_name (source.tagged 2 mark.struct_word (codes "z") ∷ []) []))))
    ≡ (Some 3, Aggregate 3 ∷ Ptr 19 ∷ [])
unfolding mentioned mentioned_name named_type words_type with_pointers
mentioned_once = refl

-- (int *)p: an equal type keeps its number
known_types_stay : seen (mentioned (around Ilp32)
    (cast (type_name (source.word 2 mark.int_word ∷ []) (0 ∷ [])) (id (codes "p")))) ≡ (None, [])
unfolding mentioned mentioned_name named_type words_type with_pointers
known_types_stay = refl
