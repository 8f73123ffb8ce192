-- The words of a type without its members, and the stars behind them: C11 6.7.2 and 6.7.7, with this project's table of
-- types.
use Rattle.std.specs.Prelude.{◌≡◌, ℕ, suc, ◌+◌, ◌==◌, nat_le, if◌then◌else◌, Bool, true, false, ◌&&◌, ◌||◌, not, List}
use Rattle.std.specs.Prelude.{[], ◌∷◌}
use Rattle.std.specs.Prelude.{codes}
use Rattle.std.specs.List.{list_any}
use Rattle.std.specs.Str.{bytes_eq}
use Rattle.ep_ast.specs.Token.{Tok, word, name, mark}
use Rattle.ep_ast.specs.Expression as tree
use Rattle.ep_ast.specs.Expression.{TypeWord, TypeName}
use Rattle.ep_ast.specs.Mark.{char_word, const_word, int_word, long_word, short_word, signed_word, struct_word}
use Rattle.ep_ast.specs.Mark.{union_word, unsigned_word, void_word, star, right_paren}

-- the names that are types without a declaration
abbrev pub built_in_types : List (List ℕ)
built_in_types =
    codes "int8_t" ∷ codes "int16_t" ∷ codes "int32_t" ∷ codes "int64_t" ∷ codes "uint8_t" ∷ codes "uint16_t" ∷
    codes "uint32_t" ∷ codes "uint64_t" ∷ codes "size_t" ∷ []

abbrev pub is_built_in_type : List ℕ → Bool
is_built_in_type text = list_any (λ w. bytes_eq w text) built_in_types

-- ---- which words are a type together

-- how many words of each sort stand together: `signed` and `unsigned` are signs, and the last counts `void`, typedef
-- names and tags
pub record Bag : Type 0 where
  pub chars : ℕ
  pub shorts : ℕ
  pub ints : ℕ
  pub longs : ℕ
  pub signs : ℕ
  pub wholes : ℕ

abbrev pub no_bag : Bag
no_bag = record { chars = 0; shorts = 0; ints = 0; longs = 0; signs = 0; wholes = 0 }

abbrev pub with_whole : Bag → Bag
with_whole b = record {
  chars = b.chars;
  shorts = b.shorts;
  ints = b.ints;
  longs = b.longs;
  signs = b.signs;
  wholes = b.wholes + 1;
}

-- one word more, where `const`, `static` and `inline` change nothing
abbrev pub with_word : Bag → ℕ → Bag
with_word b c =
    if c == char_word then record {
      chars = b.chars + 1;
      shorts = b.shorts;
      ints = b.ints;
      longs = b.longs;
      signs = b.signs;
      wholes = b.wholes;
    }
    else if c == short_word then record {
      chars = b.chars;
      shorts = b.shorts + 1;
      ints = b.ints;
      longs = b.longs;
      signs = b.signs;
      wholes = b.wholes;
    }
    else if c == int_word then record {
      chars = b.chars;
      shorts = b.shorts;
      ints = b.ints + 1;
      longs = b.longs;
      signs = b.signs;
      wholes = b.wholes;
    }
    else if c == long_word then record {
      chars = b.chars;
      shorts = b.shorts;
      ints = b.ints;
      longs = b.longs + 1;
      signs = b.signs;
      wholes = b.wholes;
    }
    else if c == signed_word || c == unsigned_word then record {
      chars = b.chars;
      shorts = b.shorts;
      ints = b.ints;
      longs = b.longs;
      signs = b.signs + 1;
      wholes = b.wholes;
    }
    else if c == void_word then with_whole b
    else b

abbrev pub joined : Bag → TypeWord → Bag
joined b (tree.word l c) = with_word b c
joined b (tree.typedef_name l text) = with_whole b
joined b (tree.tagged l c tag) = with_whole b

abbrev pub all_joined : Bag → List TypeWord → Bag
all_joined b [] = b
all_joined b (w ∷ ws) = all_joined (joined b w) ws

abbrev pub is_basic : Bag → Bool
is_basic b = b.chars == 0 && b.shorts == 0 && b.ints == 0 && b.longs == 0 && b.signs == 0

-- `char`, or `short`, or none to two `long`; `int` beside all but `char`
abbrev pub is_integer : Bag → Bool
is_integer b =
    if b.chars == 0 then nat_le b.ints 1 && (if b.shorts == 0 then nat_le b.longs 2 else b.shorts == 1 && b.longs == 0)
    else b.chars == 1 && b.shorts == 0 && b.ints == 0 && b.longs == 0

-- Words that may stand together: one that is a type by itself, or those of an integer with one sign at most.
abbrev pub fits : Bag → Bool
fits b = if b.wholes == 0 then nat_le b.signs 1 && is_integer b else b.wholes == 1 && is_basic b

abbrev pub is_no_bag : Bag → Bool
is_no_bag b = b.wholes == 0 && is_basic b

-- these words, in any order, are a type; `const` alone is none
abbrev pub names_type : List TypeWord → Bool
names_type ws = fits (all_joined no_bag ws) && not (is_no_bag (all_joined no_bag ws))

-- ---- the tokens of a type's name

abbrev pub is_type_word : ℕ → Bool
is_type_word c =
    c == char_word || c == const_word || c == int_word || c == long_word || c == short_word || c == signed_word || c ==
    unsigned_word || c == void_word

abbrev pub is_tag_word : ℕ → Bool
is_tag_word c = c == struct_word || c == union_word

-- The tokens of the first list up to where the second begins are one word of a type, by the names that are types.
pub data OneWord (is_type : List ℕ → Bool) : List Tok → List Tok → TypeWord → Type 0 where
  plain_word : {l c : ℕ} {xs : List Tok} → is_type_word c ≡ true → OneWord is_type (word l c ∷ xs) xs (tree.word l c)
  type_name : {l : ℕ} {text : List ℕ} {xs : List Tok} → is_type text ≡ true
      → OneWord is_type (name l text ∷ xs) xs (tree.typedef_name l text)
  tag : {l c m : ℕ} {text : List ℕ} {xs : List Tok} → is_tag_word c ≡ true
      → OneWord is_type (word l c ∷ name m text ∷ xs) xs (tree.tagged l c text)

-- any number of words
pub data Words (is_type : List ℕ → Bool) : List Tok → List Tok → List TypeWord → Type 0 where
  no_words : {xs : List Tok} → Words is_type xs xs []
  more_words : {xs ys zs : List Tok} {w : TypeWord} {ws : List TypeWord} → OneWord is_type xs ys w
      → Words is_type ys zs ws → Words is_type xs zs (w ∷ ws)

-- the first token is a word of a type
abbrev pub begins_type : (List ℕ → Bool) → List Tok → Bool
begins_type is_type (word l c ∷ ts) = is_type_word c || is_tag_word c
begins_type is_type (name l text ∷ ts) = is_type text
begins_type is_type _ = false

-- words that are a type together, and no more words of a type after them
pub record AreType (is_type : List ℕ → Bool) (xs ys : List Tok) (ws : List TypeWord) : Type 0 where
  pub words : Words is_type xs ys ws
  pub named_type : names_type ws ≡ true
  pub over : begins_type is_type ys ≡ false

-- `const`, this many times
pub data Consts : List Tok → List Tok → ℕ → Type 0 where
  no_consts : {xs : List Tok} → Consts xs xs 0
  one_const : {l c n : ℕ} {xs ys : List Tok} → c ≡ const_word → Consts xs ys n → Consts (word l c ∷ xs) ys (suc n)

-- stars, each with this many `const` after it
pub data Stars : List Tok → List Tok → List ℕ → Type 0 where
  no_stars : {xs : List Tok} → Stars xs xs []
  one_star : {l c n : ℕ} {xs ys zs : List Tok} {ns : List ℕ} → c ≡ star → Consts xs ys n → Stars ys zs ns
      → Stars (mark l c ∷ xs) zs (n ∷ ns)

abbrev pub ends_stars : List Tok → Bool
ends_stars (mark l c ∷ ts) = not (c == star)
ends_stars (word l c ∷ ts) = not (c == const_word)
ends_stars _ = true

-- all the stars, and no more stars or `const` after them
pub record AreStars (xs ys : List Tok) (ns : List ℕ) : Type 0 where
  pub stars : Stars xs ys ns
  pub over : ends_stars ys ≡ true

-- the line of the first word
abbrev pub words_line : List TypeWord → ℕ
words_line [] = 0
words_line (tree.word l c ∷ ws) = l
words_line (tree.typedef_name l text ∷ ws) = l
words_line (tree.tagged l c text ∷ ws) = l

abbrev pub named : List TypeWord → List ℕ → TypeName
named ws ns = record { line = words_line ws; words = ws; stars = ns }

-- the name of a type, from behind an opening parenthesis to behind the closing one
pub data TypeNamed (is_type : List ℕ → Bool) : List Tok → List Tok → TypeName → Type 0 where
  closed : {m d : ℕ} {xs ys zs : List Tok} {ws : List TypeWord} {ns : List ℕ} → d ≡ right_paren
      → AreType is_type xs ys ws → AreStars ys (mark m d ∷ zs) ns → TypeNamed is_type xs zs (named ws ns)
