-- Which words are types together.
use Rattle.std.proofs.Common.{◌≡◌, ℕ, true, false, List, [], ◌∷◌, map, refl}
use Rattle.std.specs.Prelude.{codes}
use Rattle.ep_ast.specs.Expression as tree
use Rattle.ep_ast.specs.Expression.{TypeWord}
use Rattle.ep_ast.specs.Mark.{char_word, const_word, int_word, long_word, short_word, signed_word, struct_word}
use Rattle.ep_ast.specs.Mark.{unsigned_word, void_word}
use Rattle.ep_ast.specs.TypeWords.{names_type}

abbrev words_of : List ℕ → List TypeWord
words_of cs = map (tree.word 1) cs

void : names_type (words_of (void_word ∷ [])) ≡ true
void = refl

char : names_type (words_of (char_word ∷ [])) ≡ true
char = refl

signed_char : names_type (words_of (signed_word ∷ char_word ∷ [])) ≡ true
signed_char = refl

unsigned_char : names_type (words_of (unsigned_word ∷ char_word ∷ [])) ≡ true
unsigned_char = refl

char_signed : names_type (words_of (char_word ∷ signed_word ∷ [])) ≡ true
char_signed = refl

short : names_type (words_of (short_word ∷ [])) ≡ true
short = refl

short_int : names_type (words_of (short_word ∷ int_word ∷ [])) ≡ true
short_int = refl

long : names_type (words_of (long_word ∷ [])) ≡ true
long = refl

long_int : names_type (words_of (long_word ∷ int_word ∷ [])) ≡ true
long_int = refl

long_long : names_type (words_of (long_word ∷ long_word ∷ [])) ≡ true
long_long = refl

long_long_int : names_type (words_of (long_word ∷ long_word ∷ int_word ∷ [])) ≡ true
long_long_int = refl

int : names_type (words_of (int_word ∷ [])) ≡ true
int = refl

signed_short : names_type (words_of (signed_word ∷ short_word ∷ [])) ≡ true
signed_short = refl

signed_short_int : names_type (words_of (signed_word ∷ short_word ∷ int_word ∷ [])) ≡ true
signed_short_int = refl

signed_long : names_type (words_of (signed_word ∷ long_word ∷ [])) ≡ true
signed_long = refl

signed_long_int : names_type (words_of (signed_word ∷ long_word ∷ int_word ∷ [])) ≡ true
signed_long_int = refl

signed_long_long : names_type (words_of (signed_word ∷ long_word ∷ long_word ∷ [])) ≡ true
signed_long_long = refl

signed_long_long_int : names_type (words_of (signed_word ∷ long_word ∷ long_word ∷ int_word ∷ [])) ≡ true
signed_long_long_int = refl

signed_int : names_type (words_of (signed_word ∷ int_word ∷ [])) ≡ true
signed_int = refl

unsigned_short : names_type (words_of (unsigned_word ∷ short_word ∷ [])) ≡ true
unsigned_short = refl

unsigned_short_int : names_type (words_of (unsigned_word ∷ short_word ∷ int_word ∷ [])) ≡ true
unsigned_short_int = refl

unsigned_long : names_type (words_of (unsigned_word ∷ long_word ∷ [])) ≡ true
unsigned_long = refl

unsigned_long_int : names_type (words_of (unsigned_word ∷ long_word ∷ int_word ∷ [])) ≡ true
unsigned_long_int = refl

unsigned_long_long : names_type (words_of (unsigned_word ∷ long_word ∷ long_word ∷ [])) ≡ true
unsigned_long_long = refl

unsigned_long_long_int : names_type (words_of (unsigned_word ∷ long_word ∷ long_word ∷ int_word ∷ [])) ≡ true
unsigned_long_long_int = refl

unsigned_int : names_type (words_of (unsigned_word ∷ int_word ∷ [])) ≡ true
unsigned_int = refl

signed : names_type (words_of (signed_word ∷ [])) ≡ true
signed = refl

unsigned : names_type (words_of (unsigned_word ∷ [])) ≡ true
unsigned = refl

int_long_unsigned_long : names_type (words_of (int_word ∷ long_word ∷ unsigned_word ∷ long_word ∷ [])) ≡ true
int_long_unsigned_long = refl

const_char_const : names_type (words_of (const_word ∷ char_word ∷ const_word ∷ [])) ≡ true
const_char_const = refl

const_unsigned : names_type (words_of (const_word ∷ unsigned_word ∷ [])) ≡ true
const_unsigned = refl

no_nothing : names_type (words_of ([])) ≡ false
no_nothing = refl

no_const : names_type (words_of (const_word ∷ [])) ≡ false
no_const = refl

no_signed_unsigned : names_type (words_of (signed_word ∷ unsigned_word ∷ [])) ≡ false
no_signed_unsigned = refl

no_char_char : names_type (words_of (char_word ∷ char_word ∷ [])) ≡ false
no_char_char = refl

no_char_int : names_type (words_of (char_word ∷ int_word ∷ [])) ≡ false
no_char_int = refl

no_short_long : names_type (words_of (short_word ∷ long_word ∷ [])) ≡ false
no_short_long = refl

no_long_long_long : names_type (words_of (long_word ∷ long_word ∷ long_word ∷ [])) ≡ false
no_long_long_long = refl

no_int_int : names_type (words_of (int_word ∷ int_word ∷ [])) ≡ false
no_int_int = refl

no_void_int : names_type (words_of (void_word ∷ int_word ∷ [])) ≡ false
no_void_int = refl

no_short_short : names_type (words_of (short_word ∷ short_word ∷ [])) ≡ false
no_short_short = refl

no_signed_signed_int : names_type (words_of (signed_word ∷ signed_word ∷ int_word ∷ [])) ≡ false
no_signed_signed_int = refl

no_short_char : names_type (words_of (short_word ∷ char_word ∷ [])) ≡ false
no_short_char = refl

no_long_char : names_type (words_of (long_word ∷ char_word ∷ [])) ≡ false
no_long_char = refl

no_void_void : names_type (words_of (void_word ∷ void_word ∷ [])) ≡ false
no_void_void = refl

typedef_name : names_type (tree.word 1 const_word ∷ tree.typedef_name 1 (codes "t") ∷ []) ≡ true
typedef_name = refl

tag : names_type (tree.tagged 1 struct_word (codes "s") ∷ []) ≡ true
tag = refl

no_two_names : names_type (tree.typedef_name 1 (codes "t") ∷ tree.typedef_name 1 (codes "t") ∷ []) ≡ false
no_two_names = refl

no_unsigned_name : names_type (tree.word 1 unsigned_word ∷ tree.typedef_name 1 (codes "uint8_t") ∷ []) ≡ false
no_unsigned_name = refl
