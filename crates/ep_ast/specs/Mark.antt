-- The marks and the accepted words, by their numbers from 1 in the lists of both.
use Rattle.std.specs.Prelude.{ℕ, ◌-◌, List, [], slice_index_or}
use Rattle.ep_ast.specs.declared.marks.Mark.{Mark}
use Rattle.ep_ast.specs.declared.marks.Mark.TheVariants as variants
use Rattle.ep_ast.specs.declared.words.Word.{Word}
use Rattle.ep_ast.specs.declared.words.Word.TheVariants as words
use Rattle.ep_ast.specs.Token.{marks, accepted_words}

-- ---- marks

-- `<<=` and `>>=`
abbrev pub left_shift_equal : ℕ
left_shift_equal = 1

abbrev pub right_shift_equal : ℕ
right_shift_equal = 2

abbrev pub arrow : ℕ
arrow = 3

abbrev pub plus_plus : ℕ
plus_plus = 4

abbrev pub minus_minus : ℕ
minus_minus = 5

abbrev pub left_shift : ℕ
left_shift = 6

abbrev pub right_shift : ℕ
right_shift = 7

abbrev pub less_equal : ℕ
less_equal = 8

abbrev pub greater_equal : ℕ
greater_equal = 9

abbrev pub equal_equal : ℕ
equal_equal = 10

abbrev pub not_equal : ℕ
not_equal = 11

abbrev pub and_and : ℕ
and_and = 12

abbrev pub bar_bar : ℕ
bar_bar = 13

-- `+= -= *= /= %= &= |= ^=`
abbrev pub plus_equal : ℕ
plus_equal = 14

abbrev pub minus_equal : ℕ
minus_equal = 15

abbrev pub star_equal : ℕ
star_equal = 16

abbrev pub slash_equal : ℕ
slash_equal = 17

abbrev pub percent_equal : ℕ
percent_equal = 18

abbrev pub ampersand_equal : ℕ
ampersand_equal = 19

abbrev pub bar_equal : ℕ
bar_equal = 20

abbrev pub caret_equal : ℕ
caret_equal = 21

abbrev pub left_paren : ℕ
left_paren = 22

abbrev pub right_paren : ℕ
right_paren = 23

abbrev pub left_bracket : ℕ
left_bracket = 24

abbrev pub right_bracket : ℕ
right_bracket = 25

abbrev pub left_brace : ℕ
left_brace = 26

abbrev pub right_brace : ℕ
right_brace = 27

abbrev pub dot : ℕ
dot = 28

abbrev pub ampersand : ℕ
ampersand = 29

abbrev pub star : ℕ
star = 30

abbrev pub plus : ℕ
plus = 31

abbrev pub minus : ℕ
minus = 32

abbrev pub tilde : ℕ
tilde = 33

abbrev pub exclamation : ℕ
exclamation = 34

abbrev pub slash : ℕ
slash = 35

abbrev pub percent : ℕ
percent = 36

abbrev pub less : ℕ
less = 37

abbrev pub greater : ℕ
greater = 38

abbrev pub caret : ℕ
caret = 39

abbrev pub bar : ℕ
bar = 40

abbrev pub question : ℕ
question = 41

abbrev pub colon : ℕ
colon = 42

abbrev pub semicolon : ℕ
semicolon = 43

abbrev pub equal : ℕ
equal = 44

abbrev pub comma : ℕ
comma = 45

abbrev pub mark_number : Mark → ℕ
mark_number variants.LeftShiftEqual = left_shift_equal
mark_number variants.RightShiftEqual = right_shift_equal
mark_number variants.Arrow = arrow
mark_number variants.PlusPlus = plus_plus
mark_number variants.MinusMinus = minus_minus
mark_number variants.LeftShift = left_shift
mark_number variants.RightShift = right_shift
mark_number variants.LessEqual = less_equal
mark_number variants.GreaterEqual = greater_equal
mark_number variants.EqualEqual = equal_equal
mark_number variants.NotEqual = not_equal
mark_number variants.AndAnd = and_and
mark_number variants.BarBar = bar_bar
mark_number variants.PlusEqual = plus_equal
mark_number variants.MinusEqual = minus_equal
mark_number variants.StarEqual = star_equal
mark_number variants.SlashEqual = slash_equal
mark_number variants.PercentEqual = percent_equal
mark_number variants.AmpersandEqual = ampersand_equal
mark_number variants.BarEqual = bar_equal
mark_number variants.CaretEqual = caret_equal
mark_number variants.LeftParen = left_paren
mark_number variants.RightParen = right_paren
mark_number variants.LeftBracket = left_bracket
mark_number variants.RightBracket = right_bracket
mark_number variants.LeftBrace = left_brace
mark_number variants.RightBrace = right_brace
mark_number variants.Dot = dot
mark_number variants.Ampersand = ampersand
mark_number variants.Star = star
mark_number variants.Plus = plus
mark_number variants.Minus = minus
mark_number variants.Tilde = tilde
mark_number variants.Exclamation = exclamation
mark_number variants.Slash = slash
mark_number variants.Percent = percent
mark_number variants.Less = less
mark_number variants.Greater = greater
mark_number variants.Caret = caret
mark_number variants.Bar = bar
mark_number variants.Question = question
mark_number variants.Colon = colon
mark_number variants.Semicolon = semicolon
mark_number variants.Equal = equal
mark_number variants.Comma = comma

abbrev pub mark_text : Mark → List ℕ
mark_text m = slice_index_or marks (mark_number m - 1) []

-- ---- words

abbrev pub break_word : ℕ
break_word = 1

abbrev pub char_word : ℕ
char_word = 2

abbrev pub const_word : ℕ
const_word = 3

abbrev pub continue_word : ℕ
continue_word = 4

abbrev pub do_word : ℕ
do_word = 5

abbrev pub else_word : ℕ
else_word = 6

abbrev pub for_word : ℕ
for_word = 7

abbrev pub if_word : ℕ
if_word = 8

abbrev pub inline_word : ℕ
inline_word = 9

abbrev pub int_word : ℕ
int_word = 10

abbrev pub long_word : ℕ
long_word = 11

abbrev pub return_word : ℕ
return_word = 12

abbrev pub short_word : ℕ
short_word = 13

abbrev pub signed_word : ℕ
signed_word = 14

abbrev pub sizeof_word : ℕ
sizeof_word = 15

abbrev pub static_word : ℕ
static_word = 16

abbrev pub struct_word : ℕ
struct_word = 17

abbrev pub typedef_word : ℕ
typedef_word = 18

abbrev pub union_word : ℕ
union_word = 19

abbrev pub unsigned_word : ℕ
unsigned_word = 20

abbrev pub void_word : ℕ
void_word = 21

abbrev pub while_word : ℕ
while_word = 22

abbrev pub word_number : Word → ℕ
word_number words.Break = break_word
word_number words.Char = char_word
word_number words.Const = const_word
word_number words.Continue = continue_word
word_number words.Do = do_word
word_number words.Else = else_word
word_number words.For = for_word
word_number words.If = if_word
word_number words.Inline = inline_word
word_number words.Int = int_word
word_number words.Long = long_word
word_number words.Return = return_word
word_number words.Short = short_word
word_number words.Signed = signed_word
word_number words.Sizeof = sizeof_word
word_number words.Static = static_word
word_number words.Struct = struct_word
word_number words.Typedef = typedef_word
word_number words.Union = union_word
word_number words.Unsigned = unsigned_word
word_number words.Void = void_word
word_number words.While = while_word

abbrev pub word_text : Word → List ℕ
word_text w = slice_index_or accepted_words (word_number w - 1) []
