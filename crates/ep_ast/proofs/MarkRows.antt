-- Each number of a mark or word is that of its text.
use Rattle.std.proofs.Common.{◌≡◌, ℕ, ◌-◌, List, [], refl}
use Rattle.std.specs.Prelude.{codes, slice_index_or}
use Rattle.ep_ast.specs.Token.{marks, accepted_words}
use Rattle.ep_ast.specs.Mark.{arrow, plus_plus, minus_minus, left_shift, right_shift, less_equal, greater_equal}
use Rattle.ep_ast.specs.Mark.{equal_equal, not_equal, and_and, bar_bar, left_shift_equal, right_shift_equal, plus_equal}
use Rattle.ep_ast.specs.Mark.{minus_equal, star_equal, slash_equal, percent_equal, ampersand_equal, bar_equal}
use Rattle.ep_ast.specs.Mark.{caret_equal, left_paren, right_paren, left_bracket, right_bracket, left_brace}
use Rattle.ep_ast.specs.Mark.{right_brace, dot, ampersand, star, plus, minus, tilde, exclamation, slash, percent, less}
use Rattle.ep_ast.specs.Mark.{greater, caret, bar, question, colon, semicolon, equal, comma, break_word, char_word}
use Rattle.ep_ast.specs.Mark.{const_word, continue_word, do_word, else_word, for_word, if_word, inline_word, int_word}
use Rattle.ep_ast.specs.Mark.{long_word, return_word, short_word, signed_word, sizeof_word, static_word, struct_word}
use Rattle.ep_ast.specs.Mark.{typedef_word, union_word, unsigned_word, void_word, while_word}

abbrev text_of : List (List ℕ) → ℕ → List ℕ
text_of texts n = slice_index_or texts (n - 1) []

arrow-text : text_of marks arrow ≡ codes "->"
arrow-text = refl

plus_plus-text : text_of marks plus_plus ≡ codes "++"
plus_plus-text = refl

minus_minus-text : text_of marks minus_minus ≡ codes "--"
minus_minus-text = refl

left_shift-text : text_of marks left_shift ≡ codes "<<"
left_shift-text = refl

right_shift-text : text_of marks right_shift ≡ codes ">>"
right_shift-text = refl

less_equal-text : text_of marks less_equal ≡ codes "<="
less_equal-text = refl

greater_equal-text : text_of marks greater_equal ≡ codes ">="
greater_equal-text = refl

equal_equal-text : text_of marks equal_equal ≡ codes "=="
equal_equal-text = refl

not_equal-text : text_of marks not_equal ≡ codes "!="
not_equal-text = refl

and_and-text : text_of marks and_and ≡ codes "&&"
and_and-text = refl

bar_bar-text : text_of marks bar_bar ≡ codes "||"
bar_bar-text = refl

left_shift_equal-text : text_of marks left_shift_equal ≡ codes "<<="
left_shift_equal-text = refl

right_shift_equal-text : text_of marks right_shift_equal ≡ codes ">>="
right_shift_equal-text = refl

plus_equal-text : text_of marks plus_equal ≡ codes "+="
plus_equal-text = refl

minus_equal-text : text_of marks minus_equal ≡ codes "-="
minus_equal-text = refl

star_equal-text : text_of marks star_equal ≡ codes "*="
star_equal-text = refl

slash_equal-text : text_of marks slash_equal ≡ codes "/="
slash_equal-text = refl

percent_equal-text : text_of marks percent_equal ≡ codes "%="
percent_equal-text = refl

ampersand_equal-text : text_of marks ampersand_equal ≡ codes "&="
ampersand_equal-text = refl

bar_equal-text : text_of marks bar_equal ≡ codes "|="
bar_equal-text = refl

caret_equal-text : text_of marks caret_equal ≡ codes "^="
caret_equal-text = refl

left_paren-text : text_of marks left_paren ≡ codes "("
left_paren-text = refl

right_paren-text : text_of marks right_paren ≡ codes ")"
right_paren-text = refl

left_bracket-text : text_of marks left_bracket ≡ codes "["
left_bracket-text = refl

right_bracket-text : text_of marks right_bracket ≡ codes "]"
right_bracket-text = refl

left_brace-text : text_of marks left_brace ≡ codes "{"
left_brace-text = refl

right_brace-text : text_of marks right_brace ≡ codes "}"
right_brace-text = refl

dot-text : text_of marks dot ≡ codes "."
dot-text = refl

ampersand-text : text_of marks ampersand ≡ codes "&"
ampersand-text = refl

star-text : text_of marks star ≡ codes "*"
star-text = refl

plus-text : text_of marks plus ≡ codes "+"
plus-text = refl

minus-text : text_of marks minus ≡ codes "-"
minus-text = refl

tilde-text : text_of marks tilde ≡ codes "~"
tilde-text = refl

exclamation-text : text_of marks exclamation ≡ codes "!"
exclamation-text = refl

slash-text : text_of marks slash ≡ codes "/"
slash-text = refl

percent-text : text_of marks percent ≡ codes "%"
percent-text = refl

less-text : text_of marks less ≡ codes "<"
less-text = refl

greater-text : text_of marks greater ≡ codes ">"
greater-text = refl

caret-text : text_of marks caret ≡ codes "^"
caret-text = refl

bar-text : text_of marks bar ≡ codes "|"
bar-text = refl

question-text : text_of marks question ≡ codes "?"
question-text = refl

colon-text : text_of marks colon ≡ codes ":"
colon-text = refl

semicolon-text : text_of marks semicolon ≡ codes ";"
semicolon-text = refl

equal-text : text_of marks equal ≡ codes "="
equal-text = refl

comma-text : text_of marks comma ≡ codes ","
comma-text = refl

break_word-text : text_of accepted_words break_word ≡ codes "break"
break_word-text = refl

char_word-text : text_of accepted_words char_word ≡ codes "char"
char_word-text = refl

const_word-text : text_of accepted_words const_word ≡ codes "const"
const_word-text = refl

continue_word-text : text_of accepted_words continue_word ≡ codes "continue"
continue_word-text = refl

do_word-text : text_of accepted_words do_word ≡ codes "do"
do_word-text = refl

else_word-text : text_of accepted_words else_word ≡ codes "else"
else_word-text = refl

for_word-text : text_of accepted_words for_word ≡ codes "for"
for_word-text = refl

if_word-text : text_of accepted_words if_word ≡ codes "if"
if_word-text = refl

inline_word-text : text_of accepted_words inline_word ≡ codes "inline"
inline_word-text = refl

int_word-text : text_of accepted_words int_word ≡ codes "int"
int_word-text = refl

long_word-text : text_of accepted_words long_word ≡ codes "long"
long_word-text = refl

return_word-text : text_of accepted_words return_word ≡ codes "return"
return_word-text = refl

short_word-text : text_of accepted_words short_word ≡ codes "short"
short_word-text = refl

signed_word-text : text_of accepted_words signed_word ≡ codes "signed"
signed_word-text = refl

sizeof_word-text : text_of accepted_words sizeof_word ≡ codes "sizeof"
sizeof_word-text = refl

static_word-text : text_of accepted_words static_word ≡ codes "static"
static_word-text = refl

struct_word-text : text_of accepted_words struct_word ≡ codes "struct"
struct_word-text = refl

typedef_word-text : text_of accepted_words typedef_word ≡ codes "typedef"
typedef_word-text = refl

union_word-text : text_of accepted_words union_word ≡ codes "union"
union_word-text = refl

unsigned_word-text : text_of accepted_words unsigned_word ≡ codes "unsigned"
unsigned_word-text = refl

void_word-text : text_of accepted_words void_word ≡ codes "void"
void_word-text = refl

while_word-text : text_of accepted_words while_word ≡ codes "while"
while_word-text = refl
