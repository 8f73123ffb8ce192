-- The tokens of a source: C11 6.4, with this project's accepted and reserved words, and its directives on byte order.
use Rattle.std.specs.Prelude.{ℕ, List, [], ◌∷◌, ◌++◌, codes}
use Rattle.ep_ast.specs.declared.expressions.Literal.{Literal}

-- A token with its line. Words and marks are numbers from 1 in the lists below.
-- The last four are directives: `#if` of little or big byte order, `#else` and `#endif`.
pub data Tok : Type 0 where
  word : (line code : ℕ) → Tok
  name : (line : ℕ) (text : List ℕ) → Tok
  number : (line : ℕ) (literal : Literal) → Tok
  mark : (line code : ℕ) → Tok
  if_little : (line : ℕ) → Tok
  if_big : (line : ℕ) → Tok
  other : (line : ℕ) → Tok
  end_if : (line : ℕ) → Tok

abbrev pub line_of : Tok → ℕ
line_of (word l n) = l
line_of (name l t) = l
line_of (number l n) = l
line_of (mark l n) = l
line_of (if_little l) = l
line_of (if_big l) = l
line_of (other l) = l
line_of (end_if l) = l

-- the words of C11 6.4.1 that are accepted
abbrev pub accepted_words : List (List ℕ)
accepted_words =
    codes "break" ∷ codes "char" ∷ codes "const" ∷ codes "continue" ∷ codes "do" ∷ codes "else" ∷ codes "for" ∷
    codes "if" ∷ codes "inline" ∷ codes "int" ∷ codes "long"
    ∷ codes "return" ∷ codes "short" ∷ codes "signed" ∷ codes "sizeof" ∷ codes "static" ∷ codes "struct" ∷
    codes "typedef" ∷ codes "union" ∷ codes "unsigned" ∷ codes "void"
    ∷ codes "while" ∷ []

-- the others, which are refused
abbrev pub reserved_words : List (List ℕ)
reserved_words =
    codes "auto" ∷ codes "case" ∷ codes "default" ∷ codes "double" ∷ codes "enum" ∷ codes "extern" ∷ codes "float" ∷
    codes "goto" ∷ codes "register" ∷ codes "restrict"
    ∷ codes "switch" ∷ codes "volatile" ∷ codes "_Alignas" ∷ codes "_Alignof" ∷ codes "_Atomic" ∷ codes "_Bool" ∷
    codes "_Complex" ∷ codes "_Generic" ∷ codes "_Imaginary"
    ∷ codes "_Noreturn" ∷ codes "_Static_assert" ∷ codes "_Thread_local" ∷ []

-- the marks of more than one byte, longest first, and those of one
abbrev pub long_marks : List (List ℕ)
long_marks =
    codes "<<=" ∷ codes ">>=" ∷ codes "->" ∷ codes "++" ∷ codes "--" ∷ codes "<<" ∷ codes ">>" ∷ codes "<=" ∷
    codes ">=" ∷ codes "==" ∷ codes "!=" ∷ codes "&&" ∷ codes "||"
    ∷ codes "+=" ∷ codes "-=" ∷ codes "*=" ∷ codes "/=" ∷ codes "%=" ∷ codes "&=" ∷ codes "|=" ∷ codes "^=" ∷ []

abbrev pub short_marks : List (List ℕ)
short_marks =
    codes "(" ∷ codes ")" ∷ codes "[" ∷ codes "]" ∷ codes "{" ∷ codes "}" ∷ codes "." ∷ codes "&" ∷ codes "*" ∷
    codes "+" ∷ codes "-" ∷ codes "~" ∷ codes "!" ∷ codes "/"
    ∷ codes "%" ∷ codes "<" ∷ codes ">" ∷ codes "^" ∷ codes "|" ∷ codes "?" ∷ codes ":" ∷ codes ";" ∷ codes "=" ∷
    codes "," ∷ []

-- all marks, each before those with which it begins
abbrev pub marks : List (List ℕ)
marks = long_marks ++ short_marks
