-- Marks of one byte, and the bytes that stand second in a longer one.
use Rattle.std.specs.Prelude.{ℕ, Bool, ◌==◌, ◌||◌, if◌then◌else◌, Option, Some, None}
use Rattle.ep_ast.specs.Mark.{left_paren, right_paren, left_bracket, right_bracket, left_brace, right_brace, dot}
use Rattle.ep_ast.specs.Mark.{ampersand, star, plus, minus, tilde, exclamation, slash, percent, less}
use Rattle.ep_ast.specs.Mark.{greater, caret, bar, question, colon, semicolon, equal, comma}

-- `+ - < = > & |`
abbrev pub is_second : ℕ → Bool
is_second b = b == 43 || b == 45 || b == 60 || b == 61 || b == 62 || b == 38 || b == 124

-- `> ^ | ? : ; = ,`
abbrev pub separator : ℕ → Option ℕ
separator b =
    if b == 62 then Some greater
    else if b == 94 then Some caret
    else if b == 124 then Some bar
    else if b == 63 then Some question
    else if b == 58 then Some colon
    else if b == 59 then Some semicolon
    else if b == 61 then Some equal
    else if b == 44 then Some comma
    else None

-- `* + - ~ ! / % <`, or one of those
abbrev pub sign : ℕ → Option ℕ
sign b =
    if b == 42 then Some star
    else if b == 43 then Some plus
    else if b == 45 then Some minus
    else if b == 126 then Some tilde
    else if b == 33 then Some exclamation
    else if b == 47 then Some slash
    else if b == 37 then Some percent
    else if b == 60 then Some less
    else separator b

-- `( ) [ ] { } . &`, or one of those
abbrev pub short : ℕ → Option ℕ
short b =
    if b == 40 then Some left_paren
    else if b == 41 then Some right_paren
    else if b == 91 then Some left_bracket
    else if b == 93 then Some right_bracket
    else if b == 123 then Some left_brace
    else if b == 125 then Some right_brace
    else if b == 46 then Some dot
    else if b == 38 then Some ampersand
    else sign b
