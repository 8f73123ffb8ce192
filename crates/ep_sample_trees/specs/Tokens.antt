-- The tokens of the sources that are generated as samples. This project's rules; C11 6.4.
use Rattle.std.specs.Prelude.{ℕ, zero, suc, ◌+◌, List, [], ◌∷◌, ◌++◌}
use Rattle.ep_ast.specs.Token.{Tok, word, name, number, mark, if_little, other, end_if}
use Rattle.ep_ast.specs.Mark.{left_paren, right_paren, left_bracket, right_bracket, left_brace, right_brace, equal}
use Rattle.ep_ast.specs.Mark.{comma, semicolon, ampersand, bar, left_shift, right_shift, int_word, return_word}
use Rattle.ep_ast.specs.Mark.{void_word}
use Rattle.ep_sample.specs.Sample.{next_of, shift_of}
use Rattle.ep_sample_trees.specs.Names.{x, y, h, b, v, swap, main, uint8, uint16, uint32, ep_in_u32, ep_out_u32}
use Rattle.ep_sample_trees.specs.Names.{ep_out_u16, ep_read, ep_write, literal, by_kind}

-- ---- marks and calls on a line

abbrev pub opens : ℕ → Tok
opens l = mark l left_paren

abbrev pub closes : ℕ → Tok
closes l = mark l right_paren

abbrev pub ends : ℕ → Tok
ends l = mark l semicolon

-- `NAME op N`, between parentheses
abbrev pub shift_in_parens : (line : ℕ) → List ℕ → (operator by : ℕ) → List Tok
shift_in_parens l t c n = opens l ∷ name l t ∷ mark l c ∷ number l (literal n) ∷ closes l ∷ []

-- `(NAME >> M) | (NAME << N)`
abbrev pub both_shifts : (line : ℕ) → List ℕ → (right left : ℕ) → List Tok
both_shifts l t m n = shift_in_parens l t right_shift m ++ mark l bar ∷ shift_in_parens l t left_shift n

-- `x = ep_in_u32();`
abbrev pub reads_number : ℕ → List Tok
reads_number l = name l x ∷ mark l equal ∷ name l ep_in_u32 ∷ opens l ∷ closes l ∷ ends l ∷ []

-- `NAME(NAME);`
abbrev pub call_of_one : (line : ℕ) → (function argument : List ℕ) → List Tok
call_of_one l f t = name l f ∷ opens l ∷ name l t ∷ closes l ∷ ends l ∷ []

-- ---- before the fields

-- `uint16_t swap(uint16_t v) { return .. }`
abbrev pub swap_giving : (line : ℕ) → List Tok → List Tok
swap_giving l ts =
    name l uint16 ∷ name l swap ∷ opens l ∷ name l uint16 ∷ name l v ∷ closes l ∷ mark l left_brace
    ∷ word l return_word ∷ ts ++ ends l ∷ mark l right_brace ∷ []

-- `(uint16_t)((v >> 8) | (v << 8))`
abbrev pub swapped_value : ℕ → List Tok
swapped_value l = opens l ∷ name l uint16 ∷ closes l ∷ opens l ∷ both_shifts l v 8 8 ++ closes l ∷ []

-- two functions by byte order, the head of `main`, and its objects
abbrev pub head_tokens : List Tok
head_tokens =
    if_little 3 ∷ swap_giving 4 (swapped_value 4) ++ other 5 ∷ swap_giving 6 (name 6 v ∷ []) ++ end_if 7
    ∷ word 8 int_word ∷ name 8 main ∷ opens 8 ∷ word 8 void_word ∷ closes 8 ∷ mark 9 left_brace
    ∷ name 10 uint32 ∷ name 10 x ∷ mark 10 comma ∷ name 10 y ∷ ends 10 ∷ name 11 uint16 ∷ name 11 h ∷ ends 11
    ∷ name 12 uint8 ∷ name 12 b ∷ mark 12 left_bracket ∷ number 12 (literal 1) ∷ mark 12 right_bracket ∷ ends 12 ∷ []

-- ---- the three kinds of fields, from a line on

abbrev pub turned_tokens : (line : ℕ) → List Tok
turned_tokens l =
    reads_number l
    ++ (name (l + 1) y ∷ mark (l + 1) equal ∷ both_shifts (l + 1) x 8 24 ++ ends (l + 1) ∷ [])
    ++ call_of_one (l + 1 + 1) ep_out_u32 y

abbrev pub swapped_tokens : (line : ℕ) → List Tok
swapped_tokens l =
    (name l ep_read ∷ opens l ∷ mark l ampersand ∷ name l h ∷ mark l comma ∷ number l (literal 2) ∷ closes l ∷
    ends l ∷ [])
    ++ name (l + 1) h ∷ mark (l + 1) equal ∷ call_of_one (l + 1) swap h
    ++ call_of_one (l + 1 + 1) ep_out_u16 h

abbrev pub byte_tokens : (line shift : ℕ) → List Tok
byte_tokens l n =
    reads_number l
    ++ (name (l + 1) b ∷ mark (l + 1) left_bracket ∷ number (l + 1) (literal 0) ∷ mark (l + 1) right_bracket
    ∷ mark (l + 1) equal ∷ opens (l + 1) ∷ name (l + 1) uint8 ∷ closes (l + 1)
    ∷ shift_in_parens (l + 1) x right_shift n ++ ends (l + 1) ∷ [])
    ++ name (l + 1 + 1) ep_write ∷ opens (l + 1 + 1) ∷ name (l + 1 + 1) b ∷ mark (l + 1 + 1) comma
    ∷ number (l + 1 + 1) (literal 1) ∷ closes (l + 1 + 1) ∷ ends (l + 1 + 1) ∷ []

abbrev pub field_tokens : (seed line : ℕ) → List Tok
field_tokens s l = by_kind s (turned_tokens l) (swapped_tokens l) (byte_tokens l (shift_of s))

-- `return 0;` and the closing brace below it
abbrev pub end_tokens : (line : ℕ) → List Tok
end_tokens l = word l return_word ∷ number l (literal 0) ∷ ends l ∷ mark (l + 1) right_brace ∷ []

-- so many fields, each by the seed that follows the one before, and the end
abbrev pub fields_tokens : (seed line fields : ℕ) → List Tok
fields_tokens s l zero = end_tokens l
fields_tokens s l (suc n) = field_tokens (next_of s) l ++ fields_tokens (next_of s) (l + 1 + 1 + 1) n

-- the tokens of a sample
abbrev pub tokens_of : (start fields : ℕ) → List Tok
tokens_of start fields = head_tokens ++ fields_tokens start 13 fields
