-- Worked cases of the grammar of expressions and of nesting.
use Rattle.std.proofs.Common.{◌≡◌, ℕ, suc, zero, ◌+◌, Bool, true, false, List, [], ◌∷◌, Some, None, refl, arith}
use Rattle.std.specs.Prelude.{codes}
use Rattle.ep_ast.specs.Token.{Tok, name, mark, word}
use Rattle.ep_ast.specs.Expression as tree
use Rattle.ep_ast.specs.Expression.{Expr}
use Rattle.ep_ast.specs.Mark.{left_paren, right_paren, left_bracket, minus, equal, semicolon, comma, int_word}
use Rattle.ep_ast.specs.TypeWords.{closed, no_words, more_words, plain_word, no_stars, named}
use Rattle.ep_ast.specs.Grammar.{Derives, expr, bin, cast, unary, assigns, assigns_not, chooses_not, left, tighter}
use Rattle.ep_ast.specs.Grammar.{operand, casts, casts_not, unary_not, suffixed_not, names, follows}
use Rattle.ep_ast.specs.Nesting.{height, opens_past}

abbrev none_typed : List ℕ → Bool
none_typed text = false

abbrev x : List ℕ
x = codes "x"

as_unary : (ts : List Tok) → Derives none_typed unary (name 1 x ∷ ts) ts (tree.id 1 x)
as_unary ts = unary_not (suffixed_not (names refl))

-- `x` at each level from this many above the operands'
as_level : (n k : ℕ) (ts : List Tok) → n + k ≡ 11 → Derives none_typed (bin k) (name 1 x ∷ ts) ts (tree.id 1 x)
as_level zero k ts e = operand (omega arith) (casts_not (as_unary ts))
as_level (suc n) k ts e = tighter (omega arith) (as_level n (k + 1) ts (omega arith))

down : {xs ys : List Tok} {a : Expr} → Derives none_typed (bin 9) xs ys a → Derives none_typed (bin 1) xs ys a
down d = tighter (omega arith) (tighter (omega arith) (tighter (omega arith)
    (tighter (omega arith) (tighter (omega arith) (tighter (omega arith)
    (tighter (omega arith) (tighter (omega arith) d)))))))

-- `x - x - x` is `(x - x) - x`
differences : Derives none_typed expr (name 1 x ∷ mark 1 minus ∷ name 1 x ∷ mark 1 minus ∷ name 1 x ∷ []) []
    (tree.binary 1 minus (tree.binary 1 minus (tree.id 1 x) (tree.id 1 x)) (tree.id 1 x))
differences =
    assigns_not (chooses_not (down (left refl (omega arith)
    (left refl (omega arith) (as_level 2 9 (mark 1 minus ∷ name 1 x ∷ mark 1 minus ∷ name 1 x ∷ []) refl)
    (as_level 1 10 (mark 1 minus ∷ name 1 x ∷ []) refl)) (as_level 1 10 [] refl))))

-- `x = x`
assignment : Derives none_typed expr (name 1 x ∷ mark 1 equal ∷ name 1 x ∷ []) []
    (tree.assign 1 equal (tree.id 1 x) (tree.id 1 x))
assignment = assigns refl (as_unary (mark 1 equal ∷ name 1 x ∷ [])) (assigns_not (chooses_not (as_level 10 1 [] refl)))

-- `(int)x`
conversion : Derives none_typed cast (mark 1 left_paren ∷ word 1 int_word ∷ mark 1 right_paren ∷ name 1 x ∷ []) []
    (tree.cast 1 (named (tree.word 1 int_word ∷ []) []) (tree.id 1 x))
conversion =
    casts refl (closed refl (record { words = more_words (plain_word refl) no_words; named_type = refl; over = refl })
    (record { stars = no_stars; over = refl }))
    (casts_not (as_unary []))

ends_statement : follows (mark 1 semicolon ∷ name 1 x ∷ []) ≡ true
ends_statement = refl

ends_not : follows (mark 1 minus ∷ name 1 x ∷ []) ≡ false
ends_not = refl

two_inside : height (tree.unary 1 minus (tree.unary 1 minus (tree.id 1 x))) ≡ 2
two_inside = refl

-- ---- brackets

abbrev many : ℕ → List Tok → List Tok
many zero ts = ts
many (suc n) ts = mark 3 left_paren ∷ many n ts

open_64 : opens_past 0 (many 64 []) ≡ None
open_64 = refl

open_65 : opens_past 0 (many 64 (mark 4 left_bracket ∷ [])) ≡ Some 4
open_65 = refl

past_the_end : opens_past 0 (mark 1 semicolon ∷ many 65 []) ≡ None
past_the_end = refl

past_a_comma_inside : opens_past 1 (mark 1 comma ∷ many 64 []) ≡ Some 3
past_a_comma_inside = refl

kinds_not_matched : opens_past 0 (mark 1 left_bracket ∷ mark 1 right_paren ∷ many 65 []) ≡ Some 3
kinds_not_matched = refl
