-- What a look at the first tokens answers.
use Rattle.std.specs.Prelude.{◌≡◌, ℕ, ◌<◌, ◌==◌, Bool, false, ◌&&◌, List, ◌∷◌, length, map, Option, Some, None}
use Rattle.std.specs.Borrow.{Bor}
use Rattle.ep_ast.specs.Token.{Tok, word, name, mark}
use Rattle.ep_ast.specs.Mark.{const_word, left_paren, star}
use Rattle.ep_lexer.specs.declared.tokens.Token.{Token}
use Rattle.ep_lexer.specs.Tokens.{view}

-- a name and an opening parenthesis
abbrev pub begins_call : List Tok → Bool
begins_call (name l text ∷ mark m c ∷ ts) = c == left_paren
begins_call _ = false

-- the same behind stars and `const`, so that a function's head goes on here
abbrev pub begins_head : List Tok → Bool
begins_head (mark l c ∷ ts) = c == star && begins_head ts
begins_head (word l c ∷ ts) = c == const_word && begins_head ts
begins_head (name l text ∷ ts) = begins_call (name l text ∷ ts)
begins_head _ = false

-- what comes behind a star or a `const`
abbrev pub IsBehind : List Tok → Option (List Tok) → Type 0
IsBehind ts (Some us) = begins_head ts ≡ begins_head us
IsBehind ts None = begins_head ts ≡ begins_call ts

abbrev pub tokens_of : Bor (List Token) → List Tok
tokens_of r = map view r.now

abbrev pub HasFewer : ℕ → Bor (List Token) → Type 0
HasFewer n r = length r.now < n
