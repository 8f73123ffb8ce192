-- What a look at the first tokens answers.
use Rattle.std.specs.Prelude.{◌≡◌, ℕ, ◌<◌, Bool, true, false, ◌&&◌, ◌||◌, ◌==◌, List, ◌∷◌, map, length, Option, Some}
use Rattle.std.specs.Prelude.{None}
use Rattle.std.specs.Borrow.{Bor}
use Rattle.ep_ast.specs.Token.{Tok, mark}
use Rattle.ep_ast.specs.declared.marks.Mark.{Mark}
use Rattle.ep_ast.specs.Mark.{mark_number, left_paren, right_paren, right_bracket, right_brace, comma, semicolon, colon}
use Rattle.ep_ast.specs.TypeWords.{begins_type}
use Rattle.ep_ast.specs.Grammar.{level, is_assignment}
use Rattle.ep_ast.specs.Reading.{is_suffix}
use Rattle.ep_lexer.specs.declared.tokens.Token.{Token}
use Rattle.ep_lexer.specs.Tokens.{view}

-- a line, the number of a mark and the tokens behind it, without where they lie in memory
abbrev pub seen_mark : ℕ × Mark × Bor (List Token) → ℕ × ℕ × List Tok
seen_mark r = (r.0, mark_number r.1, map view r.2.now)

-- fewer tokens than so many stand behind
abbrev pub IsShorterMark : ℕ → ℕ × Mark × Bor (List Token) → Type 0
IsShorterMark n r = length r.2.now < n

-- no operator of this level
abbrev pub NotAt : ℕ → List Tok → Type 0
NotAt k (mark l c ∷ ts) = level c ≡ k → ⊥
NotAt k _ = Unit {0}

abbrev pub AtOperator : ℕ → List Tok → Option (ℕ × ℕ × List Tok) → Type 0
AtOperator k ts (Some r) = (level r.1 ≡ k) × (ts ≡ mark r.0 r.1 ∷ r.2)
AtOperator k ts None = NotAt k ts

-- no assignment mark
abbrev pub begins_assignment : List Tok → Bool
begins_assignment (mark l c ∷ ts) = is_assignment c
begins_assignment _ = false

abbrev pub AtAssignment : List Tok → Option (ℕ × ℕ × List Tok) → Type 0
AtAssignment ts (Some r) = (is_assignment r.1 ≡ true) × (ts ≡ mark r.0 r.1 ∷ r.2)
AtAssignment ts None = begins_assignment ts ≡ false

abbrev pub begins_suffix : List Tok → Bool
begins_suffix (mark l c ∷ ts) = is_suffix c
begins_suffix _ = false

-- `)`, `]`, `}`, `,`, `;` or `:`
abbrev pub may_follow : ℕ → Bool
may_follow c = c == right_paren || c == right_bracket || c == right_brace || c == comma || c == semicolon || c == colon

-- the name of a type in parentheses begins here
abbrev pub begins_cast : (List ℕ → Bool) → List Tok → Bool
begins_cast is_type (mark l c ∷ ts) = c == left_paren && begins_type is_type ts
begins_cast is_type _ = false

abbrev pub AtCast : (List ℕ → Bool) → List Tok → Option (ℕ × List Tok) → Type 0
AtCast is_type ts (Some r) = (c : ℕ) × (c ≡ left_paren) × (begins_type is_type r.1 ≡ true) × (ts ≡ mark r.0 c ∷ r.1)
AtCast is_type ts None = begins_cast is_type ts ≡ false
