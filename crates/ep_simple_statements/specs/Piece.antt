-- Pieces of statements that are read by themselves.
use Rattle.std.specs.Prelude.{◌≡◌, ◌⊎◌, ℕ, Bool, Option, List, [], ◌∷◌}
use Rattle.ep_ast.specs.Token.{Tok, word, mark}
use Rattle.ep_ast.specs.Expression.{Expr}
use Rattle.ep_ast.specs.Statement.{First}
use Rattle.ep_ast.specs.Mark.{break_word, continue_word, return_word, do_word, for_word, if_word, while_word}
use Rattle.ep_ast.specs.Mark.{left_paren, right_paren, left_brace, semicolon}
use Rattle.ep_ast.specs.Grammar.{expr, Derives}
use Rattle.ep_ast.specs.StatementGrammar.{UpTo, InParens, Firsts}

-- a mark behind an expression that may be missing
abbrev pub CanClose : ℕ → Type 0
CanClose c = (c ≡ semicolon) ⊎ (c ≡ right_paren)

-- the end of a `do` loop
pub data DoEnd (is_type : List ℕ → Bool) : List Tok → List Tok → Expr → Type 0 where
  do_end : {m d n f : ℕ} {xs ys : List Tok} {e : Expr} → d ≡ while_word → f ≡ semicolon
      → InParens is_type xs (mark n f ∷ ys) e → DoEnd is_type (word m d ∷ xs) ys e

-- what stands behind `for`, with its parentheses
pub data Headings (is_type : List ℕ → Bool) : List Tok → List Tok → First × Option Expr × Option Expr → Type 0 where
  heading : {m d : ℕ} {xs ys zs ws : List Tok} {f : First} {e g : Option Expr} → d ≡ left_paren
      → Firsts is_type xs ys f → UpTo is_type semicolon ys zs e → UpTo is_type right_paren zs ws g
      → Headings is_type (mark m d ∷ xs) ws (f, e, g)

-- no statement begins here that has another one inside it, and no block
abbrev pub IsSimple : List Tok → Type 0
IsSimple (word l c ∷ ts) = (c ≡ if_word → ⊥) × (c ≡ while_word → ⊥) × (c ≡ for_word → ⊥) × (c ≡ do_word → ⊥)
IsSimple (mark l c ∷ ts) = c ≡ left_brace → ⊥
IsSimple _ = Unit {0}

-- the same, where a block may begin
abbrev pub HasNoHead : List Tok → Type 0
HasNoHead (word l c ∷ ts) = (c ≡ if_word → ⊥) × (c ≡ while_word → ⊥) × (c ≡ for_word → ⊥) × (c ≡ do_word → ⊥)
HasNoHead _ = Unit {0}

-- ---- expressions

-- an expression and this mark
pub record ExprThen (is_type : List ℕ → Bool) (d : ℕ) (xs ys : List Tok) (e : Expr) : Type 0 where
  pub line : ℕ
  pub code : ℕ
  pub same : code ≡ d
  pub derives : Derives is_type expr xs (mark line code ∷ ys) e

-- no word begins another statement here, and no brace
abbrev pub IsOther : List Tok → Type 0
IsOther [] = ⊥
IsOther (word l c ∷ ts) = (c ≡ if_word → ⊥) × (c ≡ while_word → ⊥) × (c ≡ for_word → ⊥) × (c ≡ do_word → ⊥)
    × (c ≡ break_word → ⊥) × (c ≡ continue_word → ⊥) × (c ≡ return_word → ⊥)
IsOther (mark l c ∷ ts) = c ≡ left_brace → ⊥
IsOther _ = Unit {0}
