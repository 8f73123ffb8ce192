-- What may stand inside one another: this project's limit of 64.
use Rattle.std.specs.Prelude.{ℕ, ◌+◌, ◌-◌, ◌==◌, max, length, nat_lt, if◌then◌else◌, Bool, ◌&&◌, ◌||◌, Option, Some}
use Rattle.std.specs.Prelude.{None, List, [], ◌∷◌}
use Rattle.ep_ast.specs.Token.{Tok, mark}
use Rattle.ep_ast.specs.Expression as tree
use Rattle.ep_ast.specs.Expression.{Expr, Exprs, no_exprs, more_exprs}
use Rattle.ep_ast.specs.Mark.{left_paren, right_paren, left_bracket, right_bracket, left_brace, right_brace, semicolon}
use Rattle.ep_ast.specs.Mark.{comma}

-- how many operators stand inside one another: every node but names and numbers is one
abbrev mutual
  pub height : Expr → ℕ
  height (tree.assign l c a b) = max (height a) (height b) + 1
  height (tree.conditional l a b c) = max (height a) (max (height b) (height c)) + 1
  height (tree.binary l c a b) = max (height a) (height b) + 1
  height (tree.cast l t a) = height a + 1
  height (tree.step l c a) = height a + 1
  height (tree.unary l c a) = height a + 1
  height (tree.sizeof_expr l a) = height a + 1
  height (tree.sizeof_type l t) = 1
  height (tree.index l a b) = max (height a) (height b) + 1
  height (tree.call l a bs) = max (height a) (heights bs) + 1
  height (tree.member l a n) = height a + 1
  height (tree.arrow l a n) = height a + 1
  height (tree.post_increment l a) = height a + 1
  height (tree.post_decrement l a) = height a + 1
  height (tree.id l n) = 0
  height (tree.number l n) = 0

  pub heights : Exprs → ℕ
  heights no_exprs = 0
  heights (more_exprs e es) = max (height e) (heights es)

-- how many stars the names of types in it have, at most
abbrev mutual
  pub stars_in : Expr → ℕ
  stars_in (tree.assign l c a b) = max (stars_in a) (stars_in b)
  stars_in (tree.conditional l a b c) = max (stars_in a) (max (stars_in b) (stars_in c))
  stars_in (tree.binary l c a b) = max (stars_in a) (stars_in b)
  stars_in (tree.cast l t a) = max (length t.stars) (stars_in a)
  stars_in (tree.step l c a) = stars_in a
  stars_in (tree.unary l c a) = stars_in a
  stars_in (tree.sizeof_expr l a) = stars_in a
  stars_in (tree.sizeof_type l t) = length t.stars
  stars_in (tree.index l a b) = max (stars_in a) (stars_in b)
  stars_in (tree.call l a bs) = max (stars_in a) (all_stars_in bs)
  stars_in (tree.member l a n) = stars_in a
  stars_in (tree.arrow l a n) = stars_in a
  stars_in (tree.post_increment l a) = stars_in a
  stars_in (tree.post_decrement l a) = stars_in a
  stars_in (tree.id l n) = 0
  stars_in (tree.number l n) = 0

  pub all_stars_in : Exprs → ℕ
  all_stars_in no_exprs = 0
  all_stars_in (more_exprs e es) = max (stars_in e) (all_stars_in es)

-- how many operators, or derivations of a type, stand inside one another
abbrev pub depth : Expr → ℕ
depth e = max (height e) (stars_in e)

abbrev pub is_too_deep : Expr → Bool
is_too_deep e = nat_lt 64 (depth e)

abbrev pub opens : ℕ → Bool
opens c = c == left_paren || c == left_bracket || c == left_brace

abbrev pub closes : ℕ → Bool
closes c = c == right_paren || c == right_bracket || c == right_brace

-- how many brackets are open after this mark, where `n` were before it; kinds aren't matched
abbrev pub counted : ℕ → ℕ → ℕ
counted n c = if opens c then n + 1 else if closes c then n - 1 else n

-- no expression goes on with this mark where `n` brackets are open
abbrev pub stops : ℕ → ℕ → Bool
stops n c = n == 0 && (closes c || c == comma || c == semicolon)

-- The line of the first token at which more than 64 brackets are open, where `n` are at the start.
-- The look ends where no expression goes on.
abbrev pub opens_past : ℕ → List Tok → Option ℕ
opens_past n [] = None
opens_past n (mark l c ∷ ts) = if nat_lt 64 (counted n c) then Some l else if stops n c then None else opens_past
    (counted n c) ts
opens_past n (_ ∷ ts) = opens_past n ts
