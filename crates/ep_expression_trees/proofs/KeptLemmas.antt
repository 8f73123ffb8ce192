-- Heights and stars of arguments with one more at their end.
use Rattle.std.proofs.Common.{◌≡◌, max, List, [], ◌∷◌, ◌++◌, arith}
use Rattle.std.specs.Prelude.{reverse}
use Rattle.std.proofs.lemmas.List.{reverse-append}
use Rattle.ep_ast.specs.Expression.{Expr, to_exprs}
use Rattle.ep_ast.specs.Nesting.{height, heights, stars_in, all_stars_in}

pub heights-last : (ts : List Expr) (t : Expr) → heights (to_exprs (ts ++ t ∷ [])) ≡ max (heights (to_exprs ts))
    (height t)
heights-last [] t = omega arith
heights-last (x ∷ xs) t = omega (arith, heights-last xs t)

pub stars-last : (ts : List Expr) (t : Expr) → all_stars_in (to_exprs (ts ++ t ∷ [])) ≡ max (all_stars_in (to_exprs ts))
    (stars_in t)
stars-last [] t = omega arith
stars-last (x ∷ xs) t = omega (arith, stars-last xs t)

pub reverse-last : {A : Type 0} (xs : List A) (x : A) → reverse (xs ++ x ∷ []) ≡ x ∷ reverse xs
reverse-last xs x = reverse-append xs (x ∷ [])
