-- What is left of a list.
use Rattle.std.proofs.Common.{◌≡◌, ℕ, suc, ◌-◌, List, [], ◌∷◌, drop, take, length, arith, sym, refl, ap, ◌∙◌, subst}
use Rattle.ep_core.specs.declared.tree.Stmt.{Stmt}
use Rattle.ep_machine.specs.declared.setting.Setting.{Setting}
use Rattle.ep_frames.specs.Stack.{ListFits}

whole : (xs : List Stmt) → take (length xs) xs ≡ xs
whole [] = refl
whole (x ∷ xs) = ap (λ ys. x ∷ ys) (whole xs)

rest_is : (xs : List Stmt) → take (length xs - 1) (drop 1 xs) ≡ drop 1 xs
rest_is [] = refl
rest_is (x ∷ xs) = let e : suc (length xs) - 1 ≡ length xs = omega arith in ap (λ n. take n xs) e ∙ whole xs

module _ (m : Setting) (here : ℕ) where
  later : (xs : List Stmt) → ListFits m here xs → ListFits m here (drop 1 xs)
  later [] h = h
  later (x ∷ xs) h = λ y f. (h y f).1

  -- the rest of a list fits where the list does
  pub rest_fits : (xs : List Stmt) → ListFits m here xs → ListFits m here (take (length xs - 1) (drop 1 xs))
  rest_fits xs h = subst (ListFits m here) (sym (rest_is xs)) (later xs h)
