-- Lists of cells in order that have the same cells are one.
use Rattle.std.proofs.Common.{◌≡◌, List, [], ◌∷◌, refl, ap, ◌∙◌, subst}
use Rattle.ep_int.specs.declared.types.Model.{Model}
use Rattle.ep_cells.specs.declared.cell.Cell.{Cell}
use Rattle.ep_cells.specs.Cells.{key_of, IsIn, first, later}
use Rattle.ep_cells.specs.States.{EachPair, AreApart}
use Rattle.ep_cells.proofs.Lists.{each_at}
use Rattle.ep_cells.proofs.Places.{before_true, not_both}

module _ {N : Type 0} (d : Model) where
  never_both : (x y : Cell N) → AreApart d x y → AreApart d y x → ⊥
  never_both x y a b =
      not_both x.block (key_of x) y.block (key_of y)
      (before_true x.block (key_of x) y.block (key_of y) a.ordered)
      (before_true y.block (key_of y) x.block (key_of x) b.ordered)

  heads : (x y : Cell N) (xs ys : List (Cell N)) → EachPair (AreApart d) (x ∷ xs) → EachPair (AreApart d) (y ∷ ys)
      → IsIn x (y ∷ ys) → IsIn y (x ∷ xs) → x ≡ y
  heads x _ xs ys p q (first _) i = refl
  heads x _ xs ys p q (later _ _ h) (first _) = refl
  heads x y xs ys p q (later _ _ h) (later _ _ i) =
      absurd (never_both x y (each_at (AreApart d x) y xs p.0 i) (each_at (AreApart d y) x ys q.0 h))

  tails : (x y z : Cell N) (xs ys : List (Cell N)) → EachPair (AreApart d) (x ∷ xs) → x ≡ y → IsIn z xs
      → IsIn z (y ∷ ys) → IsIn z ys
  tails x y _ xs ys p e i (first _) =
      let a : AreApart d y y = subst (λ w. AreApart d w y) e (each_at (AreApart d x) y xs p.0 i) in
      absurd (never_both y y a a)
  tails x y z xs ys p e i (later _ _ h) = h

  pub same_cells : (xs ys : List (Cell N)) → EachPair (AreApart d) xs → EachPair (AreApart d) ys
      → ((z : Cell N) → IsIn z xs → IsIn z ys) → ((z : Cell N) → IsIn z ys → IsIn z xs) → xs ≡ ys
  same_cells [] [] p q f b = refl
  same_cells [] (y ∷ ys) p q f b = absurd (elim (b y (first ys)) [ ])
  same_cells (x ∷ xs) [] p q f b = absurd (elim (f x (first xs)) [ ])
  same_cells (x ∷ xs) (y ∷ ys) p q f b =
      let e = heads x y xs ys p q (f x (first xs)) (b y (first ys)) in
      let r = heads y x ys xs q p (b y (first ys)) (f x (first xs)) in
      ap (λ z. z ∷ xs) e
      ∙ ap (λ zs. y ∷ zs) (same_cells xs ys p.1 q.1 (λ z i. tails x y z xs ys p e i (f z (later x xs i)))
      (λ z i. tails y x z ys xs q r i (b z (later y ys i))))
