-- Lemmas that several crates cite.
use Rattle.std.proofs.Common.{◌≡◌, Bool, false, cond, List, [], ◌∷◌, refl, ◌∙◌, ap, ◌++◌, map}
use Rattle.std.specs.List.{filter}
use Rattle.ep_cells.specs.declared.cell.Cell.{Cell}
use Rattle.ep_cells.specs.Cells.{IsIn, first, later}

pub filter-none : {N : Type 0} (P : Cell N → Bool) (ys : List (Cell N)) → ((y : Cell N) → IsIn y ys → P y ≡ false)
    → filter P ys ≡ []
filter-none P [] h = refl
filter-none P (y ∷ ys) h =
    ap (λ b. cond b (y ∷ filter P ys) (filter P ys)) (h y (first ys))
    ∙ filter-none P ys (λ z i. h z (later y ys i))

pub map-append : {N : Type 0} (g : Cell N → Cell N) (xs ys : List (Cell N)) → map g (xs ++ ys) ≡ map g xs ++ map g ys
map-append g [] ys = refl
map-append g (x ∷ xs) ys = ap (λ zs. g x ∷ zs) (map-append g xs ys)
