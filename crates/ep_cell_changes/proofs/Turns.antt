-- Lists of cells, one cell after the other.
use Rattle.std.proofs.Common.{◌≡◌, ℕ, suc, ◌+◌, ◌<◌, Bool, true, false, cond, List, [], ◌∷◌, ◌++◌, map, length}
use Rattle.ep_cells.proofs.Basics.{map-append}
use Rattle.std.proofs.Common.{get_or, drop, drop-cons, add-one, refl, sym, ◌∙◌, ap, append_assoc}
use Rattle.ep_cells.specs.declared.cell.Cell.{Cell}
use Rattle.ep_bitslice.specs.declared.cell.Side.TheVariants.{Left}
use Rattle.ep_cells.specs.Cells.{each_becomes, is_same_side}
use Rattle.ep_cells.specs.Reshare.{places}

-- the next cell, and those after it
pub next_cell : {N : Type 0} (cs : List (Cell N)) (i : ℕ) (x : Cell N) → i < length cs → x ≡ get_or cs i x
    → drop i cs ≡ x ∷ drop (i + 1) cs
next_cell cs i x h e =
    drop-cons cs i x h ∙ ap (λ y. y ∷ drop (suc i) cs) (sym e) ∙ ap (λ k. x ∷ drop k cs) (sym (add-one i))

-- what one more cell becomes is put behind
pub turn : {N : Type 0} (f : Cell N → Cell N) (g : Cell N → List (Cell N)) (out more all cs : List (Cell N)) (i : ℕ)
    (x : Cell N) → i < length cs → x ≡ get_or cs i x → more ≡ out ++ map f (g x)
    → out ++ map f (each_becomes g (drop i cs)) ≡ all → more ++ map f (each_becomes g (drop (i + 1) cs)) ≡ all
turn f g out more all cs i x h e m a =
    let rest = each_becomes g (drop (i + 1) cs) in
    ap (λ z. z ++ map f rest) m
    ∙ append_assoc out (map f (g x)) (map f rest)
    ∙ ap (λ z. out ++ z) (sym (map-append f (g x) rest))
    ∙ ap (λ z. out ++ map f (each_becomes g z)) (sym (next_cell cs i x h e))
    ∙ a

places_more : {N : Type 0} (x : Cell N) (cs : List (Cell N)) (b : Bool)
    → cond b ((x.block, x.offset) ∷ places cs) (places cs) ≡ cond b ((x.block, x.offset) ∷ []) [] ++ places cs
places_more x cs true = refl
places_more x cs false = refl

-- one more place
pub place_turn : {N : Type 0} (out more all : List (ℕ × ℕ)) (cs : List (Cell N)) (i : ℕ) (x : Cell N) → i < length cs
    → x ≡ get_or cs i x → more ≡ out ++ places (x ∷ []) → out ++ places (drop i cs) ≡ all
    → more ++ places (drop (i + 1) cs) ≡ all
place_turn out more all cs i x h e m a =
    let rest = drop (i + 1) cs in
    ap (λ z. z ++ places rest) m
    ∙ append_assoc out (places (x ∷ [])) (places rest)
    ∙ ap (λ z. out ++ z) (sym (places_more x rest (is_same_side x.side Left)))
    ∙ ap (λ z. out ++ places z) (sym (next_cell cs i x h e))
    ∙ a
