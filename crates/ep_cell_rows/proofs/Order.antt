-- Cells put in order.
use Rattle.std.proofs.Common.{◌≡◌, Bool, true, false, cond, List, [], ◌∷◌, ◌++◌, map, refl, sym, ◌∙◌, ap}
use Rattle.ep_int.specs.declared.types.Model.{Model}
use Rattle.ep_cells.specs.declared.cell.Cell.{Cell}
use Rattle.ep_cells.specs.declared.place.ByteRange.{ByteRange}
use Rattle.ep_cells.specs.Cells.{place_of, comes_before, put, put_all, each_becomes}
use Rattle.ep_cells.specs.Forms.{Fate, reformed}
use Rattle.ep_cells.specs.Write.{left_by_write, fate_by_write, written}

put_by : {N : Type 0} (f : Fate) (c x : Cell N) (cs rest : List (Cell N)) (b : Bool)
    → map (reformed f) (put c cs) ≡ rest
    → map (reformed f) (cond b (c ∷ x ∷ cs) (x ∷ put c cs)) ≡ cond b (reformed f c ∷ reformed f x ∷ map (reformed f)
    cs) (reformed f x ∷ rest)
put_by f c x cs rest true e = refl
put_by f c x cs rest false e = ap (λ xs. reformed f x ∷ xs) e

-- new names leave cells in their order
pub put_reformed : {N : Type 0} (f : Fate) (c : Cell N) (cs : List (Cell N))
    → map (reformed f) (put c cs) ≡ put (reformed f c) (map (reformed f) cs)
put_reformed f c [] = refl
put_reformed f c (x ∷ cs) = put_by f c x cs (put (reformed f c) (map (reformed f) cs)) (comes_before c x)
    (put_reformed f c cs)

-- the last of several is put first
put_all_last : {N : Type 0} (xs cs : List (Cell N)) (c : Cell N) → put_all (xs ++ c ∷ []) cs ≡ put_all xs (put c cs)
put_all_last [] cs c = refl
put_all_last (x ∷ xs) cs c = ap (put x) (put_all_last xs cs c)

pub put_all_turn : {N : Type 0} (xs more cs after all : List (Cell N)) (c : Cell N) → xs ≡ more ++ c ∷ []
    → after ≡ put c cs → put_all xs cs ≡ all → put_all more after ≡ all
put_all_turn xs more cs after all c ex ea h =
    ap (put_all more) ea ∙ sym (put_all_last more cs c) ∙ ap (λ z. put_all z cs) (sym ex) ∙ h

-- what a write puts together
pub written_is : {N : Type 0} (d : Model) (c x : Cell N) (p : ByteRange) (cs rows items : List (Cell N)) → p ≡ place_of d c
    → x ≡ reformed (fate_by_write p) c → rows ≡ map (reformed (fate_by_write p)) (each_becomes (left_by_write d p) cs)
    → items ≡ put x rows → items ≡ written d c cs
written_is d c x p cs rows items ep ex er ei =
    ei ∙ ap (λ z. put z rows) ex ∙ ap (put (reformed (fate_by_write p) c)) er
    ∙ sym (put_reformed (fate_by_write p) c (each_becomes (left_by_write d p) cs))
    ∙ ap (λ (q : ByteRange). map (reformed (fate_by_write q)) (put c (each_becomes (left_by_write d q) cs))) ep
