-- Tests of what operations ask for.
use Rattle.std.proofs.Common.{◌≡◌, Bool, false, ◌&&◌, ◌||◌, not, ◌↔◌, IsTrue, List, [], ◌∷◌, refl, sym, ◌∙◌, ap}
use Rattle.ep_cell_changes.proofs.Checked.{order_of}
use Rattle.std.proofs.lemmas.Bool.{not-true}
use Rattle.std.proofs.lemmas.Bool.{and_from, and_parts, both_ways, or_left, or_right, false_from_ne_true}
use Rattle.ep_int.specs.declared.types.Model.{Model}
use Rattle.ep_cells.specs.declared.cell.Cell.{Cell}
use Rattle.ep_cells.specs.declared.place.ByteRange.{ByteRange}
use Rattle.ep_cells.specs.Cells.{place_of, is_partly_in, IsIn, first, later}
use Rattle.ep_cells.specs.Look.{is_some_partly_in}
use Rattle.ep_cells.specs.States.{HasForm, HasRisingBlocks, Each, AreApart, IsCell, CanWrite}
use Rattle.ep_cell_changes.specs.Tests.{IsBefore}

-- ---- writes

each_before : {N : Type 0} (d : Model) (x : Cell N) (cs : List (Cell N)) → Each (AreApart d x) cs → Each (IsBefore x) cs
each_before d x [] h = tt
each_before d x (c ∷ cs) h = (h.0.ordered, each_before d x cs h.1)

none_cut : {N : Type 0} (d : Model) (p : ByteRange) (cs : List (Cell N)) → is_some_partly_in d p cs ≡ false → (x : Cell N)
    → IsIn x cs → is_partly_in p (place_of d x) ≡ false
none_cut d p [] h x k = elim k [ ]
none_cut d p (c ∷ cs) h _ (first _) = false_from_ne_true (is_partly_in p (place_of d c)) (λ e. both_ways
    (is_some_partly_in d p (c ∷ cs)) h (or_left (is_partly_in p (place_of d c)) (is_some_partly_in d p cs) e))
none_cut d p (c ∷ cs) h x (later _ _ k) = none_cut d p cs (false_from_ne_true (is_some_partly_in d p cs) (λ e. both_ways
    (is_some_partly_in d p (c ∷ cs)) h (or_right (is_partly_in p (place_of d c)) (is_some_partly_in d p cs) e))) x k

cut_none : {N : Type 0} (d : Model) (p : ByteRange) (cs : List (Cell N)) → ((x : Cell N) → IsIn x cs
    → is_partly_in p (place_of d x) ≡ false) → is_some_partly_in d p cs ≡ false
cut_none d p [] h = refl
cut_none d p (c ∷ cs) h =
    ap (λ b. b || is_some_partly_in d p cs) (h c (first cs)) ∙ cut_none d p cs (λ x k. h x (later c cs k))

pub can_write_is : {N : Type 0} (d : Model) (c : Cell N) (cs : List (Cell N)) (q : ByteRange) (a f p : Bool)
    → HasRisingBlocks c.value → (IsTrue a ↔ IsCell d c) → (IsTrue f ↔ HasForm cs c) → q ≡ place_of d c
    → p ≡ is_some_partly_in d q cs → IsTrue ((a && f) && not p) ↔ CanWrite d c cs
can_write_is d c cs q a f p r ha hf e hp = (
  λ h.
      let x = and_parts (a && f) (not p) h in
      let y = and_parts a f x.0 in
      record {
        fits = (ha.0 y.0).fits;
        form = hf.0 y.1;
        none_cut = none_cut d (place_of d c) cs (sym (hp ∙ ap (λ z. is_some_partly_in d z cs) e) ∙ not-true p x.1);
      },
  λ w. and_from (a && f) (not p) (and_from a f (ha.1 (record { fits = w.fits; rising = r })) (hf.1 w.form))
      (ap not (hp ∙ ap (λ z. is_some_partly_in d z cs) e ∙ cut_none d (place_of d c) cs w.none_cut)),
)
