-- Several places that may be written, one after another.
use Rattle.std.proofs.Common.{◌≡◌, ℕ, ◌+◌, ◌≤◌, Bool, List, ◌∷◌, length, map, drop, refl, sym, ◌∙◌, ap, subst}
use Rattle.std.proofs.lemmas.List.{drop_all}
use Rattle.ep_int.specs.declared.types.Model.{Model}
use Rattle.ep_bitslice.specs.declared.cell.Side.{Side}
use Rattle.ep_domain.specs.Domain.{Ops}
use Rattle.ep_cells.specs.declared.cell.Cell.{Cell}
use Rattle.ep_cells.specs.Cells.{place_of}
use Rattle.ep_cells.specs.Forms.{form_after}
use Rattle.ep_cells.specs.States.{Known}
use Rattle.ep_cells.specs.Weaken.{weakened, fate_by_weak_write}
use Rattle.ep_cell_ranges.specs.Moves.{place_at, weakened_each, form_by_weak_each, blurred_each}
use Rattle.ep_cell_ranges.specs.Ranges.{Form, with_cells, blurred_at}
use Rattle.ep_cell_ranges.specs.Spots.{Spot}
use Rattle.ep_state_ranges.specs.HeldForms.{at_spot, FitsAtEach, form_by_blur_each}
use Rattle.ep_state_ranges.proofs.Carrying.{alone, alone_holds, go_on, go_ends}

-- ---- a cell

pub weaken_turn : {N : Type 0} (D : Ops N) (c : Cell N) (stays : Bool) (q : Spot) (qs : List Spot) (i : ℕ)
    (now after all : Known N) → drop i qs ≡ q ∷ drop (i + 1) qs
    → after ≡ with_cells now (weakened D now.model (at_spot c q) stays now.cells)
    → weakened_each D (at_spot c) stays (drop i qs) now ≡ all
    → weakened_each D (at_spot c) stays (drop (i + 1) qs) after ≡ all
weaken_turn D c stays q qs i now after all e a h =
    ap (weakened_each D (at_spot c) stays (drop (i + 1) qs)) a
    ∙ sym (ap (λ l. weakened_each D (at_spot c) stays l now) e) ∙ h

pub weaken_ends : {N : Type 0} (D : Ops N) (c : Cell N) (stays : Bool) (qs : List Spot) (i : ℕ) (now all : Known N)
    → length qs ≤ i → weakened_each D (at_spot c) stays (drop i qs) now ≡ all → now ≡ all
weaken_ends D c stays qs i now all l h =
    sym (ap (λ z. weakened_each D (at_spot c) stays z now) (drop_all i qs l)) ∙ h

pub model_stays : {N : Type 0} (now after : Known N) (cs : List (Cell N)) (d : Model) → after ≡ with_cells now cs
    → now.model ≡ d → after.model ≡ d
model_stays {N = N} now after cs d e h = ap (λ (k : Known N). k.model) e ∙ h

pub weak_forms_turn : {N : Type 0} (d e : Model) (c : Cell N) (q : Spot) (qs : List Spot) (i : ℕ)
    (us vs all : List Form) → e ≡ d → drop i qs ≡ q ∷ drop (i + 1) qs
    → vs ≡ map (form_after (fate_by_weak_write (place_of e (at_spot c q)))) us
    → map (form_by_weak_each d (at_spot c) (drop i qs)) us ≡ all
    → map (form_by_weak_each d (at_spot c) (drop (i + 1) qs)) vs ≡ all
weak_forms_turn d e c q qs i us vs all m k h j =
    go_on alone alone_holds (form_by_weak_each d (at_spot c) (drop (i + 1) qs))
    (form_after (fate_by_weak_write (place_of d (at_spot c q)))) (form_by_weak_each d (at_spot c) (q ∷ drop (i + 1)
    qs)) us vs all refl
    (h ∙ ap (λ z. map (form_after (fate_by_weak_write (place_of z (at_spot c q)))) us) m)
    (sym (ap (λ l. map (form_by_weak_each d (at_spot c) l) us) k) ∙ j)

pub weak_forms_end : {N : Type 0} (d : Model) (c : Cell N) (qs : List Spot) (i : ℕ) (us all : List Form)
    → length qs ≤ i → map (form_by_weak_each d (at_spot c) (drop i qs)) us ≡ all → us ≡ all
weak_forms_end d c qs i us all l h =
    go_ends alone alone_holds (form_by_weak_each d (at_spot c) (drop i qs)) us all
    (ap (form_by_weak_each d (at_spot c)) (drop_all i qs l)) h

pub fits_first : {N : Type 0} (d e : Model) (c : Cell N) (q : Spot) (qs : List Spot) (i : ℕ) → e ≡ d
    → drop i qs ≡ q ∷ drop (i + 1) qs → FitsAtEach d c (drop i qs) → FitsAtEach e c (q ∷ drop (i + 1) qs)
fits_first d e c q qs i m k h = subst (λ z. FitsAtEach z c (q ∷ drop (i + 1) qs)) (sym m) (subst (FitsAtEach d c) k h)

-- ---- whatever

pub blur_turn : {N : Type 0} (D : Ops N) (s : Side) (n : ℕ) (q : Spot) (qs : List Spot) (i : ℕ)
    (now after all : Known N) → drop i qs ≡ q ∷ drop (i + 1) qs → after ≡ blurred_at D (place_at s q n) now
    → blurred_each D s n (drop i qs) now ≡ all → blurred_each D s n (drop (i + 1) qs) after ≡ all
blur_turn D s n q qs i now after all e a h =
    ap (blurred_each D s n (drop (i + 1) qs)) a ∙ sym (ap (λ l. blurred_each D s n l now) e) ∙ h

pub blur_ends : {N : Type 0} (D : Ops N) (s : Side) (n : ℕ) (qs : List Spot) (i : ℕ) (now all : Known N)
    → length qs ≤ i → blurred_each D s n (drop i qs) now ≡ all → now ≡ all
blur_ends D s n qs i now all l h = sym (ap (λ z. blurred_each D s n z now) (drop_all i qs l)) ∙ h

pub blur_forms_turn : (s : Side) (n : ℕ) (q : Spot) (qs : List Spot) (i : ℕ) (us vs all : List Form)
    → drop i qs ≡ q ∷ drop (i + 1) qs → vs ≡ map (form_after (fate_by_weak_write (place_at s q n))) us
    → map (form_by_blur_each s n (drop i qs)) us ≡ all → map (form_by_blur_each s n (drop (i + 1) qs)) vs ≡ all
blur_forms_turn s n q qs i us vs all k h j =
    go_on alone alone_holds (form_by_blur_each s n (drop (i + 1) qs)) (form_after (fate_by_weak_write (place_at s q n)))
    (form_by_blur_each s n (q ∷ drop (i + 1) qs)) us vs all refl h
    (sym (ap (λ l. map (form_by_blur_each s n l) us) k) ∙ j)

pub blur_forms_end : (s : Side) (n : ℕ) (qs : List Spot) (i : ℕ) (us all : List Form) → length qs ≤ i
    → map (form_by_blur_each s n (drop i qs)) us ≡ all → us ≡ all
blur_forms_end s n qs i us all l h =
    go_ends alone alone_holds (form_by_blur_each s n (drop i qs)) us all
    (ap (form_by_blur_each s n) (drop_all i qs l)) h
