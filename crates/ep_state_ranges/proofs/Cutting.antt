-- Cells that are split on the sides of a place, and forms that go along.
use Rattle.std.proofs.Common.{◌≡◌, ℕ, ◌+◌, ◌≤◌, false, List, [], ◌∷◌, length, map, drop, Some}
use Rattle.ep_cell_ranges.proofs.Cut.{none_cut}
use Rattle.std.proofs.Common.{None, refl, sym, ◌∙◌, ap, subst}
use Rattle.std.specs.Option.{option_map_or}
use Rattle.std.proofs.lemmas.List.{drop_all}
use Rattle.ep_bitslice.specs.declared.cell.Side.{Side}
use Rattle.ep_bitslice.specs.declared.cell.Side.TheVariants.{Left, Right, Shared}
use Rattle.ep_domain.specs.Domain.{Ops}
use Rattle.ep_cells.specs.declared.cell.Cell.{Cell}
use Rattle.ep_cells.specs.declared.place.ByteRange.{ByteRange}
use Rattle.ep_cells.specs.Both.{cell_like}
use Rattle.ep_cells.specs.Forms.{form_after}
use Rattle.ep_cells.specs.Look.{is_some_partly_in}
use Rattle.ep_cells.specs.States.{Known, AreCells}
use Rattle.ep_reads.specs.Split.{cut_cells, fate_by_split, split_like, split_all}
use Rattle.ep_cell_ranges.specs.Ranges.{Reform, form_by_like, form_by_splits, form_by_split, form_by_cut}
use Rattle.ep_cell_ranges.specs.Ranges.{form_by_cut_on, split_at, cut, cut_on, replaced, overwritten, with_form}
use Rattle.ep_cell_ranges.specs.Sound.{AreNew}
use Rattle.ep_cell_ranges.specs.Laws.{ReplaceLaws}
use Rattle.ep_state_ranges.proofs.Carrying.{Holds, stay, go_twice, go_on, go_ends}

-- ---- one cell after the other

-- the cells that are known of don't matter
form_known : {N : Type 0} (D : Ops N) (k : Known N) (us : List (Cell N)) (s : Side) (xs cs : List (Cell N))
    → form_by_splits D (record k { cells = us }) s xs cs ≡ form_by_splits D k s xs cs
form_known D k us s [] cs = refl
form_known D k us s (x ∷ xs) cs =
    ap (λ (g : Reform). let h : Reform = λ f. g (form_by_like D s x cs f) in h)
    (form_known D k us s xs (split_like D k s x cs))

form_turn : {N : Type 0} (D : Ops N) (k after : Known N) (s : Side) (x : Cell N) (rest : List (Cell N))
    → after ≡ record k { cells = split_like D k s x k.cells }
    → form_by_splits D k s (x ∷ rest) k.cells
    ≡ (λ f. form_by_splits D after s rest after.cells (form_by_like D s x k.cells f))
form_turn {N = N} D k after s x rest e =
    subst (λ (z : Known N). form_by_splits D k s (x ∷ rest) k.cells ≡ (λ f. form_by_splits D z s rest z.cells
    (form_by_like D s x k.cells f))) (sym e)
    (sym (ap (λ (g : Reform). let h : Reform = λ f. g (form_by_like D s x k.cells f) in h)
    (form_known D k (split_like D k s x k.cells) s rest (split_like D k s x k.cells))))

pub like_none : {N : Type 0} (D : Ops N) (s : Side) (x : Cell N) (cs : List (Cell N)) → None ≡ cell_like x cs
    → form_by_like D s x cs ≡ (λ f. f)
like_none D s x cs e =
    sym (ap (λ o. let h : Reform = λ f. option_map_or (λ y. form_after (fate_by_split s y) f) o f in h) e)

pub like_some : {N : Type 0} (D : Ops N) (s : Side) (x y : Cell N) (cs : List (Cell N)) → Some y ≡ cell_like x cs
    → form_after (fate_by_split s y) ≡ form_by_like D s x cs
like_some D s x y cs e =
    ap (λ o. let h : Reform = λ f. option_map_or (λ y. form_after (fate_by_split s y) f) o f in h) e

side_of : (p : ByteRange) (s : Side) → p.side ≡ s → (let r : ByteRange = record p { side = s } in r) ≡ p
side_of p s e = sym (ap (λ z. let r : ByteRange = record p { side = z } in r) e)

module _ {A : Type 0} (W : Reform → A → A) (w : Holds W) where
  pub split_turn : {N : Type 0} (D : Ops N) (s : Side) (x : Cell N) (xs : List (Cell N)) (i : ℕ) (now after : Known N)
      (us vs all : List A) → drop i xs ≡ x ∷ drop (i + 1) xs
      → after ≡ record now { cells = split_like D now s x now.cells }
      → vs ≡ map (W (form_by_like D s x now.cells)) us
      → map (W (form_by_splits D now s (drop i xs) now.cells)) us ≡ all
      → map (W (form_by_splits D after s (drop (i + 1) xs) after.cells)) vs ≡ all
  split_turn D s x xs i now after us vs all e a h k =
      go_on W w (form_by_splits D after s (drop (i + 1) xs) after.cells) (form_by_like D s x now.cells)
      (form_by_splits D now s (x ∷ drop (i + 1) xs) now.cells) us vs all
      (form_turn D now after s x (drop (i + 1) xs) a) h
      (sym (ap (λ l. map (W (form_by_splits D now s l now.cells)) us) e) ∙ k)

  pub split_ends : {N : Type 0} (D : Ops N) (s : Side) (xs : List (Cell N)) (i : ℕ) (now : Known N) (us all : List A)
      → length xs ≤ i → map (W (form_by_splits D now s (drop i xs) now.cells)) us ≡ all → us ≡ all
  split_ends D s xs i now us all l k =
      go_ends W w (form_by_splits D now s (drop i xs) now.cells) us all
      (ap (λ z. form_by_splits D now s z now.cells) (drop_all i xs l)) k

  -- ---- a place of one side

  pub uncut_stay : {N : Type 0} (D : Ops N) (k : Known N) (p : ByteRange) (us : List A)
      → is_some_partly_in k.model p k.cells ≡ false → us ≡ map (W (form_by_split D p k)) us
  uncut_stay D k p us e =
      stay W w (form_by_split D p k) us
      (ap (λ xs. form_by_splits D k p.side xs k.cells) (none_cut k.model p k.cells e))

  pub cut_go : {N : Type 0} (D : Ops N) (k : Known N) (p : ByteRange) (xs slice : List (Cell N)) (us vs : List A)
      → slice ≡ xs → xs ≡ cut_cells k.model p k.cells
      → vs ≡ map (W (form_by_splits D k p.side slice k.cells)) us → vs ≡ map (W (form_by_split D p k)) us
  cut_go D k p xs slice us vs f e h = h ∙ ap (λ l. map (W (form_by_splits D k p.side l k.cells)) us) (f ∙ e)

  -- ---- a place of one side or of both

  pub both_go : {N : Type 0} (D : Ops N) (p l r : ByteRange) (k left : Known N) (us vs ws : List A)
      → l ≡ record p { side = Left } → r ≡ record p { side = Right } → left ≡ split_at D l k
      → vs ≡ map (W (form_by_split D l k)) us → ws ≡ map (W (form_by_split D r left)) vs
      → ws ≡ map (W (form_by_cut D (record p { side = Shared }) k)) us
  both_go {N = N} D p l r k left us vs ws el er a h j =
      let on_left : ByteRange = record p { side = Left } in
      let on_right : ByteRange = record p { side = Right } in
      let same : left ≡ split_at D on_left k = a ∙ ap (λ z. split_at D z k) el in
      go_twice W w (form_by_split D on_right (split_at D on_left k)) (form_by_split D on_left k)
      (form_by_cut D (record p { side = Shared }) k) us vs ws refl
      (h ∙ ap (λ z. map (W (form_by_split D z k)) us) el)
      (j
      ∙ ap (λ z. map (W (form_by_split D z left)) vs) er
      ∙ ap (λ (z : Known N). map (W (form_by_split D on_right z)) vs) same)

  pub side_goes : {N : Type 0} (D : Ops N) (s : Side) (p : ByteRange) (k : Known N) (us vs : List A) → p.side ≡ s
      → vs ≡ map (W (form_by_cut_on D s p k)) us → vs ≡ map (W (form_by_cut D p k)) us
  side_goes D s p k us vs e h = h ∙ sym (ap (λ z. map (W (form_by_cut_on D z p k)) us) e)

  pub shared_goes : {N : Type 0} (D : Ops N) (p : ByteRange) (k : Known N) (us vs : List A) → p.side ≡ Shared
      → vs ≡ map (W (form_by_cut D (record p { side = Shared }) k)) us → vs ≡ map (W (form_by_cut D p k)) us
  shared_goes D p k us vs e h = h ∙ ap (λ z. map (W (form_by_cut D z k)) us) (side_of p Shared e)

-- ---- what is known then

pub uncut : {N : Type 0} (D : Ops N) (k : Known N) (p : ByteRange) → is_some_partly_in k.model p k.cells ≡ false
    → k ≡ split_at D p k
uncut D k p e =
    ap (λ cs. record k { cells = cs }) (sym (ap (λ xs. split_all D k p.side xs k.cells) (none_cut k.model p k.cells e)))

pub both_cut : {N : Type 0} (D : Ops N) (p l r : ByteRange) (k left both : Known N) → l ≡ record p { side = Left }
    → r ≡ record p { side = Right } → left ≡ split_at D l k → both ≡ split_at D r left
    → both ≡ cut D (record p { side = Shared }) k
both_cut {N = N} D p l r k left both el er a b =
    let on_left : ByteRange = record p { side = Left } in
    let on_right : ByteRange = record p { side = Right } in
    b
    ∙ ap (λ z. split_at D z left) er
    ∙ ap (λ (z : Known N). split_at D on_right z) (a ∙ ap (λ z. split_at D z k) el)

pub side_cut : {N : Type 0} (D : Ops N) (s : Side) (p : ByteRange) (k after : Known N) → p.side ≡ s → after ≡ cut_on D s p k
    → after ≡ cut D p k
side_cut D s p k after e h = h ∙ sym (ap (λ z. cut_on D z p k) e)

pub shared_cut : {N : Type 0} (D : Ops N) (p : ByteRange) (k after : Known N) → p.side ≡ Shared
    → after ≡ cut D (record p { side = Shared }) k → after ≡ cut D p k
shared_cut D p k after e h = h ∙ ap (λ z. cut D z k) (side_of p Shared e)

-- ---- new cells

pub replace_is : {N : Type 0} (D : Ops N) (p : ByteRange) (k left after : Known N) (new made : List (Cell N))
    → left ≡ cut D p k → made ≡ map (with_form (form_by_cut D p k)) new → after ≡ overwritten D p made left
    → after ≡ replaced D p new k
replace_is {N = N} D p k left after new made el em ea =
    ea
    ∙ ap (λ (z : List (Cell N)). overwritten D p z left) em
    ∙ ap (λ (z : Known N). overwritten D p (map (with_form (form_by_cut D p k)) new) z) el

pub replace_cells : {N : Type 0} (D : Ops N) (p : ByteRange) (k left : Known N) (new made : List (Cell N)) → ReplaceLaws D
    → AreCells k.model k.cells → AreNew k.model p k.cells new → left ≡ cut D p k
    → made ≡ map (with_form (form_by_cut D p k)) new → AreCells left.model (overwritten D p made left).cells
replace_cells {N = N} D p k left new made law a n el em =
    let same : overwritten D p made left ≡ replaced D p new k = replace_is D p k left (overwritten D p made left) new
    made el em refl in
    subst (λ (z : Known N). AreCells z.model z.cells) (sym same)
    (subst (λ d. AreCells d (replaced D p new k).cells) (sym (law.model k p new)) (law.cells k p new a n))
