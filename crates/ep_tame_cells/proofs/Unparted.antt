-- Cells of both memories alone are never reshared, parted or split.
use Rattle.std.proofs.Common.{◌≡◌, ℕ, zero, suc, ◌+◌, Bool, true, false, ◌&&◌, cond, List, [], ◌∷◌, ◌++◌, map, length}
use Rattle.std.proofs.Common.{Option, Some, None, refl, sym, ap, ◌∙◌}
use Rattle.std.specs.Prelude.{option_map, is_some, IfSome}
use Rattle.std.specs.List.{list_any, filter}
use Rattle.std.proofs.lemmas.Bool.{or_left, or_right}
use Rattle.ep_int.specs.declared.types.Model.{Model}
use Rattle.ep_bitslice.specs.declared.cell.Side.TheVariants.{Left, Shared}
use Rattle.ep_bitslice.specs.declared.cell.CellName.{CellName}
use Rattle.ep_bitslice.specs.declared.segment.Segment.{Segment}
use Rattle.ep_bitslice.specs.Bits.{Bit, fixed, cell_bit, mentions, is_bit_of}
use Rattle.ep_bitslice.specs.Segments.{bits, normal, IsForm}
use Rattle.ep_bitslice.proofs.NormalForm.{form_is_normal}
use Rattle.ep_bitslice.proofs.Joining.{cell_itself}
use Rattle.ep_domain.specs.Domain.{Ops}
use Rattle.ep_cells.specs.declared.cell.Cell.{Cell}
use Rattle.ep_cells.specs.declared.place.ByteRange.{ByteRange}
use Rattle.ep_cells.specs.Cells.{IsIn, first, later, put_all, each_becomes, place_of, place_of_name, meets}
use Rattle.ep_cells.specs.Cells.{is_same_side, parts_of}
use Rattle.ep_cells.specs.Forms.{Fate, put_bit, bits_after, form_after, reformed}
use Rattle.ep_cells.specs.Both.{cell_like}
use Rattle.ep_cells.specs.Reshare.{places, reshared}
use Rattle.ep_cells.specs.States.{Known, AreCells, HasForm, IsThere, IsFormOf}
use Rattle.ep_reads.specs.Split.{is_name_of}
use Rattle.ep_reads.specs.Unify.{is_of_one_side, faces, left_by_facing, fate_by_facing, parted, parted_times}
use Rattle.ep_reads.specs.Unify.{parted_both, is_crossed, crossed_all, uncrossed, uncrossed_both, left_by_lack}
use Rattle.ep_reads.specs.Unify.{fate_by_lack, had_by_both, had_both, unified}
use Rattle.ep_reads.proofs.Parted.{put_sorted}
use Rattle.ep_reads.proofs.Sides.{named_same}
use Rattle.ep_reads.proofs.Splits.{first_like}
use Rattle.ep_cells.proofs.Both.{alike_same, alike_sym}
use Rattle.ep_tame_cells.proofs.Over.{same_alike}
use Rattle.ep_tame_cells.specs.Shared.{AreShared, AreSharedCells, AreUncrossed, AreHad}

-- ---- forms whose mentions stay

-- each mention of these bits goes on as it is
abbrev StaysIn : Fate → List Bit → Type 0
StaysIn f bs = (n : CellName) → mentions n bs ≡ true → f n ≡ Some n

bits_stay : (f : Fate) (bs : List Bit) → StaysIn f bs → bits_after f bs ≡ Some bs
bits_stay f [] h = refl
bits_stay f (fixed b ∷ bs) h =
    ap (put_bit (Some (fixed b))) (bits_stay f bs (λ n m. h n (or_right (is_bit_of n (fixed b)) (mentions n bs) m)))
bits_stay f (cell_bit c k ∷ bs) h =
    ap (λ o. put_bit (option_map (λ e. cell_bit e k) o) (bits_after f bs))
    (h c (or_left (is_bit_of c (cell_bit c k)) (mentions c bs) (cell_itself c)))
    ∙ ap (put_bit (Some (cell_bit c k)))
    (bits_stay f bs (λ n m. h n (or_right (is_bit_of n (cell_bit c k)) (mentions n bs) m)))

form_stays : (f : Fate) (ss : List Segment) → IsForm ss → StaysIn f (bits ss) → form_after f (Some ss) ≡ Some ss
form_stays f ss form h = ap (option_map normal) (bits_stay f (bits ss) h) ∙ ap Some (form_is_normal ss form)

module _ {N : Type 0} where
  -- a cell whose form's mentions stay
  cell_stays : (cs : List (Cell N)) (f : Fate) (c : Cell N) → HasForm cs c
      → ((n : CellName) → IsThere n cs → f n ≡ Some n) → reformed f c ≡ c
  cell_stays cs f c form h = ap (λ g. record c { form = g }) (by_form c.form refl form)
    where
      by_form : (g : Option (List Segment)) → c.form ≡ g → IfSome g (IsFormOf cs c) → form_after f g ≡ g
      by_form None e i = refl
      by_form (Some ss) e i = form_stays f ss i.form (λ n m. h n (i.mentioned n m))

  cells_stay : (all cs : List (Cell N)) (f : Fate) → ((c : Cell N) → IsIn c cs → HasForm all c)
      → ((n : CellName) → IsThere n all → f n ≡ Some n) → map (reformed f) cs ≡ cs
  cells_stay all [] f forms h = refl
  cells_stay all (c ∷ cs) f forms h =
      ap (λ x. x ∷ map (reformed f) cs) (cell_stays all f c (forms c (first cs)) h)
      ∙ ap (λ xs. c ∷ xs) (cells_stay all cs f (λ x i. forms x (later c cs i)) h)

  -- each cell becomes itself
  each_itself : (f : Cell N → List (Cell N)) (cs : List (Cell N)) → ((x : Cell N) → IsIn x cs → f x ≡ x ∷ [])
      → each_becomes f cs ≡ cs
  each_itself f [] h = refl
  each_itself f (c ∷ cs) h =
      ap (λ xs. xs ++ each_becomes f cs) (h c (first cs))
      ∙ ap (λ xs. c ∷ xs) (each_itself f cs (λ x i. h x (later c cs i)))

  -- ---- resharing

  no_places : (cs : List (Cell N)) → AreShared cs → places cs ≡ []
  no_places [] s = refl
  no_places (c ∷ cs) s = rw (s.0) (no_places cs s.1)

  pub reshared_shared : (D : Ops N) (cs : List (Cell N)) → AreShared cs → reshared D cs ≡ cs
  reshared_shared D cs s = rw (no_places cs s) refl

  -- ---- parting

  none_of_one_side : (d : Model) (p : ByteRange) (ys : List (Cell N)) → AreShared ys
      → list_any (λ (y : Cell N). is_of_one_side y && meets p (place_of d y)) ys ≡ false
  none_of_one_side d p [] s = refl
  none_of_one_side d p (y ∷ ys) s = rw (s.0) (none_of_one_side d p ys s.1)

  none_faced : (d : Model) (ys : List (Cell N)) → AreShared ys → (p : ByteRange) → faces d ys p ≡ false
  none_faced d ys s p =
      ap (λ b. is_same_side p.side Shared && b) (none_of_one_side d p ys s) ∙ and_false (is_same_side p.side Shared)
    where
      and_false : (b : Bool) → (b && false) ≡ false
      and_false true = refl
      and_false false = refl

  parted_shared : (d : Model) (ys xs : List (Cell N)) → AreShared ys → AreCells d xs → parted d ys xs ≡ xs
  parted_shared d ys xs s a =
      ap (λ zs. map (reformed (fate_by_facing d ys)) (put_all zs []))
      (each_itself (left_by_facing d ys) xs (λ x i.
      ap (λ b. cond b (parts_of x) (x ∷ [])) (none_faced d ys s (place_of d x))))
      ∙ ap (map (reformed (fate_by_facing d ys))) (put_sorted d xs a.pairs)
      ∙ cells_stay xs xs (fate_by_facing d ys) a.forms
      (λ n there. ap (λ b. Some (cond b (record n { side = Left }) n)) (none_faced d ys s (place_of_name n)))

  times_shared : (d : Model) (xs ys : List (Cell N)) → AreSharedCells d xs → AreSharedCells d ys → (n : ℕ)
      → parted_times d n (xs, ys) ≡ (xs, ys)
  times_shared d xs ys a b zero = refl
  times_shared d xs ys a b (suc n) =
      ap (parted_times d n) (once a b) ∙ times_shared d xs ys a b n
    where
      both_with : (f g : List (Cell N) → List (Cell N)) → List (Cell N) → List (Cell N) × List (Cell N)
      both_with f g zs = (f zs, g zs)

      once : AreSharedCells d xs → AreSharedCells d ys → ◌≡◌ {A = List (Cell N) × List (Cell N)}
          (parted d ys xs, parted d (parted d ys xs) ys) (xs, ys)
      once a b =
          ap (both_with (λ zs. zs) (λ zs. parted d zs ys)) (parted_shared d ys xs b.shared a.cells)
          ∙ ap (both_with (λ zs. xs) (λ zs. zs)) (parted_shared d xs ys a.shared b.cells)

  -- ---- splitting

  none_kept : (test : Cell N → Bool) (xs : List (Cell N)) → ((x : Cell N) → IsIn x xs → test x ≡ false)
      → filter test xs ≡ []
  none_kept test [] h = refl
  none_kept test (x ∷ xs) h = rw (h x (first xs)) (none_kept test xs (λ y i. h y (later x xs i)))

  uncrossed_shared : (D : Ops N) (k : Known N) (ys xs : List (Cell N)) → AreUncrossed k.model xs ys
      → uncrossed D k ys xs ≡ xs
  uncrossed_shared D k ys xs h = ap (λ zs. crossed_all D k zs xs) (none_kept (is_crossed k.model ys) xs h)

  pub unified_shared : (D : Ops N) (k : Known N) (ys : List (Cell N)) → AreSharedCells k.model k.cells
      → AreSharedCells k.model ys → AreUncrossed k.model k.cells ys → AreUncrossed k.model ys k.cells
      → unified D k (record k { cells = ys }) ≡ (had_by_both ys k.cells, had_by_both k.cells ys)
  unified_shared D k ys a b u v =
      ap (λ zs. had_both (uncrossed_both D k (parted_both k.model (zs, reshared D ys))))
      (reshared_shared D k.cells a.shared)
      ∙ ap (λ zs. had_both (uncrossed_both D k (parted_both k.model (k.cells, zs)))) (reshared_shared D ys b.shared)
      ∙ ap (λ p. had_both (uncrossed_both D k p)) (times_shared k.model k.cells ys a b (length k.cells + length ys))
      ∙ ap (λ zs. had_both (zs, uncrossed D k k.cells ys)) (uncrossed_shared D k ys k.cells u)
      ∙ ap (λ zs. had_both (k.cells, zs)) (uncrossed_shared D k k.cells ys v)

  -- ---- what the other state has

  any_in : (test : Cell N → Bool) (ys : List (Cell N)) (y : Cell N) → IsIn y ys → test y ≡ true
      → list_any test ys ≡ true
  any_in test [] y i h = elim i [ ]
  any_in test (_ ∷ ys) y (first _) h = or_left (test y) (list_any test ys) h
  any_in test (z ∷ ys) y (later _ _ i) h = or_right (test z) (list_any test ys) (any_in test ys y i h)

  name_there : (xs ys : List (Cell N)) → AreHad xs ys → (n : CellName) → IsThere n xs
      → list_any (is_name_of n) ys ≡ true
  name_there xs ys had n there = by_like (cell_like there.cell ys) refl (had there.cell there.is_in)
    where
      by_like : (o : Option (Cell N)) → cell_like there.cell ys ≡ o → is_some o ≡ true
          → list_any (is_name_of n) ys ≡ true
      by_like None e h = absurd cc
      by_like (Some y) e h =
          let q = first_like there.cell ys y e in
          any_in (is_name_of n) ys y q.is_in
          (sym (named_same n there.cell y there.named)
          ∙ same_alike there.cell y (alike_sym y there.cell (alike_same y there.cell q.same)))

  pub had_stays : (d : Model) (xs ys : List (Cell N)) → AreSharedCells d xs → AreHad xs ys → had_by_both ys xs ≡ xs
  had_stays d xs ys a had =
      ap (map (reformed (fate_by_lack ys)))
      (each_itself (left_by_lack ys) xs (λ x i. ap (λ b. cond b (x ∷ []) []) (had x i)))
      ∙ cells_stay xs xs (fate_by_lack ys) a.cells.forms
      (λ n there. ap (λ b. cond b (Some n) None) (name_there xs ys had n there))
