-- What lies partly in a place is split, on its side or on both.
use Rattle.std.proofs.Common.{◌≡◌, ℕ, Bool, true, false, ◌||◌, List, [], ◌∷◌, Option, Some, None, refl, ap, ◌∙◌}
use Rattle.std.proofs.Common.{cond}
use Rattle.ep_int.specs.declared.types.Model.{Model}
use Rattle.ep_int.specs.declared.types.Scalar.{Scalar}
use Rattle.ep_int.specs.Types.{size_of}
use Rattle.ep_int.specs.Memory.{Memory, Value as Datum, broken}
use Rattle.ep_bitslice.specs.declared.cell.Side.{Side as CellSide}
use Rattle.ep_bitslice.specs.declared.cell.Side.TheVariants.{Left, Right, Shared}
use Rattle.ep_domain.specs.Domain.{Ops}
use Rattle.ep_cells.specs.declared.cell.Cell.{Cell}
use Rattle.ep_cells.specs.declared.place.ByteRange.{ByteRange}
use Rattle.ep_cells.specs.Cells.{place_of, on_left, on_right, is_partly_in}
use Rattle.ep_cells.specs.Look.{is_some_partly_in}
use Rattle.ep_cells.specs.Forms.{form_after}
use Rattle.ep_cells.specs.States.{Known, AreCells}
use Rattle.ep_cells.specs.Meaning.{Memories, In}
use Rattle.ep_reads.specs.SplitLaws.{AreBroken, SplitLaws}
use Rattle.std.specs.Option.{option_map_or}
use Rattle.ep_cells.specs.Both.{cell_like}
use Rattle.ep_reads.specs.Split.{cut_cells, fate_by_split, split_like, split}
use Rattle.ep_cell_ranges.specs.Ranges.{Form, form_by_splits, form_by_split, split_at, cut, form_by_cut}
use Rattle.ep_cell_ranges.specs.Follow.{FormFits, FormHas}
use Rattle.ep_cell_ranges.specs.Laws.{MoreSplitLaws}

-- ---- where no cell lies partly in the place

pub none_cut : {N : Type 0} (d : Model) (p : ByteRange) (cs : List (Cell N)) → is_some_partly_in d p cs ≡ false
    → cut_cells d p cs ≡ []
none_cut d p [] e = refl
none_cut d p (c ∷ cs) e = by (is_partly_in p (place_of d c)) e (none_cut d p cs)
  where
    by : (b : Bool) → (b || is_some_partly_in d p cs) ≡ false
        → (is_some_partly_in d p cs ≡ false → cut_cells d p cs ≡ [])
        → cond b (c ∷ cut_cells d p cs) (cut_cells d p cs) ≡ []
    by true e h = absurd (cc)
    by false e h = h e

-- ---- the memory with what is broken on the sides of a place

abbrev pub broken_if : Bool → Model → ByteRange → Memory → Memory
broken_if true d p m = broken d m p.block p.offset p.bytes
broken_if false d p m = m

abbrev pub broken_on : Model → ByteRange → Memories → Memories
broken_on d p m = record {
  left = broken_if (on_left p.side) d p m.left;
  right = broken_if (on_right p.side) d p m.right;
}

module _ {N : Type 0} (D : Ops N) (law : SplitLaws D) (more : MoreSplitLaws D) where
  -- what is left where nothing lies partly in the place
  pub record IsCut (k : Known N) (p : ByteRange) : Type 0 where
    pub cells : AreCells k.model (cut D p k).cells
    pub uncut : is_some_partly_in k.model p (cut D p k).cells ≡ false
    pub holds : (m : Memories) → In D k m → In D (record k { cells = (cut D p k).cells }) (broken_on k.model p m)
    pub fits : (w : Scalar) (f : Form) → FormFits k.cells w f → FormFits (cut D p k).cells w (form_by_cut D p k f)
    pub numbers : (m : Memories) → In D k m → (w : Scalar) (v : Datum) (f : Form) → FormFits k.cells w f
        → FormHas k.orders m w v f → FormHas k.orders (broken_on k.model p m) w v (form_by_cut D p k f)

  left_broken : (d : Model) (b q n : ℕ) (m : Memories)
      → AreBroken d (record { side = Left; block = b; offset = q; bytes = n }) m
      (record { left = broken d m.left b q n; right = m.right })
  left_broken d b q n m = record {
    left = record { here_broken = λ e c j. refl; whole = λ e. absurd (cc) };
    right = record { here_broken = λ e. absurd (cc); whole = λ e c j. refl };
  }

  right_broken : (d : Model) (b q n : ℕ) (m : Memories)
      → AreBroken d (record { side = Right; block = b; offset = q; bytes = n }) m
      (record { left = m.left; right = broken d m.right b q n })
  right_broken d b q n m = record {
    left = record { here_broken = λ e. absurd (cc); whole = λ e c j. refl };
    right = record { here_broken = λ e c j. refl; whole = λ e. absurd (cc) };
  }

  both_uncut : (d : Model) (b q n : ℕ) (cs : List (Cell N))
      → is_some_partly_in d (record { side = Left; block = b; offset = q; bytes = n }) cs ≡ false
      → is_some_partly_in d (record { side = Right; block = b; offset = q; bytes = n }) cs ≡ false
      → is_some_partly_in d (record { side = Shared; block = b; offset = q; bytes = n }) cs ≡ false
  both_uncut d b q n [] e f = refl
  both_uncut d b q n (c ∷ cs) e f =
      let u = or_false (is_partly_in (record { side = Left; block = b; offset = q; bytes = n }) (place_of d c))
      (is_some_partly_in d (record { side = Left; block = b; offset = q; bytes = n }) cs) e in
      let v = or_false (is_partly_in (record { side = Right; block = b; offset = q; bytes = n }) (place_of d c))
      (is_some_partly_in d (record { side = Right; block = b; offset = q; bytes = n }) cs) f in
      false_or (is_partly_in (record { side = Shared; block = b; offset = q; bytes = n }) (place_of d c))
      (is_some_partly_in d (record { side = Shared; block = b; offset = q; bytes = n }) cs)
      (one_uncut c.side c.block c.offset (size_of d c.what) u.0 v.0) (both_uncut d b q n cs u.1 v.1)
    where
      or_false : (x y : Bool) → (x || y) ≡ false → (x ≡ false) × (y ≡ false)
      or_false true y h = absurd (cc)
      or_false false y h = (refl, h)

      false_or : (x y : Bool) → x ≡ false → y ≡ false → (x || y) ≡ false
      false_or true y h i = absurd (cc)
      false_or false y h i = i

      one_uncut : (s : CellSide) (c r z : ℕ)
          → is_partly_in (record { side = Left; block = b; offset = q; bytes = n })
          (record { side = s; block = c; offset = r; bytes = z }) ≡ false
          → is_partly_in (record { side = Right; block = b; offset = q; bytes = n })
          (record { side = s; block = c; offset = r; bytes = z }) ≡ false
          → is_partly_in (record { side = Shared; block = b; offset = q; bytes = n })
          (record { side = s; block = c; offset = r; bytes = z }) ≡ false
      one_uncut Left c r z h i = h
      one_uncut Right c r z h i = i
      one_uncut Shared c r z h i = h

  pub is_cut : (s : CellSide) (b q n : ℕ) (k : Known N) → AreCells k.model k.cells
      → IsCut k (record { side = s; block = b; offset = q; bytes = n })
  is_cut Left b q n k a =
      let p : ByteRange = record { side = Left; block = b; offset = q; bytes = n } in record {
        cells = law.cells k p a refl;
        uncut = law.none_cut k p a refl;
        holds = λ m i. law.holds k p a refl m (broken_on k.model p m) i (left_broken k.model b q n m);
        fits = λ w f h. more.fits k p a refl w f h;
        numbers = λ m i w v f h j. more.numbers k p a refl m (broken_on k.model p m) i (left_broken k.model b q n m) w v
            f h j;
      }
  is_cut Right b q n k a =
      let p : ByteRange = record { side = Right; block = b; offset = q; bytes = n } in record {
        cells = law.cells k p a refl;
        uncut = law.none_cut k p a refl;
        holds = λ m i. law.holds k p a refl m (broken_on k.model p m) i (right_broken k.model b q n m);
        fits = λ w f h. more.fits k p a refl w f h;
        numbers = λ m i w v f h j. more.numbers k p a refl m (broken_on k.model p m) i (right_broken k.model b q n m) w
            v f h j;
      }
  is_cut Shared b q n k a =
      let l : ByteRange = record { side = Left; block = b; offset = q; bytes = n } in
      let r : ByteRange = record { side = Right; block = b; offset = q; bytes = n } in
      let j = split_at D l k in
      let c : AreCells k.model (split D k l) = law.cells k l a refl in record {
        cells = law.cells j r c refl;
        uncut = both_uncut k.model b q n (split D j r) (more.uncut j r l c refl (law.none_cut k l a refl))
            (law.none_cut j r c refl);
        holds = λ m i.
            let h : Memories = record { left = broken k.model m.left b q n; right = m.right } in
            law.holds j r c refl h (record { left = h.left; right = broken k.model h.right b q n })
            (law.holds k l a refl m h i (left_broken k.model b q n m))
            (right_broken k.model b q n h);
        fits = λ w f h. more.fits j r c refl w (form_by_split D l k f) (more.fits k l a refl w f h);
        numbers = λ m i w v f h g.
            let o : Memories = record { left = broken k.model m.left b q n; right = m.right } in
            more.numbers j r c refl o (record { left = o.left; right = broken k.model o.right b q n })
            (law.holds k l a refl m o i (left_broken k.model b q n m))
            (right_broken k.model b q n o) w v (form_by_split D l k f) (more.fits k l a refl w f h)
            (more.numbers k l a refl m o i (left_broken k.model b q n m) w v f h g);
      }

  -- ---- no form stays none

  none_by_like : (s : CellSide) (o : Option (Cell N))
      → option_map_or (λ y. form_after (fate_by_split s y) None) o None ≡ None
  none_by_like s None = refl
  none_by_like s (Some y) = refl

  none_by_splits : (k : Known N) (s : CellSide) (xs cs : List (Cell N)) → form_by_splits D k s xs cs None ≡ None
  none_by_splits k s [] cs = refl
  none_by_splits k s (x ∷ xs) cs =
      ap (form_by_splits D k s xs (split_like D k s x cs)) (none_by_like s (cell_like x cs))
      ∙ none_by_splits k s xs (split_like D k s x cs)

  none_by_split : (p : ByteRange) (k : Known N) → form_by_split D p k None ≡ None
  none_by_split p k = none_by_splits k p.side (cut_cells k.model p k.cells) k.cells

  pub none_by_cut : (s : CellSide) (b q n : ℕ) (k : Known N)
      → form_by_cut D (record { side = s; block = b; offset = q; bytes = n }) k None ≡ None
  none_by_cut Left b q n k = none_by_split (record { side = Left; block = b; offset = q; bytes = n }) k
  none_by_cut Right b q n k = none_by_split (record { side = Right; block = b; offset = q; bytes = n }) k
  none_by_cut Shared b q n k =
      let l : ByteRange = record { side = Left; block = b; offset = q; bytes = n } in
      let r : ByteRange = record { side = Right; block = b; offset = q; bytes = n } in
      ap (form_by_split D r (split_at D l k)) (none_by_split l k) ∙ none_by_split r (split_at D l k)
