-- Where no cell lies partly in a place, a cut of its first bytes doesn't matter once the place is written, and the
-- place itself cuts nothing.
use Rattle.std.proofs.Common.{◌≡◌, ℕ, ◌+◌, ◌≤◌, ◌<◌, Bool, true, false, ◌&&◌, ◌||◌, not, nat_eq, nat_lt, nat_le, cond}
use Rattle.std.proofs.lemmas.Bool.{and_from, or_from, or_parts}
use Rattle.std.proofs.Common.{List, [], ◌∷◌, map, Some, None, refl, ap, ◌∙◌, arith}
use Rattle.std.specs.List.{filter}
use Rattle.std.proofs.lemmas.Bool.Decides.{nat_tests}
use Rattle.std.proofs.lemmas.Bool.{and_parts}
use Rattle.ep_int.specs.declared.types.Model.{Model}
use Rattle.ep_int.specs.Types.{size_of}
use Rattle.ep_bitslice.specs.declared.cell.Side.{Side}
use Rattle.ep_bitslice.specs.declared.cell.Side.TheVariants.{Left, Right, Shared}
use Rattle.ep_domain.specs.Domain.{Ops}
use Rattle.ep_cells.specs.declared.cell.Cell.{Cell}
use Rattle.ep_cells.specs.declared.place.ByteRange.{ByteRange}
use Rattle.ep_cells.specs.Cells.{place_of, share_memory, side_without, touches, meets, encloses, is_partly_in, IsIn}
use Rattle.ep_cells.specs.Cells.{first, later}
use Rattle.ep_cells.specs.Forms.{form_after}
use Rattle.ep_cells.specs.Look.{is_some_partly_in}
use Rattle.ep_cells.specs.Write.{fate_by_write}
use Rattle.ep_cells.specs.States.{Known, AreCells}
use Rattle.ep_reads.specs.Split.{cut_cells, split_all, split}
use Rattle.ep_cell_ranges.specs.Ranges.{Form, with_cells, with_form, form_by_splits, split_at, cut, form_by_split}
use Rattle.ep_cell_ranges.specs.Ranges.{form_by_cut, replaced, overwritten}
use Rattle.ep_reads.specs.SplitLaws.{SplitLaws}
use Rattle.ep_cell_ranges.specs.Laws.{MoreSplitLaws}
use Rattle.ep_cells.proofs.Places.{at}
use Rattle.ep_transfer_writes.proofs.Absorbed.{IsTaken, AllTaken, wrote, all_split, form_split}

-- ---- tests of lists

module _ {N : Type 0} where
  pub none_in : (d : Model) (p : ByteRange) (cs : List (Cell N)) → is_some_partly_in d p cs ≡ false → (x : Cell N)
      → IsIn x cs → is_partly_in p (place_of d x) ≡ false
  none_in d p [] h x i = elim i [ ]
  none_in d p (c ∷ cs) h _ (first _) = (or_parts (is_partly_in p (place_of d c)) (is_some_partly_in d p cs) h).0
  none_in d p (c ∷ cs) h x (later _ _ i) =
      none_in d p cs (or_parts (is_partly_in p (place_of d c)) (is_some_partly_in d p cs) h).1 x i

  pub none_from : (d : Model) (p : ByteRange) (cs : List (Cell N))
      → ((x : Cell N) → IsIn x cs → is_partly_in p (place_of d x) ≡ false) → is_some_partly_in d p cs ≡ false
  none_from d p [] h = refl
  none_from d p (c ∷ cs) h =
      or_from (is_partly_in p (place_of d c)) (is_some_partly_in d p cs) (h c (first cs))
      (none_from d p cs (λ x i. h x (later c cs i)))

  filter_none : (test : Cell N → Bool) (cs : List (Cell N)) → ((x : Cell N) → IsIn x cs → test x ≡ false)
      → filter test cs ≡ []
  filter_none test [] h = refl
  filter_none test (c ∷ cs) h =
      ap (λ t. cond t (c ∷ filter test cs) (filter test cs)) (h c (first cs))
      ∙ filter_none test cs (λ x i. h x (later c cs i))

  pub record Kept (test : Cell N → Bool) (cs : List (Cell N)) (x : Cell N) : Type 0 where
    pub is_in : IsIn x cs
    pub holds : test x ≡ true

  filter_by : (test : Cell N → Bool) (c x : Cell N) (cs : List (Cell N)) (t : Bool) → test c ≡ t
      → (IsIn x (filter test cs) → Kept test cs x) → IsIn x (cond t (c ∷ filter test cs) (filter test cs))
      → Kept test (c ∷ cs) x
  filter_by test c _ cs true e f (first _) = record { is_in = first cs; holds = e }
  filter_by test c x cs true e f (later _ _ i) =
      let r = f i in record { is_in = later c cs r.is_in; holds = r.holds }
  filter_by test c x cs false e f i = let r = f i in record { is_in = later c cs r.is_in; holds = r.holds }

  pub in_filter : (test : Cell N → Bool) (x : Cell N) (cs : List (Cell N)) → IsIn x (filter test cs) → Kept test cs x
  in_filter test x [] i = elim i [ ]
  in_filter test x (c ∷ cs) i = filter_by test c x cs (test c) refl (λ j. in_filter test x cs j) i

-- ---- places

pub on_side : ByteRange → Side → ByteRange
on_side p s = record p { side = s }

-- the sides of a place have what it has
shares_more : (p s q : Side) → side_without p s ≡ None → share_memory s q ≡ true → share_memory p q ≡ true
shares_more Left Left q e h = h
shares_more Left Right q e h = absurd (let r : Some Right ≡ None = e in cc)
shares_more Left Shared q e h = absurd (let r : Some Right ≡ None = e in cc)
shares_more Right Right q e h = h
shares_more Right Left q e h = absurd (let r : Some Left ≡ None = e in cc)
shares_more Right Shared q e h = absurd (let r : Some Left ≡ None = e in cc)
shares_more Shared s Left e h = refl
shares_more Shared s Right e h = refl
shares_more Shared s Shared e h = refl

-- a place that meets a part of another one without lying partly in it is enclosed by it
touch_more : (b a m all c r k : ℕ) → m ≤ all
    → (nat_eq b c && (nat_lt a (r + k) && nat_lt r (a + m))) ≡ true
    → (nat_eq b c && (nat_lt a (r + k) && nat_lt r (a + all))) ≡ true
touch_more b a m all c r k l h = grind (arith, nat_tests)

byte_touched : (b a m all c r k i : ℕ) → i < k
    → (nat_eq b c && (nat_lt a (r + k) && nat_lt r (a + m))) ≡ true
    → (nat_le a r && nat_le (r + k) (a + all)) ≡ true
    → (nat_eq b c && (nat_lt a (r + i + 1) && nat_lt (r + i) (a + all))) ≡ true
byte_touched b a m all c r k i l h e = grind (arith, nat_tests)

enclosed_by : (m t e : Bool) → m ≡ true → (m && not e) ≡ false → e ≡ true
enclosed_by m t true h i = refl
enclosed_by true t false h i = absurd (let q : true ≡ false = i in cc)
enclosed_by false t false h i = absurd (let q : false ≡ true = h in cc)

module _ {N : Type 0} (d : Model) (s : Side) (b a m all : ℕ) (within : m ≤ all) where
  -- what is cut in the first bytes lies in the place
  pub cut_taken : (q : Side) (x : Cell N) → side_without s q ≡ None
      → is_partly_in (at s b a all) (place_of d x) ≡ false
      → is_partly_in (at q b a m) (place_of d x) ≡ true → IsTaken d (at s b a all) q x
  cut_taken q x e none some =
      let p = at q b a m in
      let some_met = (and_parts (meets p (place_of d x)) (not (encloses p (place_of d x))) some).0 in
      let h = and_parts (share_memory q x.side) (touches p (place_of d x)) some_met in
      let met = touch_more b a m all x.block x.offset (size_of d x.what) within h.1 in
      let inside = enclosed_by (meets (at s b a all) (place_of d x)) true
      (encloses (at s b a all) (place_of d x))
      (and_from (share_memory s x.side) (touches (at s b a all) (place_of d x))
      (shares_more s q x.side e h.0) met)
      none in
      record {
        side = e;
        met = met;
        bytes = λ i l. byte_touched b a m all x.block x.offset (size_of d x.what) i l h.1 inside;
      }

-- ---- a cut of the first bytes

module _ {N : Type 0} (D : Ops N) (law : SplitLaws D) (more : MoreSplitLaws D) (b a m all : ℕ)
    (within : m ≤ all) where
  abbrev none : Side → Known N → Type 0
  none s k = is_some_partly_in k.model (at s b a all) k.cells ≡ false

  cuts_taken : (s q : Side) (k : Known N) → side_without s q ≡ None → none s k
      → AllTaken D k (at s b a all) q (cut_cells k.model (at q b a m) k.cells)
  cuts_taken s q k e h x i =
      let r = in_filter (λ x. is_partly_in (at q b a m) (place_of k.model x)) x k.cells i in
      cut_taken k.model s b a m all within q x e (none_in k.model (at s b a all) k.cells h x r.is_in) r.holds

  -- on one side
  split_gone : (s q : Side) (k : Known N) (new : List (Cell N)) → side_without s q ≡ None → none s k
      → wrote D k (at s b a all) q new (split D k (at q b a m)) ≡ wrote D k (at s b a all) q new k.cells
  split_gone s q k new e h =
      all_split D k (at s b a all) q (cut_cells k.model (at q b a m) k.cells) new k.cells (cuts_taken s q k e h)

  form_gone : (s q : Side) (k : Known N) (f : Form) → side_without s q ≡ None → none s k
      → form_after (fate_by_write (at s b a all)) (form_by_split D (at q b a m) k f)
      ≡ form_after (fate_by_write (at s b a all)) f
  form_gone s q k f e h =
      form_split D k (at s b a all) q (cut_cells k.model (at q b a m) k.cells) k.cells f (cuts_taken s q k e h)

  -- on its side, or on both
  pub cut_gone : (s : Side) (k : Known N) (new : List (Cell N)) → AreCells k.model k.cells → none s k
      → (overwritten D (at s b a all) new (cut D (at s b a m) k)).cells
      ≡ (overwritten D (at s b a all) new k).cells
  cut_gone Left k new c h = split_gone Left Left k new refl h
  cut_gone Right k new c h = split_gone Right Right k new refl h
  cut_gone Shared k new c h =
      let j = split_at D (at Left b a m) k in
      split_gone Shared Right j new refl (more.uncut k (at Left b a m) (at Shared b a all) c refl h)
      ∙ split_gone Shared Left k new refl h

  pub cut_form_gone : (s : Side) (k : Known N) (f : Form) → AreCells k.model k.cells → none s k
      → form_after (fate_by_write (at s b a all)) (form_by_cut D (at s b a m) k f)
      ≡ form_after (fate_by_write (at s b a all)) f
  cut_form_gone Left k f c h = form_gone Left Left k f refl h
  cut_form_gone Right k f c h = form_gone Right Right k f refl h
  cut_form_gone Shared k f c h =
      let j = split_at D (at Left b a m) k in
      form_gone Shared Right j (form_by_split D (at Left b a m) k f) refl
      (more.uncut k (at Left b a m) (at Shared b a all) c refl h)
      ∙ form_gone Shared Left k f refl h

-- ---- no cut

side_by : (t m e : Bool) → (m && not e) ≡ false → ((t && m) && not e) ≡ false
side_by true m e h = h
side_by false m e h = refl

module _ {N : Type 0} (D : Ops N) (b a n : ℕ) where
  none_split : (s : Side) (k : Known N) → is_some_partly_in k.model (at s b a n) k.cells ≡ false
      → cut_cells k.model (at s b a n) k.cells ≡ []
  none_split s k h =
      filter_none (λ x. is_partly_in (at s b a n) (place_of k.model x)) k.cells (none_in k.model
      (at s b a n) k.cells h)

  all_sides : (q t : Side) (m e : Bool) → ((share_memory Shared t && m) && not e) ≡ false
      → ((share_memory q t && m) && not e) ≡ false
  all_sides q Left m e h = side_by (share_memory q Left) m e h
  all_sides q Right m e h = side_by (share_memory q Right) m e h
  all_sides q Shared m e h = side_by (share_memory q Shared) m e h

  none_on : (q : Side) (k : Known N) → is_some_partly_in k.model (at Shared b a n) k.cells ≡ false
      → is_some_partly_in k.model (at q b a n) k.cells ≡ false
  none_on q k h =
      none_from k.model (at q b a n) k.cells
      (λ x i. all_sides q x.side (touches (at Shared b a n) (place_of k.model x))
      (encloses (at Shared b a n) (place_of k.model x)) (none_in k.model (at Shared b a n) k.cells h x i))

  same_split : (s : Side) (k : Known N) → is_some_partly_in k.model (at s b a n) k.cells ≡ false
      → split_at D (at s b a n) k ≡ k
  same_split s k h = ap (λ xs. with_cells k (split_all D k s xs k.cells)) (none_split s k h)

  pub no_cut : (s : Side) (k : Known N) → is_some_partly_in k.model (at s b a n) k.cells ≡ false
      → cut D (at s b a n) k ≡ k
  no_cut Left k h = same_split Left k h
  no_cut Right k h = same_split Right k h
  no_cut Shared k h =
      ap (split_at D (at Right b a n)) (same_split Left k (none_on Left k h)) ∙ same_split Right k (none_on Right k h)

  same_form : (s : Side) (k : Known N) (f : Form) → is_some_partly_in k.model (at s b a n) k.cells ≡ false
      → form_by_split D (at s b a n) k f ≡ f
  same_form s k f h = ap (λ xs. form_by_splits D k s xs k.cells f) (none_split s k h)

  pub no_cut_form : (s : Side) (k : Known N) (f : Form) → is_some_partly_in k.model (at s b a n) k.cells ≡ false
      → form_by_cut D (at s b a n) k f ≡ f
  no_cut_form Left k f h = same_form Left k f h
  no_cut_form Right k f h = same_form Right k f h
  no_cut_form Shared k f h =
      ap (λ z. form_by_split D (at Right b a n) z (form_by_split D (at Left b a n) k f))
      (same_split Left k (none_on Left k h))
      ∙ same_form Right k (form_by_split D (at Left b a n) k f) (none_on Right k h)
      ∙ same_form Left k f (none_on Left k h)

  same_forms : (s : Side) (k : Known N) (new : List (Cell N))
      → is_some_partly_in k.model (at s b a n) k.cells ≡ false
      → map (with_form (form_by_cut D (at s b a n) k)) new ≡ new
  same_forms s k [] h = refl
  same_forms s k (c ∷ new) h =
      ap (λ f. record c { form = f } ∷ map (with_form (form_by_cut D (at s b a n) k)) new) (no_cut_form s k c.form h)
      ∙ ap (λ xs. c ∷ xs) (same_forms s k new h)

  pub no_cut_replaced : (s : Side) (k : Known N) (new : List (Cell N))
      → is_some_partly_in k.model (at s b a n) k.cells ≡ false
      → replaced D (at s b a n) new k ≡ overwritten D (at s b a n) new k
  no_cut_replaced s k new h =
      ap (λ z. overwritten D (at s b a n) (map (with_form (form_by_cut D (at s b a n) k)) new) z) (no_cut s k h)
      ∙ ap (λ xs. overwritten D (at s b a n) xs k) (same_forms s k new h)

-- the rest of a record stays
pub cut_is : {N : Type 0} (D : Ops N) (s : Side) (b a n : ℕ) (k : Known N)
    → cut D (at s b a n) k ≡ with_cells k (cut D (at s b a n) k).cells
cut_is D Left b a n k = refl
cut_is D Right b a n k = refl
cut_is D Shared b a n k = refl
