-- Cells of a row that are written one after the other are one write of all of them, where no cell lies partly in their
-- bytes.
use Rattle.std.proofs.Common.{◌≡◌, ℕ, ◌+◌, ◌<◌, ◌≤◌, Bool, true, false, ◌&&◌, nat_eq, nat_lt, List, [], ◌∷◌}
use Rattle.ep_transfers.proofs.PieceReads.{no_further}
use Rattle.ep_cell_ranges.proofs.Basics.{inside_by}
use Rattle.std.proofs.Common.{◌++◌, map, None, IfSome, refl, sym, ap, ◌∙◌, subst, arith}
use Rattle.std.proofs.lemmas.Bool.Decides.{nat_tests}
use Rattle.ep_int.specs.declared.types.Model.{Model}
use Rattle.ep_int.specs.Types.{size_of}
use Rattle.ep_bitslice.specs.declared.cell.Side.{Side}
use Rattle.ep_domain.specs.Domain.{Ops}
use Rattle.ep_cells.specs.declared.cell.Cell.{Cell}
use Rattle.ep_cells.specs.Cells.{on_left, on_right, place_of, share_memory, IsIn, first, later}
use Rattle.ep_cells.specs.Forms.{form_after}
use Rattle.ep_cells.specs.Look.{is_some_partly_in}
use Rattle.ep_cells.specs.Write.{fate_by_write}
use Rattle.ep_cells.specs.States.{Known, IsCell, IsFormOf, EachPair, AreCells}
use Rattle.ep_cell_ranges.specs.Ranges.{Form, with_form, replaced, form_by_replace}
use Rattle.ep_reads.specs.SplitLaws.{SplitLaws}
use Rattle.ep_cell_ranges.specs.Sound.{AreNew, IsInside, Misses}
use Rattle.ep_cell_ranges.specs.Laws.{MoreSplitLaws, ReplaceLaws}
use Rattle.ep_cell_ranges.proofs.Cut.{none_by_cut}
use Rattle.ep_cells.proofs.Lists.{each_from}
use Rattle.ep_cells.proofs.Places.{at}
use Rattle.ep_transfer_writes.proofs.Neighbours.{Fills, place_is, next_none, two_writes}
use Rattle.ep_transfer_pieces.specs.Rows.{StandsAt, IsRow, row_bytes, each_written}

-- ---- places

miss_by : (t : Bool) (b c a z q w : ℕ) → a + z ≤ q
    → (t && (nat_eq b c && (nat_lt a (q + w) && nat_lt q (a + z)))) ≡ false
miss_by t b c a z q w h = grind (arith, nat_tests)

-- ---- one more

module _ {N : Type 0} (D : Ops N) (d : Model) where
  pub one_more : (cs : List (Cell N)) (c : Cell N) (k : Known N)
      → each_written D d (cs ++ c ∷ []) k ≡ replaced D (place_of d c) (c ∷ []) (each_written D d cs k)
  one_more [] c k = refl
  one_more (x ∷ cs) c k = one_more cs c (replaced D (place_of d x) (x ∷ []) k)

  pub more_bytes : (cs : List (Cell N)) (c : Cell N) → row_bytes d (cs ++ c ∷ []) ≡ row_bytes d cs + size_of d c.what
  more_bytes [] c = omega arith
  more_bytes (x ∷ cs) c = let e = more_bytes cs c in omega (arith, e)

  pub row_more : (s : Side) (b a e : ℕ) (cs : List (Cell N)) (c : Cell N) → IsRow d s b a cs
      → e ≡ a + row_bytes d cs → StandsAt d s b e c → IsRow d s b a (cs ++ c ∷ [])
  row_more s b a e [] c r h f = (subst (λ q. StandsAt d s b q c) (h ∙ no_further a) f, tt)
  row_more s b a e (x ∷ cs) c r h f =
      (r.0, row_more s b (a + size_of d x.what) e cs c r.1 (omega (arith, h)) f)

-- ---- cells of a row

module _ {N : Type 0} (d : Model) (s : Side) (b : ℕ) where
  record IsOfRow (a n : ℕ) (c : Cell N) : Type 0 where
    pub cell : IsCell d c
    pub side : c.side ≡ s
    pub block : c.block ≡ b
    pub low : a ≤ c.offset
    pub high : c.offset + size_of d c.what ≤ a + n
    pub form : c.form ≡ None

  of_row : (a : ℕ) (cs : List (Cell N)) → IsRow d s b a cs → (x : Cell N) → IsIn x cs → IsOfRow a (row_bytes d cs) x
  of_row a [] r x i = elim i [ ]
  of_row a (c ∷ cs) r _ (first _) =
      let e = r.0.offset in record {
        cell = r.0.cell;
        side = r.0.side;
        block = r.0.block;
        low = omega (arith, e);
        high = omega (arith, e);
        form = r.0.form;
      }
  of_row a (c ∷ cs) r x (later _ _ i) =
      let o = of_row (a + size_of d c.what) cs r.1 x i in
      let l = o.low in
      let h = o.high in
      record {
        cell = o.cell;
        side = o.side;
        block = o.block;
        low = omega (arith, l);
        high = omega (arith, h);
        form = o.form;
      }

  apart_row : (a : ℕ) (cs : List (Cell N)) → IsRow d s b a cs → EachPair (Misses d) cs
  apart_row a [] r = tt
  apart_row a (c ∷ cs) r = (
    each_from (Misses d c) cs
        (λ x i.
        let o = of_row (a + size_of d c.what) cs r.1 x i in
        let l = o.low in
        let e = r.0.offset in
        miss_by (share_memory c.side x.side) c.block x.block c.offset (size_of d c.what) x.offset (size_of d x.what)
        (omega (arith, e, l))),
    apart_row (a + size_of d c.what) cs r.1,
  )

  inside_of : (a n : ℕ) (c : Cell N) → IsOfRow a n c → IsInside d (at s b a n) c
  inside_of a n c o = record {
    left = λ e. subst (λ z. on_left z ≡ true) o.side e;
    right = λ e. subst (λ z. on_right z ≡ true) o.side e;
    block = o.block;
    bytes = inside_by a n c.offset (size_of d c.what) o.low o.high;
  }

  pub new_row : (a n : ℕ) (zs cs : List (Cell N)) → n ≡ row_bytes d cs → IsRow d s b a cs
      → AreNew d (at s b a n) zs cs
  new_row a n zs cs e r =
      let of : (x : Cell N) → IsIn x cs → IsOfRow a n x =
      λ x i. subst (λ m. IsOfRow a m x) (sym e) (of_row a cs r x i) in
      record {
        each = λ x i. (of x i).cell;
        inside = λ x i. inside_of a n x (of x i);
        apart = apart_row a cs r;
        forms = λ x i. subst (λ f. IfSome f (IsFormOf zs x)) (sym (of x i).form) tt;
      }

  formed_row : (G : Form → Form) → G None ≡ None → (a : ℕ) (cs : List (Cell N)) → IsRow d s b a cs
      → map (with_form G) cs ≡ cs
  formed_row G e a [] r = refl
  formed_row G e a (c ∷ cs) r =
      ap (λ f. record c { form = G f } ∷ map (with_form G) cs) r.0.form
      ∙ ap (λ f. record c { form = f } ∷ map (with_form G) cs) e
      ∙ sym (ap (λ f. record c { form = f } ∷ map (with_form G) cs) r.0.form)
      ∙ ap (λ xs. c ∷ xs) (formed_row G e (a + size_of d c.what) cs r.1)

  fills : (a : ℕ) (c : Cell N) → StandsAt d s b a c → Fills d s b a (size_of d c.what) c
  fills a c h = record { side = h.side; block = h.block; offset = h.offset; bytes = refl }

-- ---- all at once

module _ {N : Type 0} (D : Ops N) (split : SplitLaws D) (more : MoreSplitLaws D) (law : ReplaceLaws D) (d : Model)
    (s : Side) (b : ℕ) where
  none_none : (a z : ℕ) (k : Known N) → form_by_replace D (at s b a z) k None ≡ None
  none_none a z k = ap (form_after (fate_by_write (at s b a z))) (none_by_cut D split more s b a z k)

  pub row_is : (cs : List (Cell N)) (k : Known N) (a n : ℕ) (c : Cell N) → k.model ≡ d → AreCells k.model k.cells
      → IsRow d s b a (c ∷ cs) → n ≡ row_bytes d (c ∷ cs)
      → is_some_partly_in k.model (at s b a n) k.cells ≡ false
      → each_written D d (c ∷ cs) k ≡ replaced D (at s b a n) (c ∷ cs) k
  row_is [] k a n c m cells r e none =
      ap (λ p. replaced D p (c ∷ []) k)
      (place_is d s b a (size_of d c.what) c (fills d s b a c r.0)
      ∙ ap (at s b a) (sym (e ∙ no_further (size_of d c.what))))
  row_is (y ∷ cs) k a n c m cells r e none =
      let z = size_of d c.what in
      let rest = row_bytes d (y ∷ cs) in
      let p = at s b a z in
      let next = replaced D p (c ∷ []) k in
      let there : next.model ≡ d = law.model k p (c ∷ []) ∙ m in
      let full : Fills k.model s b a z c = subst (λ w. Fills w s b a z c) (sym m) (fills d s b a c r.0) in
      let one : AreNew k.model p k.cells (c ∷ []) =
      subst (λ w. AreNew w p k.cells (c ∷ [])) (sym m)
      (new_row d s b a z k.cells (c ∷ []) (sym (no_further z)) (r.0, tt)) in
      let both : AreNew k.model (at s b a n) k.cells (c ∷ y ∷ cs) =
      subst (λ w. AreNew w (at s b a n) k.cells (c ∷ y ∷ cs)) (sym m) (new_row d s b a n k.cells (c ∷ y ∷ cs) e r) in
      let same = formed_row d s b (form_by_replace D p k) (none_none a z k) (a + z) (y ∷ cs) r.1 in
      let behind : AreNew next.model (at s b (a + z) rest) next.cells
      (map (with_form (form_by_replace D p k)) (y ∷ cs))
      = subst (AreNew next.model (at s b (a + z) rest) next.cells) (sym same)
      (subst (λ w. AreNew w (at s b (a + z) rest) next.cells (y ∷ cs)) (sym there)
      (new_row d s b (a + z) rest next.cells (y ∷ cs) refl r.1)) in
      ap (λ q. each_written D d (y ∷ cs) (replaced D q (c ∷ []) k)) (place_is d s b a z c (fills d s b a c r.0))
      ∙ row_is cs next (a + z) rest y there
      (subst (λ w. AreCells w next.cells) (sym (law.model k p (c ∷ []))) (law.cells k p (c ∷ []) cells one)) r.1 refl
      (next_none D split more law s b a z rest n e k c cells none full)
      ∙ ap (λ xs. replaced D (at s b (a + z) rest) xs next) (sym same)
      ∙ two_writes D split more law s b a z rest n e k c (y ∷ cs) cells none full one both behind

  pub all_is : (cs : List (Cell N)) (k : Known N) (a n : ℕ) → k.model ≡ d → AreCells k.model k.cells
      → IsRow d s b a cs → n ≡ row_bytes d cs → 0 < n → is_some_partly_in k.model (at s b a n) k.cells ≡ false
      → each_written D d cs k ≡ replaced D (at s b a n) cs k
  all_is [] k a n m cells r e some none = absurd (omega (arith, e, some))
  all_is (c ∷ cs) k a n m cells r e some none = row_is cs k a n c m cells r e none

-- the machines stay
module _ {N : Type 0} (D : Ops N) (law : ReplaceLaws D) (d : Model) where
  pub row_model : (cs : List (Cell N)) (k : Known N) → (each_written D d cs k).model ≡ k.model
  row_model [] k = refl
  row_model (c ∷ cs) k =
      row_model cs (replaced D (place_of d c) (c ∷ []) k) ∙ law.model k (place_of d c) (c ∷ [])
