-- Cells of a row that may be written at one place are one write of the place, where each cell that has bytes in it
-- stands just where one of the row does.
use Rattle.std.proofs.Common.{◌≡◌, ◌⊎◌, inl, inr, ⊎_elim, ℕ, ◌+◌, Bool, true, false, ◌&&◌, not, cond, List, [], ◌∷◌}
use Rattle.std.proofs.Common.{◌++◌, map, refl, sym, ap, ◌∙◌, subst}
use Rattle.ep_int.specs.declared.types.Model.{Model}
use Rattle.ep_int.specs.Types.{size_of}
use Rattle.ep_domain.specs.Domain.{Ops}
use Rattle.ep_cells.specs.declared.cell.Cell.{Cell}
use Rattle.ep_cells.specs.declared.place.ByteRange.{ByteRange}
use Rattle.ep_cells.specs.Cells.{place_of, touches, each_becomes, put_all, IsIn, first, later}
use Rattle.ep_cells.specs.Forms.{reformed}
use Rattle.ep_cells.specs.Laws.{WeakWriteLaws}
use Rattle.ep_cells.specs.Write.{left_by_write, fate_by_write}
use Rattle.ep_cells.specs.Weaken.{left_by_weak_write, fate_by_weak_write}
use Rattle.ep_cells.specs.States.{Known, Each, IsCell, AreCells}
use Rattle.ep_cells.proofs.Basics.{map-append}
use Rattle.ep_cells.proofs.Lists.{each_in}
use Rattle.ep_cell_ranges.specs.Ranges.{with_cells}
use Rattle.ep_cell_ranges.specs.Spots.{Spot}
use Rattle.ep_reads.proofs.Composed.{each_append}
use Rattle.ep_state_rows.specs.Rows.{further, IsRow, row_bytes, stands_in, partner, joined_by, not_in_row, joined_in}
use Rattle.ep_state_rows.specs.Rows.{Faces}
use Rattle.ep_state_rows.proofs.Apart.{once}
use Rattle.ep_state_rows.proofs.Order.{chosen, in_order}
use Rattle.ep_state_rows.proofs.Row.{place, fate, write_fate, row_one}
use Rattle.ep_state_rows.proofs.Swaps.{rowed}

module _ {N : Type 0} (D : Ops N) (d : Model) where
  -- ---- each cell by itself

  once_append : (w : Cell N) (xs ys : List (Cell N)) → once D d w (xs ++ ys) ≡ once D d w xs ++ once D d w ys
  once_append w xs ys =
      let l = left_by_weak_write D d w true in
      let r = reformed (fate_by_weak_write (place_of d w)) in
      ap (map r) (each_append l xs ys) ∙ map-append r (each_becomes l xs) (each_becomes l ys)

  all_append : (ws : List (Cell N)) (q : Spot) (xs ys : List (Cell N))
      → rowed D d ws q (xs ++ ys) ≡ rowed D d ws q xs ++ rowed D d ws q ys
  all_append [] q xs ys = refl
  all_append (c ∷ ws) q xs ys =
      ap (rowed D d ws q) (once_append (further c q) xs ys)
      ∙ all_append ws q (once D d (further c q) xs) (once D d (further c q) ys)

  all_none : (ws : List (Cell N)) (q : Spot) → rowed D d ws q [] ≡ []
  all_none [] q = refl
  all_none (c ∷ ws) q = all_none ws q

  by_cells : (ws : List (Cell N)) (q : Spot) (cs : List (Cell N))
      → rowed D d ws q cs ≡ each_becomes (λ (x : Cell N). rowed D d ws q (x ∷ [])) cs
  by_cells ws q [] = all_none ws q
  by_cells ws q (x ∷ cs) =
      all_append ws q (x ∷ []) cs ∙ ap (λ l. rowed D d ws q (x ∷ []) ++ l) (by_cells ws q cs)

  each_map : (r f : Cell N → Cell N) (g : Cell N → List (Cell N)) (cs : List (Cell N))
      → ((x : Cell N) → IsIn x cs → r (f x) ∷ [] ≡ g x) → map r (map f cs) ≡ each_becomes g cs
  each_map r f g [] h = refl
  each_map r f g (x ∷ cs) h =
      ap (λ l. l ++ map r (map f cs)) (h x (first cs))
      ∙ ap (λ l. g x ++ l) (each_map r f g cs (λ y i. h y (later x cs i)))

  -- ---- the row as one write

  not_none : (ws : List (Cell N)) (q : Spot) (p : ByteRange) (x : Cell N) (t : Bool) → stands_in ws q x ≡ t
      → touches p (place_of d x) ≡ true → IsIn x (not_in_row d ws q p x) ⊎ (t ≡ true)
  not_none ws q p x true e h = inr refl
  not_none ws q p x false e h =
      inl (subst (λ u. IsIn x (cond (u && not (stands_in ws q x)) (x ∷ []) [])) (sym h)
      (subst (λ u. IsIn x (cond (not u) (x ∷ []) [])) (sym e) (first [])))

  stands : (ws : List (Cell N)) (q : Spot) (p : ByteRange) (cs : List (Cell N))
      → each_becomes (not_in_row d ws q p) cs ≡ [] → (x : Cell N) → IsIn x cs → touches p (place_of d x) ≡ true
      → stands_in ws q x ≡ true
  stands ws q p cs e x i h =
      ⊎_elim
      (λ j. absurd (elim (subst (IsIn x) e (each_in (not_in_row d ws q p) x x cs i j)) [ ]))
      (λ j. j) (not_none ws q p x (stands_in ws q x) refl h)

  one_is : (ws : List (Cell N)) (q : Spot) (b a n : ℕ) (x : Cell N) (t : Bool)
      → reformed (fate_by_write (place D d b a n)) (cond t (joined_by D ws q x) x) ∷ []
      ≡ cond t (joined_by D ws q x ∷ []) (reformed (fate D d b a n) x ∷ [])
  one_is ws q b a n x true = refl
  one_is ws q b a n x false =
      ap (λ f. reformed f x ∷ []) (let g : fate_by_write (place D d b a n) ≡ fate D d b a n =
      λ i m. write_fate D d b a n m i in g)

  row_is : (c : Cell N) (ws : List (Cell N)) (q : Spot) (a A : ℕ) (cs new : List (Cell N)) → AreCells d cs
      → IsRow d a (c ∷ ws) → A ≡ q.1 + a
      → each_becomes (not_in_row d (c ∷ ws) q (place D d q.0 A (row_bytes d (c ∷ ws)))) cs ≡ []
      → new ≡ each_becomes (joined_in D d (c ∷ ws) q (place D d q.0 A (row_bytes d (c ∷ ws)))) cs
      → map (reformed (fate_by_write (place D d q.0 A (row_bytes d (c ∷ ws)))))
      (put_all new (each_becomes (left_by_write d (place D d q.0 A (row_bytes d (c ∷ ws)))) cs))
      ≡ rowed D d (c ∷ ws) q cs
  row_is c ws q a A cs new cells r e none j =
      let n = row_bytes d (c ∷ ws) in
      let p : ByteRange = place D d q.0 A n in
      let t : Cell N → Bool = λ x. touches p (place_of d x) in
      let of : Cell N → Cell N = partner (c ∷ ws) q in
      let f = reformed (fate_by_write p) in
      ap (λ l. map f (put_all l (each_becomes (left_by_write d p) cs))) j
      ∙ ap (map f) (in_order D d of t cs cells.pairs)
      ∙ each_map f (chosen D d of t) (λ x. rowed D d (c ∷ ws) q (x ∷ [])) cs
      (λ x i. one_is (c ∷ ws) q q.0 A n x (t x)
      ∙ sym (row_one D d c ws q a A x r e (λ h. stands (c ∷ ws) q p cs none x i h)))
      ∙ sym (by_cells (c ∷ ws) q cs)

  -- ---- what is left is a state

  pub rowed_cells : (law : WeakWriteLaws D) (ws : List (Cell N)) (q : Spot) (a : ℕ) (cs : List (Cell N)) → AreCells d cs
      → IsRow d a ws → Each (λ c. IsCell d (further c q)) ws → AreCells d (rowed D d ws q cs)
  rowed_cells law [] q a cs h r f = h
  rowed_cells law (c ∷ ws) q a cs h r f =
      rowed_cells law ws q (a + size_of d c.what) (once D d (further c q) cs)
      (law.cells d (further c q) true cs h f.0.fits f.0.rising (λ e. r.0)) r.2 f.1

-- ---- states

module _ {N : Type 0} (D : Ops N) (k : Known N) (c : Cell N) (ws : List (Cell N)) (a : ℕ) (q : Spot) (p : ByteRange)
    (new : List (Cell N))
  where
    pub row_cells : Faces D k (c ∷ ws) a q p new → IsRow k.model a (c ∷ ws) → AreCells k.model k.cells
        → map (reformed (fate_by_write p)) (put_all new (each_becomes (left_by_write k.model p) k.cells))
        ≡ rowed D k.model (c ∷ ws) q k.cells
    row_cells h r cells =
        let d = k.model in
        let f : p ≡ place D d q.0 (q.1 + a) (row_bytes d (c ∷ ws)) = h.place in
        subst (λ z. map (reformed (fate_by_write z)) (put_all new (each_becomes (left_by_write d z) k.cells))
        ≡ rowed D d (c ∷ ws) q k.cells) (sym f)
        (row_is D d c ws q a (q.1 + a) k.cells new cells r refl
        (subst (λ z. each_becomes (not_in_row d (c ∷ ws) q z) k.cells ≡ []) f h.others)
        (subst (λ z. new ≡ each_becomes (joined_in D d (c ∷ ws) q z) k.cells) f h.joined))

    pub row_left : (law : WeakWriteLaws D) → Faces D k (c ∷ ws) a q p new → IsRow k.model a (c ∷ ws)
        → AreCells k.model k.cells → Each (λ x. IsCell k.model (further x q)) (c ∷ ws)
        → AreCells k.model
        (map (reformed (fate_by_write p)) (put_all new (each_becomes (left_by_write k.model p) k.cells)))
    row_left law h r cells f =
        subst (AreCells k.model) (sym (row_cells h r cells))
        (rowed_cells D k.model law (c ∷ ws) q a k.cells cells r f)

    pub row_state : (after : Known N) → Faces D k (c ∷ ws) a q p new → IsRow k.model a (c ∷ ws)
        → AreCells k.model k.cells
        → after ≡ with_cells k (map (reformed (fate_by_write p)) (put_all new (each_becomes (left_by_write k.model p)
        k.cells)))
        → after ≡ with_cells k (rowed D k.model (c ∷ ws) q k.cells)
    row_state after h r cells e = e ∙ ap (with_cells k) (row_cells h r cells)
