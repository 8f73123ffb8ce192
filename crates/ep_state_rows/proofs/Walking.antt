-- What walks over cells and over places come to.
use Rattle.std.proofs.Common.{◌≡◌, ℕ, zero, suc, ◌+◌, ◌<◌, ◌≤◌, Bool, true, false, ◌&&◌, not, cond, List}
use Rattle.std.proofs.Common.{[], ◌∷◌, ◌++◌, length, map, drop, drop-cons, add-one, get_or, refl, sym, ap, ◌∙◌, subst}
use Rattle.std.proofs.Common.{append_assoc, append-nil, arith}
use Rattle.std.proofs.lemmas.Bool.{or_left, or_right}
use Rattle.std.proofs.lemmas.List.{drop_all}
use Rattle.ep_int.specs.declared.types.Model.{Model}
use Rattle.ep_int.specs.Types.{size_of}
use Rattle.ep_int.proofs.Basics.{size_positive}
use Rattle.ep_bitslice.specs.declared.cell.Side.TheVariants.{Shared}
use Rattle.ep_domain.specs.Domain.{Ops}
use Rattle.ep_cells.specs.declared.cell.Cell.{Cell}
use Rattle.ep_cells.specs.declared.place.ByteRange.{ByteRange}
use Rattle.ep_cells.specs.Cells.{place_of, touches, is_same_place, each_becomes, put_all, IsIn, first, later}
use Rattle.ep_cells.specs.Forms.{reformed}
use Rattle.ep_cells.specs.Laws.{WeakWriteLaws}
use Rattle.ep_cells.specs.Write.{left_by_write, fate_by_write}
use Rattle.ep_cells.specs.Weaken.{with_join}
use Rattle.ep_cells.specs.States.{Known, Each, IsCell, AreCells}
use Rattle.ep_cell_parts.specs.About.{IsAbout}
use Rattle.ep_cell_ranges.specs.Ranges.{with_cells}
use Rattle.ep_cell_ranges.specs.Spots.{Spot}
use Rattle.ep_reads.proofs.Composed.{each_append}
use Rattle.ep_state_rows.specs.Rows.{further, each_weakened, IsRow, row_bytes, AreSpaced, stands_in, partner}
use Rattle.ep_state_rows.specs.Rows.{joined_by, not_in_row, joined_in, Joins, Faces}
use Rattle.ep_state_rows.proofs.Row.{ahead, same_offset}
use Rattle.ep_state_rows.proofs.Swaps.{row_lies, rowed, by_places, spaced_is}
use Rattle.ep_state_rows.proofs.Whole.{row_left, row_state}

pub drop_at : {X : Type 0} (xs : List X) (i : ℕ) (x : X) → x ≡ get_or xs i x → i < length xs
    → drop i xs ≡ x ∷ drop (i + 1) xs
drop_at xs i x e h =
    drop-cons xs i x h ∙ ap (λ y. y ∷ drop (suc i) xs) (sym e) ∙ ap (λ k. x ∷ drop k xs) (sym (add-one i))

-- ---- a cell of the row

module _ {N : Type 0} (D : Ops N) (d : Model) where
  pub record Stood (ws : List (Cell N)) (q : Spot) (x : Cell N) (old new : List (Cell N)) : Type 0 where
    pub stands : stands_in ws q x ≡ true
    pub joined : new ≡ old ++ joined_by D ws q x ∷ []

  not_same : (c x : Cell N) (q : Spot) (a : ℕ) → c.offset ≡ a → q.1 + (a + size_of d c.what) ≤ x.offset → (t : Bool)
      → is_same_place (further c q) x ≡ t → t ≡ false
  not_same c x q a e l false h = refl
  not_same c x q a e l true h =
      absurd (let f = same_offset D d c x q h in let s = size_positive d c.what in omega (arith, e, f, l, s))

  pub joins_is : (ws : List (Cell N)) (i a : ℕ) (q : Spot) (x : Cell N) (old new : List (Cell N)) → IsRow d a ws
      → Joins D (drop i ws) q x old new → Stood ws q x old new
  joins_is [] zero a q x old new r h = absurd h
  joins_is [] (suc i) a q x old new r h = absurd h
  joins_is (c ∷ ws) zero a q x old new r h = record {
    stands = or_left (is_same_place (further c q) x) (stands_in ws q x) h.0;
    joined = h.1 ∙ ap (λ b. old ++ with_join D (cond b c (partner ws q x)) x ∷ []) (sym h.0);
  }
  joins_is (c ∷ ws) (suc i) a q x old new r h =
      let s = joins_is ws i (a + size_of d c.what) q x old new r.2 h in
      let l = ahead D d ws (a + size_of d c.what) q x r.2 s.stands in
      let e = not_same c x q a r.1 l (is_same_place (further c q) x) refl in
      record {
        stands = or_right (is_same_place (further c q) x) (stands_in ws q x) s.stands;
        joined = s.joined ∙ ap (λ b. old ++ with_join D (cond b c (partner ws q x)) x ∷ []) (sym e);
      }

  -- ---- a place of it

  module _ (ws : List (Cell N)) (q : Spot) (p : ByteRange) where
    pub others_elsewhere : (x : Cell N) → touches p (place_of d x) ≡ false → not_in_row d ws q p x ≡ []
    others_elsewhere x e = ap (λ t. cond (t && not (stands_in ws q x)) (x ∷ []) []) e

    pub joined_elsewhere : (x : Cell N) → touches p (place_of d x) ≡ false → joined_in D d ws q p x ≡ []
    joined_elsewhere x e = ap (λ t. cond t (joined_by D ws q x ∷ []) []) e

    pub none_joined : (x : Cell N) (out : List (Cell N)) → touches p (place_of d x) ≡ false
        → out ≡ out ++ joined_in D d ws q p x
    none_joined x out e = sym (append-nil out) ∙ sym (ap (λ l. out ++ l) (joined_elsewhere x e))

    pub others_there : (x : Cell N) → stands_in ws q x ≡ true → not_in_row d ws q p x ≡ []
    others_there x e =
        ap (λ t. cond (touches p (place_of d x) && not t) (x ∷ []) []) e ∙ by (touches p (place_of d x))
      where
        by : (t : Bool) → cond (t && false) (x ∷ []) [] ≡ []
        by true = refl
        by false = refl

    pub one_joined : (x : Cell N) (old new : List (Cell N)) → touches p (place_of d x) ≡ true
        → new ≡ old ++ joined_by D ws q x ∷ [] → new ≡ old ++ joined_in D d ws q p x
    one_joined x old new e h = h ∙ sym (ap (λ t. old ++ cond t (joined_by D ws q x ∷ []) []) e)

    pub others_turn : (x : Cell N) (xs rest all : List (Cell N)) → xs ≡ x ∷ rest → not_in_row d ws q p x ≡ []
        → (each_becomes (not_in_row d ws q p) xs ≡ [] → each_becomes (not_in_row d ws q p) all ≡ [])
        → each_becomes (not_in_row d ws q p) rest ≡ [] → each_becomes (not_in_row d ws q p) all ≡ []
    others_turn x xs rest all e f h r =
        h (ap (each_becomes (not_in_row d ws q p)) e ∙ ap (λ l. l ++ each_becomes (not_in_row d ws q p) rest) f ∙ r)

    pub joined_turn : (x : Cell N) (xs rest out outs all : List (Cell N)) → xs ≡ x ∷ rest
        → outs ≡ out ++ joined_in D d ws q p x → out ++ each_becomes (joined_in D d ws q p) xs ≡ all
        → outs ++ each_becomes (joined_in D d ws q p) rest ≡ all
    joined_turn x xs rest out outs all e h k =
        let f = joined_in D d ws q p in
        ap (λ l. l ++ each_becomes f rest) h ∙ append_assoc out (f x) (each_becomes f rest)
        ∙ sym (ap (λ l. out ++ each_becomes f l) e) ∙ k

    -- ---- all cells there

    none_of : (f : Cell N → List (Cell N)) (xs : List (Cell N)) → ((x : Cell N) → IsIn x xs → f x ≡ [])
        → each_becomes f xs ≡ []
    none_of f [] h = refl
    none_of f (x ∷ xs) h =
        ap (λ l. l ++ each_becomes f xs) (h x (first xs)) ∙ none_of f xs (λ y i. h y (later x xs i))

    by_window : (f : Cell N → List (Cell N)) (cs us : List (Cell N))
        → ((x : Cell N) → touches p (place_of d x) ≡ false → f x ≡ []) → IsAbout d p cs us
        → each_becomes f us ≡ each_becomes f cs
    by_window f cs us h a =
        sym (append-nil (each_becomes f us))
        ∙ sym (ap (λ l. each_becomes f us ++ l) (none_of f a.behind (λ x i. h x (a.above x i))))
        ∙ sym (each_append f us a.behind)
        ∙ sym (ap (λ l. l ++ each_becomes f (us ++ a.behind)) (none_of f a.before (λ x i. h x (a.below x i))))
        ∙ sym (each_append f a.before (us ++ a.behind))
        ∙ sym (ap (each_becomes f) a.whole)

    pub others_all : (cs us vs : List (Cell N)) → IsAbout d p cs us → vs ≡ us
        → each_becomes (not_in_row d ws q p) vs ≡ [] → each_becomes (not_in_row d ws q p) cs ≡ []
    others_all cs us vs a e h =
        sym (by_window (not_in_row d ws q p) cs us others_elsewhere a)
        ∙ sym (ap (each_becomes (not_in_row d ws q p)) e) ∙ h

    pub joined_all : (cs us vs new : List (Cell N)) → IsAbout d p cs us → vs ≡ us
        → new ≡ each_becomes (joined_in D d ws q p) vs → new ≡ each_becomes (joined_in D d ws q p) cs
    joined_all cs us vs new a e h =
        h ∙ ap (each_becomes (joined_in D d ws q p)) e
        ∙ by_window (joined_in D d ws q p) cs us joined_elsewhere a

place_is : (p : ByteRange) (b o n : ℕ) → p.side ≡ Shared → p.block ≡ b → p.offset ≡ o → p.bytes ≡ n
    → p ≡ record { side = Shared; block = b; offset = o; bytes = n }
place_is p b o n e f g h =
    ap (λ s. let r : ByteRange = record p { side = s } in r) e
    ∙ ap (λ (z : ℕ). let r : ByteRange = record p { side = Shared; block = z } in r) f
    ∙ ap (λ (z : ℕ). let r : ByteRange = record p { side = Shared; block = b; offset = z } in r) g
    ∙ ap (λ (z : ℕ). let r : ByteRange = record { side = Shared; block = b; offset = o; bytes = z } in r) h

-- all that was found is a row
pub found : {N : Type 0} (D : Ops N) (k : Known N) (d : Model) (ws : List (Cell N)) (a : ℕ) (q : Spot) (p : ByteRange)
    (us vs new : List (Cell N)) → d ≡ k.model → p.side ≡ Shared → p.block ≡ q.0 → p.offset ≡ q.1 + a
    → p.bytes ≡ row_bytes k.model ws → IsAbout k.model p k.cells us → vs ≡ us
    → each_becomes (not_in_row d ws q p) vs ≡ [] → new ≡ each_becomes (joined_in D d ws q p) vs
    → Faces D k ws a q p new
found D k d ws a q p us vs new m e f g h about v none j = record {
  place = place_is p q.0 (q.1 + a) (row_bytes k.model ws) e f g h;
  others = others_all D k.model ws q p k.cells us vs about v
      (subst (λ z. each_becomes (not_in_row z ws q p) vs ≡ []) m none);
  joined = joined_all D k.model ws q p k.cells us vs new about v
      (subst (λ z. new ≡ each_becomes (joined_in D z ws q p) vs) m j);
}

-- ---- one place

module _ {N : Type 0} (D : Ops N) where
  one_place : (ws : List (Cell N)) (a : ℕ) (q : Spot) (k : Known N) → IsRow k.model a ws
      → each_weakened D (q ∷ []) ws k ≡ with_cells k (rowed D k.model ws q k.cells)
  one_place ws a q k r =
      spaced_is D (a + row_bytes k.model ws) ws (q ∷ []) k
      (row_lies k.model (a + row_bytes k.model ws) a ws r (omega arith)) (tt, tt)

  pub row_can : (law : WeakWriteLaws D) (k : Known N) (n : ℕ) (ws : List (Cell N)) (a : ℕ) (q : Spot) (p : ByteRange)
      (new : List (Cell N)) → n ≡ row_bytes k.model ws → (n ≡ 0 → ⊥) → Faces D k ws a q p new → IsRow k.model a ws
      → AreCells k.model k.cells → Each (λ x. IsCell k.model (further x q)) ws
      → AreCells k.model
      (map (reformed (fate_by_write p)) (put_all new (each_becomes (left_by_write k.model p) k.cells)))
  row_can law k n [] a q p new e s h r cells f = absurd (s e)
  row_can law k n (c ∷ ws) a q p new e s h r cells f = row_left D k c ws a q p new law h r cells f

  pub row_done : (k after : Known N) (n : ℕ) (ws : List (Cell N)) (a : ℕ) (q : Spot) (p : ByteRange)
      (new : List (Cell N)) → n ≡ row_bytes k.model ws → (n ≡ 0 → ⊥) → Faces D k ws a q p new → IsRow k.model a ws
      → AreCells k.model k.cells
      → after ≡ with_cells k (map (reformed (fate_by_write p)) (put_all new (each_becomes (left_by_write k.model p)
      k.cells)))
      → after ≡ each_weakened D (q ∷ []) ws k
  row_done k after n [] a q p new e s h r cells f = absurd (s e)
  row_done k after n (c ∷ ws) a q p new e s h r cells f =
      row_state D k c ws a q p new after h r cells f ∙ sym (one_place (c ∷ ws) a q k r)

  pub row_none : (k : Known N) (n : ℕ) (ws : List (Cell N)) (qs : List Spot) → n ≡ row_bytes k.model ws → n ≡ 0
      → k ≡ each_weakened D qs ws k
  row_none k n [] qs e z = refl
  row_none k n (c ∷ ws) qs e z = absurd (let s = size_positive k.model c.what in omega (arith, e, z, s))

  pub model_by_place : (ws : List (Cell N)) (a : ℕ) (q : Spot) (k after : Known N) → IsRow k.model a ws
      → after ≡ each_weakened D (q ∷ []) ws k → after.model ≡ k.model
  model_by_place ws a q k after r e = ap (λ (z : Known N). z.model) (e ∙ one_place ws a q k r)

  -- ---- in turn

  pub shared_row : (d : Model) (a : ℕ) (ws : List (Cell N)) → IsRow d a ws → Each (λ (c : Cell N). c.side ≡ Shared) ws
  shared_row d a [] r = tt
  shared_row d a (c ∷ ws) r = (r.0, shared_row d (a + size_of d c.what) ws r.2)

  pub turn_next : (q : Spot) (c : Cell N) (ws rest : List (Cell N)) (now next all : Known N) → ws ≡ c ∷ rest
      → next ≡ each_weakened D (q ∷ []) (c ∷ []) now → each_weakened D (q ∷ []) ws now ≡ all
      → each_weakened D (q ∷ []) rest next ≡ all
  turn_next q c ws rest now next all e f h =
      ap (each_weakened D (q ∷ []) rest) f ∙ sym (ap (λ l. each_weakened D (q ∷ []) l now) e) ∙ h

  pub turn_last : (q : Spot) (ws : List (Cell N)) (i : ℕ) (now all : Known N) → length ws ≤ i
      → each_weakened D (q ∷ []) (drop i ws) now ≡ all → now ≡ all
  turn_last q ws i now all l h = sym (ap (λ z. each_weakened D (q ∷ []) z now) (drop_all i ws l)) ∙ h

  pub turn_model : (q : Spot) (c : Cell N) (now next : Known N)
      → next ≡ each_weakened D (q ∷ []) (c ∷ []) now → next.model ≡ now.model
  turn_model q c now next e = ap (λ (z : Known N). z.model) e

  -- ---- place by place

  abbrev pub placed : List (Cell N) → List Spot → Known N → Known N
  placed ws [] k = k
  placed ws (q ∷ qs) k = placed ws qs (each_weakened D (q ∷ []) ws k)

  placed_by : (ws : List (Cell N)) (a : ℕ) (qs : List Spot) (k : Known N) → IsRow k.model a ws
      → placed ws qs k ≡ with_cells k (by_places D k.model ws qs k.cells)
  placed_by ws a [] k r = refl
  placed_by ws a (q ∷ qs) k r =
      ap (placed ws qs) (one_place ws a q k r)
      ∙ placed_by ws a qs (with_cells k (rowed D k.model ws q k.cells)) r

  pub placed_is : (ws : List (Cell N)) (a n : ℕ) (qs : List Spot) (k : Known N) → IsRow k.model a ws
      → n ≡ row_bytes k.model ws → AreSpaced (a + n) qs → placed ws qs k ≡ each_weakened D qs ws k
  placed_is ws a n qs k r e h =
      placed_by ws a qs k r
      ∙ sym (spaced_is D (a + n) ws qs k (row_lies k.model (a + n) a ws r (omega (arith, e))) h)

  pub placed_next : (ws : List (Cell N)) (q : Spot) (qs rest : List Spot) (now next all : Known N) → qs ≡ q ∷ rest
      → next ≡ each_weakened D (q ∷ []) ws now → placed ws qs now ≡ all → placed ws rest next ≡ all
  placed_next ws q qs rest now next all e f h =
      ap (placed ws rest) f ∙ sym (ap (λ l. placed ws l now) e) ∙ h

  pub placed_last : (ws : List (Cell N)) (qs : List Spot) (i : ℕ) (now all : Known N) → length qs ≤ i
      → placed ws (drop i qs) now ≡ all → now ≡ all
  placed_last ws qs i now all l h = sym (ap (λ z. placed ws z now) (drop_all i qs l)) ∙ h

  pub placed_model : (ws : List (Cell N)) (a : ℕ) (qs : List Spot) (k : Known N) → IsRow k.model a ws
      → (placed ws qs k).model ≡ k.model
  placed_model ws a qs k r = ap (λ (z : Known N). z.model) (placed_by ws a qs k r)
