-- A cell that may be written at each place of a row, as one write of the whole row.
use Rattle.std.proofs.Common.{◌≡◌, ◌⊎◌, inl, inr, ⊎_elim, ℕ, suc, zero, ◌+◌, ◌-◌, ◌*◌, ◌/◌, ◌%◌, ◌<◌, ◌≤◌, Bool, true}
use Rattle.ep_cells.proofs.Basics.{map-append}
use Rattle.ep_reads.proofs.Composed.{each_append}
use Rattle.std.proofs.Common.{false, ◌&&◌, not, nat_eq, nat_le, cond, List, [], ◌∷◌, ◌++◌, length, map, drop, Option}
use Rattle.std.proofs.Common.{Some, None, refl, sym, ap, ◌∙◌, subst, arith}
use Rattle.std.proofs.Math.Nat.{suc-mul, zero-mul}
use Rattle.std.proofs.lemmas.Bool.{and_parts, eqb-true, leb-true}
use Rattle.std.proofs.lemmas.List.{drop_all}
use Rattle.std.proofs.lemmas.Nat.{div-add-mod'}
use Rattle.ep_int.specs.declared.types.Model.{Model}
use Rattle.ep_int.specs.Types.{size_of}
use Rattle.ep_bitslice.specs.declared.cell.Side.{Side}
use Rattle.ep_bitslice.specs.declared.cell.Side.TheVariants.{Shared}
use Rattle.ep_domain.specs.Domain.{Ops}
use Rattle.ep_cells.specs.declared.cell.Cell.{Cell}
use Rattle.ep_cells.specs.declared.place.ByteRange.{ByteRange}
use Rattle.ep_cells.specs.Cells.{place_of, touches, side_without, with_side, is_same_side, is_same_scalar, put_all}
use Rattle.ep_cells.specs.Cells.{each_becomes, IsIn, first, later}
use Rattle.ep_cells.specs.Forms.{Fate, form_after, reformed}
use Rattle.ep_cells.specs.Write.{left_by_write, fate_by_write}
use Rattle.ep_cells.specs.Weaken.{with_join, left_by_weak_write, fate_by_weak_write, weakened}
use Rattle.ep_cells.specs.States.{Known, HasRisingBlocks, IsCell, AreCells}
use Rattle.ep_cells.proofs.Both.{scalar_same}
use Rattle.ep_cells.proofs.Lists.{each_in}
use Rattle.ep_cells.proofs.Places.{at}
use Rattle.ep_cell_parts.specs.About.{IsAbout}
use Rattle.ep_cell_ranges.specs.Moves.{weakened_each, form_by_weak_each}
use Rattle.ep_cell_ranges.specs.Ranges.{with_cells}
use Rattle.ep_cell_ranges.specs.Spots.{Spot}
use Rattle.ep_cell_ranges.specs.Sound.{IsAmong, at_first, behind}
use Rattle.ep_cell_ranges.specs.Laws.{WeakEachLaws}
use Rattle.ep_state_ranges.specs.HeldForms.{at_spot, FitsAtEach}
use Rattle.ep_state_ranges.specs.InRow.{IsRow, row_bytes, is_in_row, not_in_row, joined_in, Faces}
use Rattle.ep_state_ranges.proofs.Row.{times, all_gone, write_fate, Stands, row_one, row_form, each_once}
use Rattle.ep_state_ranges.proofs.Order.{each_same, each_map, left, chosen, in_order}
use Rattle.ep_state_ranges.proofs.Takings.{by_window}

times_is : (i w : ℕ) → times i w ≡ i * w
times_is zero w = sym (zero-mul w)
times_is (suc i) w = let e = times_is i w in let f = suc-mul i w in omega (arith, e, f)

times_from : (a w r : ℕ) → a ≤ r → (r - a) % w ≡ 0 → r ≡ a + times ((r - a) / w) w
times_from a w r l e =
    let f = div-add-mod' (r - a) w in let g = times_is ((r - a) / w) w in omega (arith, e, f, g, l)

module _ {N : Type 0} (D : Ops N) (d : Model) (c : Cell N) (s : c.side ≡ Shared) where
  -- ---- each cell by itself

  once_append : (q : Spot) (xs ys : List (Cell N))
      → weakened D d (at_spot c q) true (xs ++ ys)
      ≡ weakened D d (at_spot c q) true xs ++ weakened D d (at_spot c q) true ys
  once_append q xs ys =
      let l = left_by_weak_write D d (at_spot c q) true in
      let r = reformed (fate_by_weak_write (place_of d (at_spot c q))) in
      ap (map r) (each_append l xs ys) ∙ map-append r (each_becomes l xs) (each_becomes l ys)

  all_append : (qs : List Spot) (xs ys : List (Cell N))
      → each_once D d c s qs (xs ++ ys) ≡ each_once D d c s qs xs ++ each_once D d c s qs ys
  all_append [] xs ys = refl
  all_append (q ∷ qs) xs ys =
      ap (each_once D d c s qs) (once_append q xs ys)
      ∙ all_append qs (weakened D d (at_spot c q) true xs) (weakened D d (at_spot c q) true ys)

  all_none : (qs : List Spot) → each_once D d c s qs [] ≡ []
  all_none [] = refl
  all_none (q ∷ qs) = all_none qs

  by_cells : (qs : List Spot) (cs : List (Cell N))
      → each_once D d c s qs cs ≡ each_becomes (λ x. each_once D d c s qs (x ∷ [])) cs
  by_cells qs [] = all_none qs
  by_cells qs (x ∷ cs) =
      all_append qs (x ∷ []) cs ∙ ap (λ l. each_once D d c s qs (x ∷ []) ++ l) (by_cells qs cs)

  -- ---- cells of the row

  module _ (b a n : ℕ) where
    abbrev p : ByteRange
    p = at c.side b a n

    not_none : (x : Cell N) (t : Bool) → is_in_row (size_of d c.what) c p x ≡ t → touches p (place_of d x) ≡ true
        → IsIn x (cond (touches p (place_of d x) && not (is_in_row (size_of d c.what) c p x)) (x ∷ []) []) ⊎ (t ≡ true)
    not_none x true e h = inr refl
    not_none x false e h =
        inl (subst (λ u. IsIn x (cond (u && not (is_in_row (size_of d c.what) c p x)) (x ∷ []) [])) (sym h)
        (subst (λ u. IsIn x (cond (not u) (x ∷ []) [])) (sym e) (first [])))

    stands : (cs : List (Cell N)) → each_becomes (not_in_row d c p) cs ≡ [] → (x : Cell N) → IsIn x cs
        → touches p (place_of d x) ≡ true → Stands D d c s a x
    stands cs e x i h =
        let t : is_in_row (size_of d c.what) c p x ≡ true =
        ⊎_elim
        (λ j. absurd (elim (subst (IsIn x) e (each_in (not_in_row d c p) x x cs i j)) [ ]))
        (λ j. j) (not_none x (is_in_row (size_of d c.what) c p x) refl h) in
        let u = and_parts (is_same_side x.side Shared) (is_same_scalar c.what x.what && (nat_le a x.offset && nat_eq
        ((x.offset - a) % size_of d c.what) 0)) t in
        let v = and_parts (is_same_scalar c.what x.what) (nat_le a x.offset && nat_eq ((x.offset - a) % size_of d
        c.what) 0) u.1 in
        let z = and_parts (nat_le a x.offset) (nat_eq ((x.offset - a) % size_of d c.what) 0) v.1 in
        record {
          what = sym (scalar_same c.what x.what v.0);
          ahead = record {
            count = (x.offset - a) / size_of d c.what;
            is = times_from a (size_of d c.what) x.offset (leb-true a x.offset z.0)
                (eqb-true ((x.offset - a) % size_of d c.what) 0 z.1);
          };
        }

    left_is : (x : Cell N) → left_by_write d p x ≡ left D d c (λ x. touches p (place_of d x)) x
    left_is x = ap (λ o. cond (touches p (place_of d x)) (with_side x o) (x ∷ [])) (all_gone c.side x.side s)

    one_is : (x : Cell N) (t : Bool)
        → reformed (fate_by_write p) (cond t (with_join D c x) x) ∷ []
        ≡ cond t (with_join D c x ∷ []) (reformed (fate_by_weak_write p) x ∷ [])
    one_is x true = refl
    one_is x false =
        ap (λ f. reformed f x ∷ []) (let g : fate_by_write p ≡ fate_by_weak_write p =
        λ i m. write_fate D d c s b a n m i in g)

  pub row_is : (q : Spot) (qs : List Spot) (b a : ℕ) (cs new : List (Cell N)) → AreCells d cs
      → IsRow b a (size_of d c.what) (q ∷ qs)
      → each_becomes (not_in_row d c (at c.side b a (row_bytes (size_of d c.what) (q ∷ qs)))) cs ≡ []
      → new ≡ each_becomes (joined_in D d c (at c.side b a (row_bytes (size_of d c.what) (q ∷ qs)))) cs
      → map (reformed (fate_by_write (at c.side b a (row_bytes (size_of d c.what) (q ∷ qs)))))
      (put_all new (each_becomes (left_by_write d (at c.side b a (row_bytes (size_of d c.what) (q ∷ qs)))) cs))
      ≡ each_once D d c s (q ∷ qs) cs
  row_is q qs b a cs new cells r none e =
      let n = row_bytes (size_of d c.what) (q ∷ qs) in
      let p : ByteRange = at c.side b a n in
      let t : Cell N → Bool = λ x. touches p (place_of d x) in
      let f = reformed (fate_by_write p) in
      ap (λ l. map f (put_all new l)) (each_same (left_by_write d p) (left D d c t) cs (λ x i. left_is b a n x))
      ∙ ap (λ l. map f (put_all l (each_becomes (left D d c t) cs))) e
      ∙ ap (map f) (in_order D d c t cs cells.pairs)
      ∙ each_map f (chosen D d c t) (λ x. each_once D d c s (q ∷ qs) (x ∷ [])) cs
      (λ x i. one_is b a n x (t x)
      ∙ sym (row_one D d c s q qs b a x r (λ h. stands b a n cs none x i h)))
      ∙ sym (by_cells (q ∷ qs) cs)

-- ---- states

pub each_is : {N : Type 0} (D : Ops N) (c : Cell N) (s : c.side ≡ Shared) (qs : List Spot) (k : Known N)
    → weakened_each D (at_spot c) true qs k ≡ with_cells k (each_once D k.model c s qs k.cells)
each_is D c s [] k = refl
each_is D c s (q ∷ qs) k = each_is D c s qs (with_cells k (weakened D k.model (at_spot c q) true k.cells))

-- ---- as one write

module _ {N : Type 0} (D : Ops N) (k : Known N) (c : Cell N) (p : ByteRange) (new : List (Cell N)) where
  abbrev whole_place : List Spot → ByteRange
  whole_place qs = at c.side p.block p.offset (row_bytes (size_of k.model c.what) qs)

  pub row_cells : (qs : List Spot) → Faces D k c qs p new → AreCells k.model k.cells
      → map (reformed (fate_by_write p)) (put_all new (each_becomes (left_by_write k.model p) k.cells))
      ≡ (weakened_each D (at_spot c) true qs k).cells
  row_cells [] h cells = absurd (omega (arith, h.some))
  row_cells (q ∷ qs) h cells =
      let n = whole_place (q ∷ qs) in
      subst (λ z. map (reformed (fate_by_write z)) (put_all new (each_becomes (left_by_write k.model z) k.cells))
      ≡ each_once D k.model c h.side (q ∷ qs) k.cells) (sym h.place)
      (row_is D k.model c h.side q qs p.block p.offset k.cells new cells h.row
      (subst (λ z. each_becomes (not_in_row k.model c z) k.cells ≡ []) h.place h.others)
      (subst (λ z. new ≡ each_becomes (joined_in D k.model c z) k.cells) h.place h.joined))
      ∙ sym (ap (λ (z : Known N). z.cells) (each_is D c h.side (q ∷ qs) k))

  pub row_forms : (qs : List Spot) → Faces D k c qs p new
      → form_after (fate_by_weak_write p) ≡ form_by_weak_each k.model (at_spot c) qs
  row_forms [] h = absurd (omega (arith, h.some))
  row_forms (q ∷ qs) h =
      ap (λ z. form_after (fate_by_weak_write z)) h.place
      ∙ sym (let g : form_by_weak_each k.model (at_spot c) (q ∷ qs) ≡ form_after (fate_by_weak_write
      (whole_place (q ∷ qs))) =
      λ i f. row_form D k.model c h.side q qs p.block p.offset f h.row i in g)

  fit_each : (qs : List Spot) → FitsAtEach k.model c qs → HasRisingBlocks c.value → (q : Spot) → IsAmong q qs
      → IsCell k.model (at_spot c q)
  fit_each [] f r q i = elim i [ ]
  fit_each (q ∷ qs) f r _ (at_first _) =
      record { fits = record { sort = f.0.sort; undefined = f.0.undefined; last = f.0.last }; rising = r }
  fit_each (z ∷ qs) f r q (behind _ _ i) = fit_each qs f.1 r q i

  -- what is left is a state
  pub row_left : (qs : List Spot) → WeakEachLaws D → Faces D k c qs p new → AreCells k.model k.cells
      → FitsAtEach k.model c qs → HasRisingBlocks c.value
      → AreCells k.model
      (map (reformed (fate_by_write p)) (put_all new (each_becomes (left_by_write k.model p) k.cells)))
  row_left qs law h cells f r =
      subst (AreCells k.model) (sym (row_cells qs h cells))
      (law.cells k (at_spot c) true qs cells
      (record { cell = fit_each qs f r; shared = λ q i e. h.side }))

  pub row_state : (qs : List Spot) (stays : Bool) (after : Known N) → stays ≡ true → Faces D k c qs p new
      → AreCells k.model k.cells
      → after ≡ record k {
        cells = map (reformed (fate_by_write p)) (put_all new (each_becomes (left_by_write k.model p) k.cells));
      }
      → after ≡ weakened_each D (at_spot c) stays qs k
  row_state qs stays after t h cells e =
      e ∙ ap (with_cells k) (row_cells qs h cells)
      ∙ ap (λ (z : Known N). with_cells k z.cells) (each_is D c h.side qs k)
      ∙ sym (each_is D c h.side qs k)
      ∙ sym (ap (λ b. weakened_each D (at_spot c) b qs k) t)

-- ---- what is looked at

pub row_turn : (b w at now : ℕ) (q : Spot) (xs rest : List Spot) (G : Type 0) → xs ≡ q ∷ rest → q ≡ (b, at)
    → now ≡ q.1 + w → (IsRow b at w xs → G) → IsRow b now w rest → G
row_turn b w at now q xs rest G e f g h r =
    h (subst (IsRow b at w) (sym e) (f, subst (λ z. IsRow b z w rest) (g ∙ ap (λ (z : Spot). z.1 + w) f) r))

pub end_turn : (b w at now all : ℕ) (q : Spot) (xs rest : List Spot) → xs ≡ q ∷ rest → q ≡ (b, at)
    → now ≡ q.1 + w → at + row_bytes w xs ≡ all → now + row_bytes w rest ≡ all
end_turn b w at now all q xs rest e f g h =
    let i : now ≡ at + w = g ∙ ap (λ (z : Spot). z.1 + w) f in
    let j : row_bytes w xs ≡ w + row_bytes w rest = ap (row_bytes w) e in omega (arith, i, j, h)

pub row_ends : (b w at : ℕ) (xs : List Spot) (i : ℕ) (G : Type 0) → length xs ≤ i → (IsRow b at w (drop i xs) → G) → G
row_ends b w at xs i G l h = h (subst (IsRow b at w) (sym (drop_all i xs l)) tt)

pub end_ends : (w at all : ℕ) (xs : List Spot) (i : ℕ) → length xs ≤ i → at + row_bytes w (drop i xs) ≡ all → at ≡ all
end_ends w at all xs i l h =
    let e : row_bytes w (drop i xs) ≡ 0 = ap (row_bytes w) (drop_all i xs l) in omega (arith, e, h)

module _ {N : Type 0} (D : Ops N) (d : Model) (c : Cell N) (p : ByteRange) where
  pub others_elsewhere : (x : Cell N) → touches p (place_of d x) ≡ false → not_in_row d c p x ≡ []
  others_elsewhere x e = ap (λ t. cond (t && not (is_in_row (size_of d c.what) c p x)) (x ∷ []) []) e

  pub others_met : (x : Cell N) → is_in_row (size_of d c.what) c p x ≡ true → not_in_row d c p x ≡ []
  others_met x e =
      ap (λ t. cond (touches p (place_of d x) && not t) (x ∷ []) []) e ∙ by (touches p (place_of d x))
    where
      by : (t : Bool) → cond (t && false) (x ∷ []) [] ≡ []
      by true = refl
      by false = refl

  pub joined_elsewhere : (x : Cell N) → touches p (place_of d x) ≡ false → joined_in D d c p x ≡ []
  joined_elsewhere x e = ap (λ t. cond t (with_join D c x ∷ []) []) e

  pub others_turn : (x : Cell N) (xs rest : List (Cell N)) (G : Type 0) → xs ≡ x ∷ rest → not_in_row d c p x ≡ []
      → (each_becomes (not_in_row d c p) xs ≡ [] → G) → each_becomes (not_in_row d c p) rest ≡ [] → G
  others_turn x xs rest G e f h r =
      h (ap (each_becomes (not_in_row d c p)) e ∙ ap (λ l. l ++ each_becomes (not_in_row d c p) rest) f ∙ r)

  -- all that was found is a row
  pub found : (k : Known N) (w : ℕ) (qs : List Spot) (ws us vs new start : List (Cell N)) → d ≡ k.model
      → w ≡ size_of k.model c.what → c.side ≡ Shared → p.side ≡ c.side → p.bytes ≡ row_bytes w qs
      → IsRow p.block p.offset w qs → 1 ≤ length qs → IsAbout k.model p k.cells ws → us ≡ ws
      → vs ≡ ws → each_becomes (not_in_row d c p) us ≡ [] → start ≡ []
      → new ≡ start ++ each_becomes (joined_in D d c p) vs → Faces D k c qs p new
  found k w qs ws us vs new start m own side ps pb r l a eu ev none es en =
      let about : IsAbout d p k.cells ws = subst (λ z. IsAbout z p k.cells ws) (sym m) a in
      record {
        side = side;
        place =
            ap (λ z. at z p.block p.offset p.bytes) ps
            ∙ ap (λ z. at c.side p.block p.offset z) (pb ∙ ap (λ z. row_bytes z qs) own);
        row = subst (λ z. IsRow p.block p.offset z qs) own r;
        some = l;
        others = subst (λ z. each_becomes (not_in_row z c p) k.cells ≡ []) m
            (sym (by_window (not_in_row d c p) d p k.cells ws us others_elsewhere about eu) ∙ none);
        joined = subst (λ z. new ≡ each_becomes (joined_in D z c p) k.cells) m
            (en ∙ ap (λ z. z ++ each_becomes (joined_in D d c p) vs) es
            ∙ by_window (joined_in D d c p) d p k.cells ws vs joined_elsewhere about ev);
      }
