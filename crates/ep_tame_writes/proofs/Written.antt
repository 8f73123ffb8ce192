-- A cell is written over one of its place and type.
use Rattle.std.proofs.Common.{◌≡◌, ℕ, ◌+◌, Bool, true, false, ◌&&◌, not, cond, ⊎_elim, List, [], ◌∷◌}
use Rattle.ep_int.proofs.Basics.{and-false}
use Rattle.std.proofs.Common.{slice_get, Option, Some, None, refl, sym, ap, ◌∙◌, subst, arith, nat_le}
use Rattle.std.specs.List.{filter}
use Rattle.std.proofs.lemmas.Bool.{and_parts, and_from, le-leb}
use Rattle.ep_int.specs.declared.types.Model.{Model}
use Rattle.ep_int.specs.declared.types.Order.{Order}
use Rattle.ep_int.specs.declared.types.Scalar.{Scalar}
use Rattle.ep_bitslice.specs.declared.cell.Side.{Side as CellSide}
use Rattle.ep_bitslice.specs.declared.cell.Side.TheVariants.{Left, Right, Shared}
use Rattle.ep_domain.specs.Domain.{Ops, Lawful}
use Rattle.ep_cells.specs.declared.cell.Cell.{Cell}
use Rattle.ep_cells.specs.declared.cell.Value.{Value}
use Rattle.ep_cells.specs.declared.place.ByteRange.{ByteRange}
use Rattle.ep_cells.specs.Cells.{IsIn, first, later, parts_of, place_of, touches, meets, encloses, share_memory, is_partly_in, is_same_side}
use Rattle.ep_cells.specs.Cells.{is_same_place, put, each_becomes}
use Rattle.ep_cells.specs.Forms.{Fate, reformed}
use Rattle.ep_cells.specs.Both.{cell_of_both}
use Rattle.ep_cells.specs.Write.{left_by_write, fate_by_write, written}
use Rattle.ep_cells.specs.Weaken.{with_join, weak_part, blurred, left_by_weak_write, fate_by_weak_write, weakened}
use Rattle.ep_cells.specs.States.{Known, AreCells, AreAlike, HaveCellsAlike, Fits}
use Rattle.ep_cells.proofs.Lists.{in_map, in_each, in_put}
use Rattle.ep_reads.specs.Split.{cut_cells, split_all}
use Rattle.ep_cell_ranges.specs.Ranges.{Form, with_form, on_cell_side, split_at, cut, form_by_cut, replaced}
use Rattle.ep_cell_ranges.specs.Spots.{Spot}
use Rattle.ep_core.specs.Program.{Program}
use Rattle.ep_core.specs.Runs.{Side}
use Rattle.ep_kinds.specs.Rows.{HasScalar}
use Rattle.ep_transfers.specs.Laws.{CellLaws}
use Rattle.ep_transfers.specs.Writes.{lacks, new_cell}
use Rattle.ep_transfers.proofs.Gathered.{cell_laws}
use Rattle.ep_transfers.proofs.Strong.{strong_cells}
use Rattle.ep_tame_laws.specs.Tamely.{is_result_of_main}
use Rattle.ep_tame_places.specs.Places.{PointsTo}
use Rattle.ep_tame_places.specs.Laws.{PlaceLaws}
use Rattle.ep_tame_cells.specs.Shared.{AreSharedCells, IsOverCell}
use Rattle.ep_tame_cells.proofs.Entered.{one_in}
use Rattle.ep_tame_cells.proofs.Over.{same_alike, place_alike, touched_alike, written_alike, weakened_alike}
use Rattle.ep_tame_cells.proofs.Shapes.{shape_laws_of}
use Rattle.ep_tame_states.specs.States.{IsInBlock, CellPoints, IsGood}
use Rattle.ep_tame_states.proofs.Meetings.{both_have, form_apart, both_sure, good_alike}
use Rattle.ep_tame_writes.specs.Laws.{CanStand, WritesKeepGood}

pub nothing : (b t : Bool) → ((b && false) && t) ≡ false
nothing true t = refl
nothing false t = refl

module _ {N : Type 0} where
  undefined_if : (v : Option (Value N)) (b : Bool) → v ≡ None → lacks b v ≡ true
  undefined_if None true e = refl
  undefined_if None false e = refl
  undefined_if (Some x) b e = absurd cc

  pub none_kept : (test : Cell N → Bool) (cs : List (Cell N)) → ((x : Cell N) → IsIn x cs → test x ≡ false)
      → filter test cs ≡ []
  none_kept test [] h = refl
  none_kept test (x ∷ cs) h =
      ap (λ t. cond t (x ∷ filter test cs) (filter test cs)) (h x (first cs))
      ∙ none_kept test cs (λ y i. h y (later x cs i))

  -- ---- no cell lies partly in the place of one that is there

  module _ (d : Model) (c : Cell N) (cs : List (Cell N)) (a : AreSharedCells d cs) (over : IsOverCell c cs) where
    whole : (p : ByteRange) → encloses p p ≡ true
    whole p =
        and_from (nat_le p.offset p.offset) (nat_le (p.offset + p.bytes) (p.offset + p.bytes))
        (le-leb p.offset p.offset (omega arith)) (le-leb (p.offset + p.bytes) (p.offset + p.bytes) (omega arith))

    not_cut : (s : CellSide) (x : Cell N) → IsIn x cs → is_partly_in (on_cell_side s (place_of d c)) (place_of d x) ≡ false
    not_cut s x i = at (touches (place_of d c) (place_of d x)) refl
      where
        at : (t : Bool) → touches (place_of d c) (place_of d x) ≡ t
            → is_partly_in (on_cell_side s (place_of d c)) (place_of d x) ≡ false
        at true e =
            let same = place_alike d c x (touched_alike d c cs a over x i e) in
            ap (λ t. meets (on_cell_side s (place_of d c)) (place_of d x) && not t)
            (sym (ap (encloses (place_of d c)) same) ∙ whole (place_of d c))
            ∙ and-false (meets (on_cell_side s (place_of d c)) (place_of d x))
        at false e =
            ap (λ t. (share_memory s x.side && t) && not (encloses (place_of d c) (place_of d x))) e
            ∙ nothing (share_memory s x.side) (not (encloses (place_of d c) (place_of d x)))

    none_cut : (s : CellSide) → cut_cells d (on_cell_side s (place_of d c)) cs ≡ []
    none_cut s = none_kept (λ x. is_partly_in (on_cell_side s (place_of d c)) (place_of d x)) cs (not_cut s)

module _ {N : Type 0} (D : Ops N) (law : Lawful D) (p : Program) (places : PlaceLaws D p) (ord : Side → Order)
    (h k : Known N) (live res : List ℕ) (q : Spot) (w : Scalar) (v : Option (Value N)) (maybe : Bool) (f : Form)
    (g : IsGood D p ord h live res k) (can : CanStand D p live k q w v maybe f) where
  laws : CellLaws D
  laws = cell_laws D law

  abbrev c : Cell N
  c = new_cell Shared q w v maybe f

  shared : AreSharedCells k.model k.cells
  shared =
      subst (λ (d : Model). AreSharedCells d k.cells) (sym g.state.model) ((shape_laws_of D).shared p k.cells g.shape)

  -- ---- at one place

  side_uncut : (s : CellSide) → split_at D (on_cell_side s (place_of k.model c)) k ≡ k
  side_uncut s =
      ap (λ xs. record k { cells = split_all D k s xs k.cells }) (none_cut k.model c k.cells shared can.over s)

  uncut : cut D (place_of k.model c) k ≡ k
  uncut =
      ap (split_at D (on_cell_side Right (place_of k.model c))) (side_uncut Left) ∙ side_uncut Right

  abbrev formed : Cell N
  formed = with_form (form_by_cut D (place_of k.model c) k) c

  over_formed : IsOverCell formed k.cells
  over_formed = record {
    shared = refl;
    old = can.over.old;
    is_in = can.over.is_in;
    same = can.over.same;
  }

  points_formed : CellPoints D p live formed
  points_formed = record {
    inside = can.points.inside;
    along = can.points.along;
    sure = λ m. form_apart c formed refl refl (can.points.sure m);
  }

  -- another form
  any_form : (x : Cell N) (fate : Fate) → CellPoints D p live x → CellPoints D p live (reformed fate x)
  any_form x fate i = record {
    inside = i.inside;
    along = i.along;
    sure = λ m. form_apart x (reformed fate x) refl refl (i.sure m);
  }

  written_points : (y : Cell N) → IsIn y (written k.model formed k.cells) → CellPoints D p live y
  written_points y i =
      let m = in_map (reformed (fate_by_write (place_of k.model formed))) y
      (put formed (each_becomes (left_by_write k.model (place_of k.model formed)) k.cells)) i in
      subst (CellPoints D p live) (sym m.is)
      (any_form m.origin (fate_by_write (place_of k.model formed))
      (⊎_elim (λ e. subst (CellPoints D p live) (sym e) points_formed) (λ j. left m.origin j)
      (in_put formed m.origin (each_becomes (left_by_write k.model (place_of k.model formed)) k.cells) m.is_in)))
    where
      left : (z : Cell N) → IsIn z (each_becomes (left_by_write k.model (place_of k.model formed)) k.cells)
          → CellPoints D p live z
      left z j =
          let r = in_each (left_by_write k.model (place_of k.model formed)) z k.cells j in
          at r.origin z (touches (place_of k.model formed) (place_of k.model r.origin)) r.becomes
          (g.points r.origin r.is_in)
        where
          at : (x z : Cell N) (t : Bool) → IsIn z (cond t [] (x ∷ [])) → CellPoints D p live x → CellPoints D p live z
          at x z true i own = elim i [ ]
          at x z false i own = subst (CellPoints D p live) (sym (one_in z x i)) own

  pub strong_good : IsGood D p ord h live res (replaced D (place_of k.model c) (c ∷ []) k)
  strong_good =
      let cells = strong_cells D laws.splits laws.more_splits laws.writes Shared k q w v maybe f g.state.cells
      (record { sort = can.sort; rising = can.rising; last = can.last; form = can.form }) in
      good_alike D law p places ord h k live res (written k.model formed (cut D (place_of k.model c) k).cells) g
      (subst (λ d. AreCells d (written k.model formed (cut D (place_of k.model c) k).cells)) g.state.model cells)
      (subst (λ (j : Known N). HaveCellsAlike k.cells (written k.model formed j.cells)) (sym uncut)
      (written_alike k.model formed k.cells shared over_formed))
      (λ y i. written_points y
      (subst (λ (j : Known N). IsIn y (written k.model formed j.cells)) uncut i))

  -- ---- at one of several places

  joined_points : (x : Cell N) → AreAlike c x → CellPoints D p live x → CellPoints D p live (with_join D c x)
  joined_points x a i = record {
    inside = both_have (IsInBlock D p) D.join (λ b n m s t. s) x.value c.value i.inside can.points.inside;
    along = λ z there pt ty at target.
        both_have (PointsTo D p live ty) D.join (λ b n m s t. places.joined live ty b n m s t) x.value c.value
        (i.along z there pt ty at target)
        (can.points.along z (ap (slice_get p.blocks) a.block ∙ there) pt ty
        (subst (λ o. HasScalar p.types z.ty o pt) (sym a.offset) at) target);
    sure = λ m.
        (let s = both_sure D.join x c (i.sure m) (can.points.sure (ap (is_result_of_main p) a.block ∙ m)) in
        form_apart (cell_of_both D.join x c) (with_join D c x) refl refl s);
  }

  weak_points : (x z : Cell N) → IsIn x k.cells → IsIn z (left_by_weak_write D k.model c true x)
      → CellPoints D p live z
  weak_points x z i j = at (touches (place_of k.model c) (place_of k.model x)) refl j
    where
      left_if : (t s : Bool) → List (Cell N)
      left_if t s =
          cond (not t) (x ∷ []) (cond (true && s) (cond s (with_join D c x ∷ []) (blurred D x x.what))
          (each_becomes (weak_part D c) (parts_of x)))

      at : (t : Bool) → touches (place_of k.model c) (place_of k.model x) ≡ t
          → IsIn z (left_by_weak_write D k.model c true x) → CellPoints D p live z
      at true e j =
          let a = touched_alike k.model c k.cells shared can.over x i e in
          let same = (and_parts (is_same_side c.side x.side) (is_same_place c x) (same_alike c x a)).1 in
          subst (CellPoints D p live) (sym (one_in z (with_join D c x)
          (subst (λ xs. IsIn z xs) (ap (λ t. left_if t (is_same_place c x)) e ∙ ap (left_if true) same) j)))
          (joined_points x a (g.points x i))
      at false e j =
          subst (CellPoints D p live)
          (sym (one_in z x (subst (λ xs. IsIn z xs) (ap (λ t. left_if t (is_same_place c x)) e) j))) (g.points x i)

  weakened_points : (y : Cell N) → IsIn y (weakened D k.model c true k.cells) → CellPoints D p live y
  weakened_points y i =
      let m = in_map (reformed (fate_by_weak_write (place_of k.model c))) y
      (each_becomes (left_by_weak_write D k.model c true) k.cells) i in
      let r = in_each (left_by_weak_write D k.model c true) m.origin k.cells m.is_in in
      subst (CellPoints D p live) (sym m.is)
      (any_form m.origin (fate_by_weak_write (place_of k.model c)) (weak_points r.origin m.origin r.is_in r.becomes))

  pub weak_good : IsGood D p ord h live res (record k { cells = weakened D k.model c true k.cells })
  weak_good =
      let fit : Fits k.model c = record { sort = can.sort; undefined = undefined_if v maybe; last = can.last } in
      good_alike D law p places ord h k live res (weakened D k.model c true k.cells) g
      (subst (λ d. AreCells d (weakened D k.model c true k.cells)) g.state.model
      (laws.weak_writes.cells k.model c true k.cells g.state.cells fit can.rising (λ e. refl)))
      (weakened_alike D k.model c k.cells shared can.over)
      weakened_points

pub writes_keep_good : {N : Type 0} (D : Ops N) → Lawful D → (p : Program) → PlaceLaws D p → (ord : Side → Order)
    → WritesKeepGood D p ord
writes_keep_good D law p places ord = record {
  strong = λ h k live res q w v maybe f g can. strong_good D law p places ord h k live res q w v maybe f g can;
  weak = λ h k live res q w v maybe f g can. weak_good D law p places ord h k live res q w v maybe f g can;
}
