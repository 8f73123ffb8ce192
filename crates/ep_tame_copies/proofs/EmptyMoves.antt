-- An object without bytes is moved: nothing changes but forms.
use Rattle.std.proofs.Common.{◌≡◌, ℕ, Bool, true, false, ◌&&◌, not, cond, List, [], ◌∷◌, ◌++◌, map, refl, sym, ap, ◌∙◌, subst}
use Rattle.ep_int.proofs.Basics.{and-false}
use Rattle.ep_int.specs.declared.types.Order.{Order}
use Rattle.ep_bitslice.specs.declared.cell.Side.{Side as CellSide}
use Rattle.ep_bitslice.specs.declared.cell.Side.TheVariants.{Left, Right, Shared}
use Rattle.ep_domain.specs.Domain.{Ops, Lawful}
use Rattle.ep_cells.specs.declared.cell.Cell.{Cell}
use Rattle.ep_cells.specs.declared.place.ByteRange.{ByteRange}
use Rattle.ep_cells.specs.Cells.{IsIn, first, later, place_of, encloses, share_memory, is_partly_in, each_becomes}
use Rattle.ep_cells.specs.Cells.{with_side, side_without}
use Rattle.ep_cells.specs.Forms.{reformed}
use Rattle.ep_cells.specs.States.{Known, AreCells}
use Rattle.ep_cells.specs.Write.{left_by_write, fate_by_write}
use Rattle.ep_cells.proofs.Lists.{in_map}
use Rattle.ep_reads.specs.Split.{split_all}
use Rattle.ep_cell_ranges.specs.Moves.{place_at, moved_to, taken_cell, taken_if, is_whole_shared, taken_left, taken_right}
use Rattle.ep_cell_ranges.specs.Moves.{taken_by_both}
use Rattle.ep_cell_ranges.specs.Ranges.{on_cell_side, split_at, cut, overwritten, replaced}
use Rattle.ep_cell_ranges.specs.Sound.{AreNew}
use Rattle.ep_cell_ranges.specs.Spots.{Spot}
use Rattle.ep_cell_ranges.proofs.Overwrites.{of_overwrites}
use Rattle.ep_cell_ranges.proofs.Replaces.{of_replaces}
use Rattle.ep_core.specs.Program.{Program}
use Rattle.ep_core.specs.Runs.{Side}
use Rattle.ep_transfers.proofs.Gathered.{cell_laws}
use Rattle.ep_tame_places.specs.Laws.{PlaceLaws}
use Rattle.ep_tame_states.specs.States.{CellPoints, IsGood}
use Rattle.ep_tame_states.proofs.Meetings.{form_apart, good_alike}
use Rattle.ep_tame_writes.proofs.Written.{none_kept, nothing}
use Rattle.ep_tame_clears.proofs.Empty.{IsUncut, missed, kept_places, all_kept}

module _ {N : Type 0} where
  none_each : (f : Cell N → List (Cell N)) (cs : List (Cell N)) → ((x : Cell N) → IsIn x cs → f x ≡ [])
      → each_becomes f cs ≡ []
  none_each f [] h = refl
  none_each f (x ∷ cs) h =
      ap (λ xs. xs ++ each_becomes f cs) (h x (first cs)) ∙ none_each f cs (λ y i. h y (later x cs i))

module _ {N : Type 0} (D : Ops N) (law : Lawful D) (p : Program) (places : PlaceLaws D p) (ord : Side → Order)
    (h : Known N) (live res : List ℕ) (k : Known N) (g : IsGood D p ord h live res k) (q r : Spot) (to : IsUncut p q)
    (from : IsUncut p r) where
  abbrev R : ByteRange
  R = place_at Shared q 0

  -- ---- nothing is split, and nothing is taken

  not_partly : (s : CellSide) (x : Cell N) → IsIn x k.cells → is_partly_in (on_cell_side s R) (place_of k.model x) ≡ false
  not_partly s x i =
      ap (λ t. (share_memory s x.side && t) && not (encloses (place_at s q 0) (place_of k.model x)))
      (missed D law p places ord h live res k g s q to x i)
      ∙ nothing (share_memory s x.side) (not (encloses (place_at s q 0) (place_of k.model x)))

  side_uncut : (s : CellSide) → split_at D (on_cell_side s R) k ≡ k
  side_uncut s =
      ap (λ xs. record k { cells = split_all D k s xs k.cells })
      (none_kept (λ x. is_partly_in (on_cell_side s R) (place_of k.model x)) k.cells (not_partly s))

  uncut : cut D R k ≡ k
  uncut = ap (split_at D (on_cell_side Right R)) (side_uncut Left) ∙ side_uncut Right

  none_taken : (s t : CellSide) (x : Cell N) → IsIn x k.cells → taken_if D k (place_at s r 0) t x ≡ []
  none_taken s t x i =
      ap (λ b. cond (share_memory s x.side && b) (taken_cell D k (place_at s r 0) t x) [])
      (missed D law p places ord h live res k g s r from x i)
      ∙ ap (λ b. cond b (taken_cell D k (place_at s r 0) t x) []) (and-false (share_memory s x.side))

  none_right : (x : Cell N) → IsIn x k.cells → taken_right D k (place_at Right r 0) x ≡ []
  none_right x i = by_whole (is_whole_shared D k (place_at Right r 0) x)
    where
      by_whole : (b : Bool) → cond b [] (taken_if D k (place_at Right r 0) Right x) ≡ []
      by_whole true = refl
      by_whole false = none_taken Right Right x i

  taken_none : taken_by_both D k r 0 ≡ []
  taken_none =
      ap (λ xs. xs ++ each_becomes (taken_right D k (place_at Right r 0)) k.cells)
      (none_each (taken_left D k (place_at Left r 0)) k.cells
      (λ x i. none_taken Left (cond (is_whole_shared D k (place_at Left r 0) x) Shared Left) x i))
      ∙ none_each (taken_right D k (place_at Right r 0)) k.cells none_right

  stays : (x : Cell N) → IsIn x k.cells → left_by_write k.model R x ≡ x ∷ []
  stays x i =
      ap (λ t. cond t (with_side x (side_without Shared x.side)) (x ∷ []))
      (missed D law p places ord h live res k g Shared q to x i)

  -- ---- what is left

  none_new : AreNew k.model R k.cells []
  none_new = record { each = λ y i. elim i [ ]; inside = λ y i. elim i [ ]; apart = tt; forms = λ y i. elim i [ ] }

  kept_good : IsGood D p ord h live res (overwritten D R [] k)
  kept_good =
      let laws = cell_laws D law in
      let cells : AreCells k.model (overwritten D R [] k).cells =
      subst (λ (j : Known N). AreCells k.model (overwritten D R [] j).cells) uncut
      ((of_replaces D laws.splits laws.more_splits (of_overwrites D)).cells k R [] g.state.cells none_new) in
      good_alike D law p places ord h k live res (overwritten D R [] k).cells g
      (subst (λ d. AreCells d (overwritten D R [] k).cells) g.state.model cells)
      (kept_places (left_by_write k.model R) (fate_by_write R) k.cells stays)
      (λ y j. (
      let m = in_map (reformed (fate_by_write R)) y (each_becomes (left_by_write k.model R) k.cells) j in
      let old = subst (IsIn m.origin) (all_kept (left_by_write k.model R) k.cells stays) m.is_in in
      subst (CellPoints D p live) (sym m.is) (any_form m.origin (g.points m.origin old))))
    where
      any_form : (x : Cell N) → CellPoints D p live x → CellPoints D p live (reformed (fate_by_write R) x)
      any_form x i = record {
        inside = i.inside;
        along = i.along;
        sure = λ m. form_apart x (reformed (fate_by_write R) x) refl refl (i.sure m);
      }

  pub empty_moved_good : IsGood D p ord h live res (replaced D R (map (moved_to r q) (taken_by_both D k r 0)) k)
  empty_moved_good =
      subst (λ ys. IsGood D p ord h live res (replaced D R (map (moved_to r q) ys) k)) (sym taken_none)
      (subst (λ (j : Known N). IsGood D p ord h live res (overwritten D R [] j)) (sym uncut) kept_good)
