-- A place is cut on its sides, and new cells of one value take it.
use Rattle.std.proofs.Common.{◌≡◌, ℕ, Bool, true, false, cond, List, [], ◌∷◌, map, Some, None, refl, sym, subst}
use Rattle.std.specs.List.{list_any}
use Rattle.std.proofs.lemmas.Bool.{or_parts}
use Rattle.ep_int.specs.declared.types.Model.{Model}
use Rattle.ep_int.specs.Memory.{broken}
use Rattle.ep_bitslice.specs.declared.cell.Side.{Side}
use Rattle.ep_bitslice.specs.declared.cell.Side.TheVariants.{Left, Right, Shared}
use Rattle.ep_domain.specs.Domain.{Ops, Lawful}
use Rattle.ep_cells.specs.declared.cell.Cell.{Cell}
use Rattle.ep_cells.specs.declared.place.ByteRange.{ByteRange}
use Rattle.ep_cells.specs.Cells.{IsIn, first, later, on_left, on_right, place_of, is_partly_in}
use Rattle.ep_cells.specs.Look.{covers, cell_at}
use Rattle.ep_cells.specs.States.{Known, AreCells}
use Rattle.ep_cells.specs.Meaning.{Memories, In}
use Rattle.ep_cells.proofs.Lists.{in_map}
use Rattle.ep_reads.specs.SplitLaws.{AreBroken}
use Rattle.ep_reads.proofs.Splits.{of_splits}
use Rattle.ep_cell_ranges.specs.Ranges.{Reform, with_form, split_at, cut, form_by_cut, overwritten, replaced}
use Rattle.ep_cell_ranges.specs.Laws.{ReplaceLaws}
use Rattle.ep_cell_ranges.specs.Sound.{AreStored, AreNew, SayNew}
use Rattle.ep_cell_ranges.proofs.Cut.{broken_on, is_cut}
use Rattle.ep_cell_ranges.proofs.Overwrites.{of_overwrites}
use Rattle.ep_cell_ranges.proofs.Replaces.{are_rewritten, cut_is, of_replaces}
use Rattle.ep_cell_ranges.proofs.Waits.{of_splits as of_more_splits}
use Rattle.ep_singles.specs.Cells.{IsOneCell, no_value, one_value, IsOne}
use Rattle.ep_singles.specs.CellLaws.{IsFilled}
use Rattle.ep_singles.proofs.Covers.{share_left, share_right, empty_after}
use Rattle.ep_singles.proofs.Overwrites.{overwritten_each, write_step}
use Rattle.ep_singles.proofs.Splits.{splits_keep_one}

-- ---- cuts

left_broken : (d : Model) (b q n : ℕ) (m : Memories)
    → AreBroken d (record { side = Left; block = b; offset = q; bytes = n }) m
    (record { left = broken d m.left b q n; right = m.right })
left_broken d b q n m = record {
  left = record { here_broken = λ e c j. refl; whole = λ e. absurd cc };
  right = record { here_broken = λ e. absurd cc; whole = λ e c j. refl };
}

right_broken : (d : Model) (b q n : ℕ) (m : Memories)
    → AreBroken d (record { side = Right; block = b; offset = q; bytes = n }) m
    (record { left = m.left; right = broken d m.right b q n })
right_broken d b q n m = record {
  left = record { here_broken = λ e. absurd cc; whole = λ e c j. refl };
  right = record { here_broken = λ e c j. refl; whole = λ e. absurd cc };
}

module _ {N : Type 0} (D : Ops N) (law : Lawful D) where
  cut_by : (s : Side) (b q n : ℕ) (k : Known N) (m : Memories) → IsOne D k m
      → (let p : ByteRange = record { side = s; block = b; offset = q; bytes = n } in
      IsOne D (record k { cells = (cut D p k).cells }) (broken_on k.model p m))
  cut_by Left b q n k m one =
      let p : ByteRange = record { side = Left; block = b; offset = q; bytes = n } in
      splits_keep_one D law k m (broken_on k.model p m) one p refl (left_broken k.model b q n m)
  cut_by Right b q n k m one =
      let p : ByteRange = record { side = Right; block = b; offset = q; bytes = n } in
      splits_keep_one D law k m (broken_on k.model p m) one p refl (right_broken k.model b q n m)
  cut_by Shared b q n k m one =
      let l : ByteRange = record { side = Left; block = b; offset = q; bytes = n } in
      let r : ByteRange = record { side = Right; block = b; offset = q; bytes = n } in
      let h : Memories = record { left = broken k.model m.left b q n; right = m.right } in
      splits_keep_one D law (split_at D l k) h (record { left = h.left; right = broken k.model h.right b q n })
      (splits_keep_one D law k m h one l refl (left_broken k.model b q n m)) r refl (right_broken k.model b q n h)

  cut_one : (p : ByteRange) (k : Known N) (m : Memories) → IsOne D k m
      → IsOne D (record k { cells = (cut D p k).cells }) (broken_on k.model p m)
  cut_one p k m one = cut_by p.side p.block p.offset p.bytes k m one

-- what none of a list is
none_in : {N : Type 0} (test : Cell N → Bool) (cs : List (Cell N)) (x : Cell N) → list_any test cs ≡ false → IsIn x cs
    → test x ≡ false
none_in test [] x e i = elim i [ ]
none_in test (_ ∷ cs) x e (first _) = (or_parts (test x) (list_any test cs) e).0
none_in test (c ∷ cs) x e (later _ _ i) = none_in test cs x (or_parts (test c) (list_any test cs) e).1 i

-- ---- new cells with other forms

found_formed : {N : Type 0} (d : Model) (s : Side) (b q : ℕ) (g : Reform) (cs : List (Cell N))
    → cell_at d s b q (map (with_form g) cs) ≡ None → cell_at d s b q cs ≡ None
found_formed d s b q g [] e = refl
found_formed d s b q g (c ∷ cs) e = by_first (covers d s b q c) e (found_formed d s b q g cs)
  where
    by_first : (t : Bool) → cond t (Some (with_form g c)) (cell_at d s b q (map (with_form g) cs)) ≡ None
        → (cell_at d s b q (map (with_form g) cs) ≡ None → cell_at d s b q cs ≡ None)
        → cond t (Some c) (cell_at d s b q cs) ≡ None
    by_first true h f = absurd (let i : Some (with_form g c) ≡ None = h in cc)
    by_first false h f = f h

one_formed : {N : Type 0} (D : Ops N) (g : Reform) (c : Cell N) → IsOneCell D c → IsOneCell D (with_form g c)
one_formed D g c (no_value e) = no_value e
one_formed D g c (one_value t v) = one_value t v

formed_each : {N : Type 0} (D : Ops N) (g : Reform) (cs : List (Cell N)) → ((c : Cell N) → IsIn c cs → IsOneCell D c)
    → (y : Cell N) → IsIn y (map (with_form g) cs) → IsOneCell D y
formed_each D g cs each y i =
    let z = in_map (with_form g) y cs i in
    subst (IsOneCell D) (sym z.is) (one_formed D g z.origin (each z.origin z.is_in))

pub replaces_keep_one : {N : Type 0} (D : Ops N) → Lawful D → (k : Known N) (m n : Memories) → IsOne D k m
    → (p : ByteRange) (new : List (Cell N)) → AreNew k.model p k.cells new
    → ((c : Cell N) → IsIn c new → IsOneCell D c) → AreStored k.model p m n → SayNew D k new m n
    → (on_left p.side ≡ true → IsFilled D k p new Left n.left)
    → (on_right p.side ≡ true → IsFilled D k p new Right n.right) → IsOne D (replaced D p new k) n
replaces_keep_one {N = N} D law k m n one p new are each stored says left_filled right_filled =
    let all : ReplaceLaws D = of_replaces D (of_splits D law) (of_more_splits D law) (of_overwrites D) in
    let news = map (with_form (form_by_cut D p k)) new in
    let j : Known N = record k { cells = (cut D p k).cells } in
    let b = broken_on k.model p m in
    let c = cut_one D law p k m one in
    let w = are_rewritten k.model p m n stored in
    let u = none_in (λ (x : Cell N). is_partly_in p (place_of k.model x)) (cut D p k).cells in
    let uncut : (x : Cell N) → IsIn x (cut D p k).cells → is_partly_in p (place_of k.model x) ≡ false =
    λ x i. u x (is_cut D (of_splits D law)
    (of_more_splits D law) p.side p.block p.offset p.bytes k one.cells).uncut i in
    let e = cut_is D p k in
    let more : IsOne D (overwritten D p news j) n = record {
      cells = subst (λ l. AreCells k.model (overwritten D p news l).cells) e (all.cells k p new one.cells are);
      each = overwritten_each D j p news c.each (formed_each D (form_by_cut D p k) new each);
      left_outside = empty_after k.model Left j.cells (overwritten D p news j).cells b.left n.left c.left_outside
          (write_step D j Left p news b.left n.left tt uncut (on_left p.side) (share_left p.side) w.left
          (λ t c q h i. left_filled t c q h (found_formed k.model Left c q (form_by_cut D p k) new i)));
      right_outside = empty_after k.model Right j.cells (overwritten D p news j).cells b.right n.right c.right_outside
          (write_step D j Right p news b.right n.right tt uncut (on_right p.side) (share_right p.side) w.right
          (λ t c q h i. right_filled t c q h (found_formed k.model Right c q (form_by_cut D p k) new i)));
      holds = subst (λ l. In D (overwritten D p news l) n) e
          (all.holds k p new one.cells are m n one.holds stored says);
    } in
    subst (λ l. IsOne D (overwritten D p news l) n) (sym e) more
