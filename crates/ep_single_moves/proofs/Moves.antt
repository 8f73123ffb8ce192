-- Cells that are moved from one place to one, where a state stands for one pair of memories alone.
use Rattle.std.proofs.Common.{◌≡◌, ℕ, ◌+◌, ◌-◌, ◌^◌, ◌<◌, ◌≤◌, Bool, true, false, ◌&&◌, nat_eq, nat_le, nat_lt}
use Rattle.std.proofs.Common.{if◌then◌else◌, List, map, Option, Some, None, refl, sym, ◌∙◌, subst, arith}
use Rattle.std.proofs.lemmas.Bool.{and_parts, and_from, eqb-true, eq-eqb, leb-true, ltb-true, le-leb, lt-ltb, both_ways}
use Rattle.ep_int.specs.declared.types.Model.{Model}
use Rattle.ep_int.specs.Types.{size_of}
use Rattle.ep_int.specs.Memory.{Memory, undefined, broken, copied}
use Rattle.ep_int.proofs.Memories.{replaced_covered}
use Rattle.ep_bitslice.specs.declared.cell.Side.{Side as CellSide}
use Rattle.ep_bitslice.specs.declared.cell.Side.TheVariants as cell_side
use Rattle.ep_domain.specs.Domain.{Ops, Lawful}
use Rattle.ep_cells.specs.declared.cell.Cell.{Cell}
use Rattle.ep_cells.specs.declared.place.ByteRange.{ByteRange}
use Rattle.ep_cells.specs.Cells.{IsIn, on_left, on_right, place_of, encloses}
use Rattle.ep_cells.specs.Look.{covers, cell_at}
use Rattle.ep_cells.specs.States.{Known}
use Rattle.ep_cells.specs.Meaning.{Memories}
use Rattle.ep_cells.specs.Memories.{is_byte_of}
use Rattle.ep_cells.proofs.Lists.{in_map, map_in}
use Rattle.ep_cell_ranges.specs.Moves.{place_at, moved_to, taken, taken_by_both}
use Rattle.ep_cell_ranges.specs.Ranges.{replaced}
use Rattle.ep_cell_ranges.specs.Sound.{AreStored, AreNew, IsInside, SayNew, moved_place, IsCopied, AreCopied}
use Rattle.ep_cell_ranges.specs.Spots.{Spot, is_same_spot}
use Rattle.ep_cell_ranges.proofs.Moved.{of_moves}
use Rattle.ep_cell_ranges.proofs.Same.{SameMemories, in_same}
use Rattle.ep_cell_ranges.proofs.Takes.{of_takes}
use Rattle.ep_singles.specs.Cells.{IsOneCell, no_value, one_value, IsOne}
use Rattle.ep_singles.specs.CellLaws.{IsFilled}
use Rattle.ep_singles.proofs.Covers.{has_side, not_covering, found_covers}
use Rattle.ep_singles.proofs.Replaces.{replaces_keep_one}
use Rattle.ep_single_moves.specs.Laws.{MovesOne}
use Rattle.ep_single_moves.proofs.Taken.{taken_are_one, alone_filled, left_filled, right_filled}

-- ---- cells that are moved

module _ {N : Type 0} (D : Ops N) where
  moved_one : (p q : Spot) (c : Cell N) → IsOneCell D c → IsOneCell D (moved_to p q c)
  moved_one p q c (no_value e) = no_value e
  moved_one p q c (one_value t v) = one_value t v

  -- a byte that a cell has is one that the moved cell has
  moved_covers : (d : Model) (s : CellSide) (p : ByteRange) (to : Spot) (j : ℕ) (y : Cell N)
      → encloses p (place_of d y) ≡ true → covers d s p.block (p.offset + j) y ≡ true
      → covers d s to.0 (to.1 + j) (moved_to (p.block, p.offset) to y) ≡ true
  moved_covers d s p to j y i h =
      let a = and_parts (has_side y.side s) (nat_eq y.block p.block && (nat_le y.offset (p.offset + j) && nat_lt
      (p.offset + j) (y.offset + size_of d y.what))) h in
      let b = and_parts (nat_eq y.block p.block) (nat_le y.offset (p.offset + j) && nat_lt (p.offset + j)
      (y.offset + size_of d y.what)) a.1 in
      let c = and_parts (nat_le y.offset (p.offset + j)) (nat_lt (p.offset + j) (y.offset + size_of d y.what)) b.1 in
      let e = and_parts (nat_le p.offset y.offset) (nat_le (y.offset + size_of d y.what) (p.offset + p.bytes)) i in
      let low = leb-true y.offset (p.offset + j) c.0 in
      let high = ltb-true (p.offset + j) (y.offset + size_of d y.what) c.1 in
      let from = leb-true p.offset y.offset e.0 in
      let at = (y.offset - p.offset) + to.1 in
      let below : (y.offset - p.offset) + to.1 ≤ to.1 + j = omega (arith, low, from) in
      let above : to.1 + j < (y.offset - p.offset) + to.1 + size_of d y.what = omega (arith, high, from) in
      and_from (has_side y.side s) (nat_eq to.0 to.0 && (nat_le at (to.1 + j) && nat_lt (to.1 + j)
      (at + size_of d y.what))) a.0
      (and_from (nat_eq to.0 to.0) (nat_le at (to.1 + j) && nat_lt (to.1 + j) (at + size_of d y.what))
      (eq-eqb to.0 to.0 refl)
      (and_from (nat_le at (to.1 + j)) (nat_lt (to.1 + j) (at + size_of d y.what)) (le-leb at (to.1 + j) below)
      (lt-ltb (to.1 + j) (at + size_of d y.what) above)))

  module _ (k : Known N) (s : CellSide) (p : ByteRange) (to : Spot) (n o : Memory) (xs : List (Cell N))
      (inside : (y : Cell N) → IsIn y xs → IsInside k.model p y) (copy : IsCopied p to n o)
      (filled : (b r : ℕ) → is_byte_of p b r ≡ true → cell_at k.model s b r xs ≡ None → n b r ≡ undefined) where
    abbrev ys : List (Cell N)
    ys = map (moved_to (p.block, p.offset) to) xs

    filled_at : (j : ℕ) → j < p.bytes → cell_at k.model s to.0 (to.1 + j) ys ≡ None → o to.0 (to.1 + j) ≡ undefined
    filled_at j l e = copy j l ∙ by_cell (cell_at k.model s p.block (p.offset + j) xs) refl
      where
        there : is_byte_of p p.block (p.offset + j) ≡ true
        there =
            and_from (nat_eq p.block p.block) (nat_le p.offset (p.offset + j) && nat_lt (p.offset + j)
            (p.offset + p.bytes)) (eq-eqb p.block p.block refl)
            (and_from (nat_le p.offset (p.offset + j)) (nat_lt (p.offset + j) (p.offset + p.bytes))
            (le-leb p.offset (p.offset + j) (omega arith))
            (lt-ltb (p.offset + j) (p.offset + p.bytes) (omega (arith, l))))

        by_cell : (u : Option (Cell N)) → cell_at k.model s p.block (p.offset + j) xs ≡ u
            → n p.block (p.offset + j) ≡ undefined
        by_cell None f = filled p.block (p.offset + j) there f
        by_cell (Some y) f =
            let c = found_covers k.model s p.block (p.offset + j) xs y f in
            absurd (both_ways (covers k.model s to.0 (to.1 + j) (moved_to (p.block, p.offset) to y))
            (not_covering k.model s to.0 (to.1 + j) ys (moved_to (p.block, p.offset) to y) e
            (map_in (moved_to (p.block, p.offset) to) y xs c.0))
            (moved_covers k.model s p to j y (inside y c.0).bytes c.1))

    moved_filled : (b r : ℕ) → is_byte_of (moved_place p to) b r ≡ true → cell_at k.model s b r ys ≡ None
        → o b r ≡ undefined
    moved_filled b r i e =
        let a = and_parts (nat_eq to.0 b) (nat_le to.1 r && nat_lt r (to.1 + p.bytes)) i in
        let c = and_parts (nat_le to.1 r) (nat_lt r (to.1 + p.bytes)) a.1 in
        let low = leb-true to.1 r c.0 in
        let high = ltb-true r (to.1 + p.bytes) c.1 in
        let f : to.0 ≡ b = eqb-true to.0 b a.0 in
        let g : to.1 + (r - to.1) ≡ r = omega (arith, low) in
        subst (λ b. o b r ≡ undefined) f
        (subst (λ r. o to.0 r ≡ undefined) g
        (filled_at (r - to.1) (omega (arith, low, high))
        (subst (λ r. cell_at k.model s to.0 r ys ≡ None) (sym g)
        (subst (λ b. cell_at k.model s b r ys ≡ None) (sym f) e))))

  -- ---- new cells of one value, moved to where their bytes are copied

  module _ (law : Lawful D) (k : Known N) (m n o : Memories) (one : IsOne D k m) where
    placed_one : (p : ByteRange) (to : Spot) (xs : List (Cell N)) → to.1 + p.bytes ≤ 2 ^ 32
        → AreNew k.model p k.cells xs → SayNew D k xs m n → ((c : Cell N) → IsIn c xs → IsOneCell D c)
        → AreCopied p to n o → AreStored k.model (moved_place p to) m o
        → (on_left p.side ≡ true → IsFilled D k p xs cell_side.Left n.left)
        → (on_right p.side ≡ true → IsFilled D k p xs cell_side.Right n.right)
        → IsOne D (replaced D (moved_place p to) (map (moved_to (p.block, p.offset) to) xs) k) o
    placed_one p to xs room new says each copy stored left_filled right_filled =
        let move = moved_to (p.block, p.offset) to in
        replaces_keep_one D law k m o one (moved_place p to) (map move xs) ((of_moves D).new k p to xs room new)
        (λ y i.
        let z = in_map move y xs i in
        subst (IsOneCell D) (sym z.is) (moved_one (p.block, p.offset) to z.origin (each z.origin z.is_in)))
        stored ((of_moves D).says k p to xs new m n o copy says)
        (λ t. moved_filled k cell_side.Left p to n.left o.left xs new.inside (copy.left t) (left_filled t))
        (λ t. moved_filled k cell_side.Right p to n.right o.right xs new.inside (copy.right t) (right_filled t))

  -- ---- machines that copy

  same_one : (k : Known N) (m o : Memories) → IsOne D k m → SameMemories m o → IsOne D k o
  same_one k m o one e = record {
    cells = one.cells;
    each = one.each;
    left_outside = λ b q h. e.left b q ∙ one.left_outside b q h;
    right_outside = λ b q h. e.right b q ∙ one.right_outside b q h;
    holds = in_same D k m o e one.holds;
  }

  copied_there : (d : Model) (m o : Memory) (q p : Spot) (n : ℕ) → ((b j : ℕ) → o b j ≡ copied d m q.0 q.1 p.0 p.1 n b j)
      → (j : ℕ) → j < n → o q.0 (q.1 + j) ≡ broken d m p.0 p.1 n p.0 (p.1 + j)
  copied_there d m o q p n h j l =
      h q.0 (q.1 + j) ∙ replaced_covered d m q.0 q.1 n (λ k. broken d m p.0 p.1 n p.0 (p.1 + k)) j l

  module _ (law : Lawful D) (k : Known N) (m o : Memories) (one : IsOne D k m) (q p : Spot) (n : ℕ)
      (room : q.1 + n ≤ 2 ^ 32) where
    abbrev Copies : Memory → Memory → Type 0
    Copies m o = (b j : ℕ) → o b j ≡ copied k.model m q.0 q.1 p.0 p.1 n b j

    abbrev Stays : Memory → Memory → Type 0
    Stays m o = (b j : ℕ) → o b j ≡ m b j

    left_moved : Copies m.left o.left → Stays m.right o.right
        → IsOne D (replaced D (place_at cell_side.Left q n)
        (map (moved_to p q) (taken D k (place_at cell_side.Left p n))) k) o
    left_moved h r =
        let from = place_at cell_side.Left p n in
        let b : Memories = record { left = broken k.model m.left p.0 p.1 n; right = m.right } in
        placed_one law k m b o one from q (taken D k from) room ((of_takes D law).new k from one.cells refl)
        ((of_takes D law).says k from one.cells refl m b one.holds
        (record {
          left = record { here_broken = λ e c j. refl; whole = λ e. absurd (cc) };
          right = record { here_broken = λ e. absurd (cc); whole = λ e c j. refl };
        })) ((taken_are_one D law k m one).alone from refl)
        (record { left = λ e. copied_there k.model m.left o.left q p n h; right = λ e. absurd (cc) })
        (record {
          left = record { stored = λ e. record { beside = λ c j out. h c j ∙ rw out refl }; stays = λ e. absurd (cc) };
          right = record { stored = λ e. absurd (cc); stays = λ e c j. r c j };
        })
        (λ e. alone_filled D k from m.left b.left tt one.left_outside (λ c j. refl)) (λ e. absurd (cc))

    right_moved : Stays m.left o.left → Copies m.right o.right
        → IsOne D (replaced D (place_at cell_side.Right q n)
        (map (moved_to p q) (taken D k (place_at cell_side.Right p n))) k) o
    right_moved r h =
        let from = place_at cell_side.Right p n in
        let b : Memories = record { left = m.left; right = broken k.model m.right p.0 p.1 n } in
        placed_one law k m b o one from q (taken D k from) room ((of_takes D law).new k from one.cells refl)
        ((of_takes D law).says k from one.cells refl m b one.holds
        (record {
          left = record { here_broken = λ e. absurd (cc); whole = λ e c j. refl };
          right = record { here_broken = λ e c j. refl; whole = λ e. absurd (cc) };
        })) ((taken_are_one D law k m one).alone from refl)
        (record { left = λ e. absurd (cc); right = λ e. copied_there k.model m.right o.right q p n h })
        (record {
          left = record { stored = λ e. absurd (cc); stays = λ e c j. r c j };
          right = record { stored = λ e. record { beside = λ c j out. h c j ∙ rw out refl }; stays = λ e. absurd (cc) };
        })
        (λ e. absurd (cc)) (λ e. alone_filled D k from m.right b.right tt one.right_outside (λ c j. refl))

    both_moved : Copies m.left o.left → Copies m.right o.right
        → IsOne D (replaced D (place_at cell_side.Shared q n) (map (moved_to p q) (taken_by_both D k p n)) k) o
    both_moved h r =
        let from = place_at cell_side.Shared p n in
        let b : Memories = record {
          left = broken k.model m.left p.0 p.1 n;
          right = broken k.model m.right p.0 p.1 n;
        } in
        placed_one law k m b o one from q (taken_by_both D k p n) room ((of_takes D law).both_new k p n one.cells)
        ((of_takes D law).both_says k p n one.cells m b one.holds
        (record {
          left = record { here_broken = λ e c j. refl; whole = λ e. absurd (cc) };
          right = record { here_broken = λ e c j. refl; whole = λ e. absurd (cc) };
        })) ((taken_are_one D law k m one).both p n)
        (record {
          left = λ e. copied_there k.model m.left o.left q p n h;
          right = λ e. copied_there k.model m.right o.right q p n r;
        })
        (record {
          left = record { stored = λ e. record { beside = λ c j out. h c j ∙ rw out refl }; stays = λ e. absurd (cc) };
          right = record { stored = λ e. record { beside = λ c j out. r c j ∙ rw out refl }; stays = λ e. absurd (cc) };
        })
        (λ e. left_filled D k p n m.left b.left one.left_outside (λ c j. refl))
        (λ e. right_filled D k p n m.right b.right one.right_outside (λ c j. refl))

    -- an aggregate that is assigned to itself stays
    abbrev Copied : Bool → Memory → Memory → Type 0
    Copied t m o = (b j : ℕ) → o b j ≡ (if t then m else copied k.model m q.0 q.1 p.0 p.1 n) b j

    left_by : (t : Bool) → Copied t m.left o.left → Stays m.right o.right
        → IsOne D (if t then k else replaced D (place_at cell_side.Left q n)
        (map (moved_to p q) (taken D k (place_at cell_side.Left p n))) k) o
    left_by true h r = same_one k m o one (record { left = h; right = r })
    left_by false h r = left_moved h r

    right_by : (t : Bool) → Stays m.left o.left → Copied t m.right o.right
        → IsOne D (if t then k else replaced D (place_at cell_side.Right q n)
        (map (moved_to p q) (taken D k (place_at cell_side.Right p n))) k) o
    right_by true h r = same_one k m o one (record { left = h; right = r })
    right_by false h r = right_moved h r

    both_by : (t : Bool) → Copied t m.left o.left → Copied t m.right o.right
        → IsOne D (if t then k else replaced D (place_at cell_side.Shared q n)
        (map (moved_to p q) (taken_by_both D k p n)) k) o
    both_by true h r = same_one k m o one (record { left = h; right = r })
    both_by false h r = both_moved h r

  pub moves_keep_one : Lawful D → (k : Known N) (m o : Memories) → IsOne D k m → (agg : Bool) (q p : Spot) (n : ℕ)
      → q.1 + n ≤ 2 ^ 32 → MovesOne D k m o agg q p n
  moves_keep_one law k m o one agg q p n room = record {
    on_left = λ h r. left_by law k m o one q p n room (agg && is_same_spot q p) (h.copied refl) (r.stays refl);
    on_right = λ h r. right_by law k m o one q p n room (agg && is_same_spot q p) (h.stays refl) (r.copied refl);
    on_both = λ h r. both_by law k m o one q p n room (agg && is_same_spot q p) (h.copied refl) (r.copied refl);
  }
