-- Bytes are copied on machines: what is known of a place is moved to another one, or a place may have been written.
use Rattle.std.proofs.Common.{◌≡◌, ℕ, ◌+◌, ◌^◌, ◌<◌, ◌≤◌, Bool, true, false, ◌&&◌, if◌then◌else◌, List, [], ◌∷◌, map}
use Rattle.std.proofs.Common.{refl, sym, ◌∙◌, subst}
use Rattle.ep_int.specs.declared.types.Model.{Model}
use Rattle.ep_int.specs.Memory.{Byte, undefined, number, Memory, broken, copied}
use Rattle.ep_int.proofs.Memories.{replaced_covered}
use Rattle.ep_bitslice.specs.declared.cell.Side.{Side as CellSide}
use Rattle.ep_bitslice.specs.declared.cell.Side.TheVariants as cell_side
use Rattle.ep_domain.specs.Domain.{Ops}
use Rattle.ep_cells.specs.declared.cell.Cell.{Cell}
use Rattle.ep_cells.specs.States.{Known, AreCells}
use Rattle.ep_cells.specs.Meaning.{Memories}
use Rattle.ep_core.specs.Runs.{Side, left, right}
use Rattle.ep_evaluation.specs.Given.{cells_of}
use Rattle.ep_cell_ranges.specs.Ranges.{replaced, blurred_at}
use Rattle.ep_cell_ranges.specs.Moves.{place_at, moved_to, taken, taken_by_both, blurred_each}
use Rattle.ep_cell_ranges.specs.Spots.{Spot, is_same_spot}
use Rattle.ep_cell_ranges.specs.Sound.{AreStored, AreNew, SayNew, AreCopied, changed, unchanged}
use Rattle.ep_cell_ranges.specs.Sound.{MayBothBeChanged, IsAmong, at_first, behind}
use Rattle.ep_cell_ranges.specs.Laws.{ReplaceLaws, TakenLaws, MoveLaws, BlurEachLaws}
use Rattle.ep_cell_ranges.proofs.Same.{SameMemories, in_same}
use Rattle.ep_transfers.specs.Copies.{moved_alone, moved_both}
use Rattle.ep_transfers.proofs.Changes.{IsOne, here, there, IsKnown}
use Rattle.ep_transfers.proofs.Puts.{memory_on, IsStill}

-- ---- machines

-- The memory after a copy; an aggregate that is assigned to itself stays.
abbrev pub copied_memory : Model → (aggregate : Bool) → (to from : Spot) → (bytes : ℕ) → Memory → Memory
copied_memory d agg q p n m = if agg && is_same_spot q p then m else copied d m q.0 q.1 p.0 p.1 n

abbrev pub IsCopy : Model → (aggregate : Bool) → (to from : Spot) → (bytes : ℕ) → (m o : Memory) → Type 0
IsCopy d agg q p n m o = (b j : ℕ) → o b j ≡ copied_memory d agg q p n m b j

-- each byte that is a number is below 256
abbrev pub IsBelow : Byte → Type 0
IsBelow x = (v : ℕ) → x ≡ number v → v < 256

abbrev pub AreBelow : Memory → Type 0
AreBelow m = (b q : ℕ) → IsBelow (m b q)

below_if : (t : Bool) (x y : Byte) → IsBelow x → IsBelow y → IsBelow (if t then x else y)
below_if true x y a b = a
below_if false x y a b = b

undefined_below : IsBelow undefined
undefined_below v e = absurd (cc)

pub broken_below : (d : Model) (m : Memory) (b q n : ℕ) → AreBelow m → AreBelow (broken d m b q n)
broken_below d m b q n h c j = below_if _ undefined (m c j) undefined_below (h c j)

copied_below : (d : Model) (m : Memory) (q p : Spot) (n : ℕ) → AreBelow m → AreBelow (copied d m q.0 q.1 p.0 p.1 n)
copied_below d m q p n h b j =
    below_if _ _ (broken d m q.0 q.1 n b j) (broken_below d m p.0 p.1 n h p.0 _) (broken_below d m q.0 q.1 n h b j)

among_of : (q : Spot) (qs : List Spot) → IsOne q qs → IsAmong q qs
among_of q _ (here qs) = at_first qs
among_of q _ (there r qs one) = behind r qs (among_of q qs one)

-- ---- what is known

module _ {N : Type 0} (D : Ops N) where
  -- from one state and its memories to another
  pub record IsNext (k j : Known N) (m o : Memories) : Type 0 where
    pub orders : j.orders ≡ k.orders
    pub model : j.model ≡ k.model
    pub after : IsKnown D j o

  pub same_next : (k : Known N) (m o : Memories) → IsKnown D k m → SameMemories m o → IsNext k k m o
  same_next k m o i e = record {
    orders = refl;
    model = refl;
    after = record { cells = i.cells; holds = in_same D k m o e i.holds };
  }

  pub then_next : (k j l : Known N) (m n o : Memories) → IsNext k j m n → IsNext j l n o → IsNext k l m o
  then_next k j l m n o a b = record {
    orders = b.orders ∙ a.orders;
    model = b.model ∙ a.model;
    after = b.after;
  }

  module _ (rep : ReplaceLaws D) (tak : TakenLaws D) (mov : MoveLaws D) where
    -- cells that say what a place has, moved to where it is copied
    placed_next : (s : CellSide) (q p : Spot) (n : ℕ) (xs : List (Cell N)) (k : Known N) (m b o : Memories)
        → IsKnown D k m → q.1 + n ≤ 2 ^ 32 → AreNew k.model (place_at s p n) k.cells xs → SayNew D k xs m b
        → AreCopied (place_at s p n) q b o → AreStored k.model (place_at s q n) m o
        → IsNext k (replaced D (place_at s q n) (map (moved_to p q) xs) k) m o
    placed_next s q p n xs k m b o i room new says copy stored =
        let ys = map (moved_to p q) xs in
        let h = mov.new k (place_at s p n) q xs room new in
        let t = mov.says k (place_at s p n) q xs new m b o copy says in
        record {
          orders = rep.orders k (place_at s q n) ys;
          model = rep.model k (place_at s q n) ys;
          after = record {
            cells = subst (λ d. AreCells d (replaced D (place_at s q n) ys k).cells)
                (sym (rep.model k (place_at s q n) ys)) (rep.cells k (place_at s q n) ys i.cells h);
            holds = rep.holds k (place_at s q n) ys i.cells h m o i.holds stored t;
          };
        }

    copied_there : (d : Model) (m o : Memory) (q p : Spot) (n j : ℕ)
        → ((b j : ℕ) → o b j ≡ copied d m q.0 q.1 p.0 p.1 n b j) → j < n
        → o q.0 (q.1 + j) ≡ broken d m p.0 p.1 n p.0 (p.1 + j)
    copied_there d m o q p n j h l =
        h q.0 (q.1 + j) ∙ replaced_covered d m q.0 q.1 n (λ k. broken d m p.0 p.1 n p.0 (p.1 + k)) j l

    -- one side's cells are moved
    pub moved_next : (s : Side) (agg : Bool) (q p : Spot) (n : ℕ) (k : Known N) (m o : Memories) → IsKnown D k m
        → q.1 + n ≤ 2 ^ 32 → IsCopy k.model agg q p n (memory_on s m) (memory_on s o) → IsStill s m o
        → IsNext k (moved_alone D s agg q p n k) m o
    moved_next left agg q p n k m o i room h r = by_test (agg && is_same_spot q p) h
      where
        by_test : (t : Bool)
            → ((b j : ℕ) → o.left b j ≡ (if t then m.left else copied k.model m.left q.0 q.1 p.0 p.1 n) b j)
            → IsNext k
            (if t then k else replaced D (place_at cell_side.Left q n)
            (map (moved_to p q) (taken D k (place_at cell_side.Left p n))) k) m o
        by_test true h = same_next k m o i (record { left = h; right = r })
        by_test false h =
            let b : Memories = record { left = broken k.model m.left p.0 p.1 n; right = m.right } in
            placed_next cell_side.Left q p n (taken D k (place_at cell_side.Left p n)) k m b o i room
            (tak.new k (place_at cell_side.Left p n) i.cells refl)
            (tak.says k (place_at cell_side.Left p n) i.cells refl m b i.holds
            (record {
              left = record { here_broken = λ e c j. refl; whole = λ e. absurd (cc) };
              right = record { here_broken = λ e. absurd (cc); whole = λ e c j. refl };
            }))
            (record { left = λ e j l. copied_there k.model m.left o.left q p n j h l; right = λ e. absurd (cc) })
            (record {
              left = record {
                stored = λ e. record { beside = λ c j out. h c j ∙ rw out refl };
                stays = λ e. absurd (cc);
              };
              right = record { stored = λ e. absurd (cc); stays = λ e c j. r c j };
            })
    moved_next right agg q p n k m o i room h r = by_test (agg && is_same_spot q p) h
      where
        by_test : (t : Bool)
            → ((b j : ℕ) → o.right b j ≡ (if t then m.right else copied k.model m.right q.0 q.1 p.0 p.1 n) b j)
            → IsNext k
            (if t then k else replaced D (place_at cell_side.Right q n)
            (map (moved_to p q) (taken D k (place_at cell_side.Right p n))) k) m o
        by_test true h = same_next k m o i (record { left = r; right = h })
        by_test false h =
            let b : Memories = record { left = m.left; right = broken k.model m.right p.0 p.1 n } in
            placed_next cell_side.Right q p n (taken D k (place_at cell_side.Right p n)) k m b o i room
            (tak.new k (place_at cell_side.Right p n) i.cells refl)
            (tak.says k (place_at cell_side.Right p n) i.cells refl m b i.holds
            (record {
              left = record { here_broken = λ e. absurd (cc); whole = λ e c j. refl };
              right = record { here_broken = λ e c j. refl; whole = λ e. absurd (cc) };
            }))
            (record { left = λ e. absurd (cc); right = λ e j l. copied_there k.model m.right o.right q p n j h l })
            (record {
              left = record { stored = λ e. absurd (cc); stays = λ e c j. r c j };
              right = record {
                stored = λ e. record { beside = λ c j out. h c j ∙ rw out refl };
                stays = λ e. absurd (cc);
              };
            })

    -- of the same places on both sides
    pub both_moved : (agg : Bool) (q p : Spot) (n : ℕ) (k : Known N) (m o : Memories) → IsKnown D k m
        → q.1 + n ≤ 2 ^ 32 → IsCopy k.model agg q p n m.left o.left → IsCopy k.model agg q p n m.right o.right
        → IsNext k (moved_both D agg q p n k) m o
    both_moved agg q p n k m o i room h r = by_test (agg && is_same_spot q p) h r
      where
        by_test : (t : Bool)
            → ((b j : ℕ) → o.left b j ≡ (if t then m.left else copied k.model m.left q.0 q.1 p.0 p.1 n) b j)
            → ((b j : ℕ) → o.right b j ≡ (if t then m.right else copied k.model m.right q.0 q.1 p.0 p.1 n) b j)
            → IsNext k
            (if t then k else replaced D (place_at cell_side.Shared q n) (map (moved_to p q) (taken_by_both D k p n)) k)
            m o
        by_test true h r = same_next k m o i (record { left = h; right = r })
        by_test false h r =
            let b : Memories = record {
              left = broken k.model m.left p.0 p.1 n;
              right = broken k.model m.right p.0 p.1 n;
            } in
            placed_next cell_side.Shared q p n (taken_by_both D k p n) k m b o i room (tak.both_new k p n i.cells)
            (tak.both_says k p n i.cells m b i.holds
            (record {
              left = record { here_broken = λ e c j. refl; whole = λ e. absurd (cc) };
              right = record { here_broken = λ e c j. refl; whole = λ e. absurd (cc) };
            }))
            (record {
              left = λ e j l. copied_there k.model m.left o.left q p n j h l;
              right = λ e j l. copied_there k.model m.right o.right q p n j r l;
            })
            (record {
              left = record {
                stored = λ e. record { beside = λ c j out. h c j ∙ rw out refl };
                stays = λ e. absurd (cc);
              };
              right = record {
                stored = λ e. record { beside = λ c j out. r c j ∙ rw out refl };
                stays = λ e. absurd (cc);
              };
            })

  module _ (blur : BlurEachLaws D) where
    blurred_orders : (s : CellSide) (n : ℕ) (qs : List Spot) (k : Known N) → (blurred_each D s n qs k).orders ≡ k.orders
    blurred_orders s n [] k = refl
    blurred_orders s n (q ∷ qs) k = blurred_orders s n qs (blurred_at D (place_at s q n) k)

    blurred_model : (s : CellSide) (n : ℕ) (qs : List Spot) (k : Known N) → (blurred_each D s n qs k).model ≡ k.model
    blurred_model s n [] k = refl
    blurred_model s n (q ∷ qs) k = blurred_model s n qs (blurred_at D (place_at s q n) k)

    -- bytes that aren't known, at one of several places
    may_be : (s : Side) (q p : Spot) (n : ℕ) (k : Known N) (m o : Memories) → AreBelow (memory_on s m)
        → ((b j : ℕ) → memory_on s o b j ≡ copied k.model (memory_on s m) q.0 q.1 p.0 p.1 n b j) → IsStill s m o
        → MayBothBeChanged k.model (place_at (cells_of s) q n) m o
    may_be left q p n k m o low h r = record {
      left = changed refl (record { beside = λ c j out. h c j ∙ rw out refl })
          (record { below = λ c j v e f. copied_below k.model m.left q p n low c j v (sym (h c j) ∙ f) });
      right = unchanged r;
    }
    may_be right q p n k m o low h r = record {
      left = unchanged r;
      right = changed refl (record { beside = λ c j out. h c j ∙ rw out refl })
          (record { below = λ c j v e f. copied_below k.model m.right q p n low c j v (sym (h c j) ∙ f) });
    }

    pub blurred_change : (s : Side) (q : Spot) (n : ℕ) (qs : List Spot) → IsOne q qs → (k : Known N) (m o : Memories)
        → IsKnown D k m → MayBothBeChanged k.model (place_at (cells_of s) q n) m o
        → IsNext k (blurred_each D (cells_of s) n qs k) m o
    blurred_change s q n qs one k m o i c = record {
      orders = blurred_orders (cells_of s) n qs k;
      model = blurred_model (cells_of s) n qs k;
      after = record {
        cells = subst (λ d. AreCells d (blurred_each D (cells_of s) n qs k).cells)
            (sym (blurred_model (cells_of s) n qs k)) (blur.cells k (cells_of s) n qs i.cells);
        holds = blur.holds k (cells_of s) n qs q i.cells (among_of q qs one) m o i.holds c;
      };
    }

    pub blurred_next : (s : Side) (q p : Spot) (n : ℕ) (qs : List Spot) → IsOne q qs → (k : Known N) (m o : Memories)
        → IsKnown D k m → AreBelow (memory_on s m) → IsCopy k.model false q p n (memory_on s m) (memory_on s o)
        → IsStill s m o → IsNext k (blurred_each D (cells_of s) n qs k) m o
    blurred_next s q p n qs one k m o i low h r =
        blurred_change s q n qs one k m o i (may_be s q p n k m o low h r)

    -- where none of the places was written
    pub blurred_still : (s : Side) (q : Spot) (n : ℕ) (qs : List Spot) → IsOne q qs → (k : Known N) (m : Memories)
        → IsKnown D k m → IsNext k (blurred_each D (cells_of s) n qs k) m m
    blurred_still s q n qs one k m i =
        blurred_change s q n qs one k m m i
        (record { left = unchanged (λ b j. refl); right = unchanged (λ b j. refl) })
