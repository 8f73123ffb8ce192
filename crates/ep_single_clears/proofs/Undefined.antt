-- A byte that becomes undefined, and a number or pointer of zero, where a state stands for one pair of memories alone.
use Rattle.std.proofs.Common.{◌≡◌, ℕ, ◌+◌, ◌^◌, ◌<◌, ◌≤◌, Bool, true, false, ◌&&◌, nat_eq, nat_le, nat_lt, if◌then◌else◌}
use Rattle.std.proofs.Common.{[], ◌∷◌, None, refl, sym, ◌∙◌, subst, arith}
use Rattle.std.proofs.lemmas.Bool.{and_from, le-leb, both_ways}
use Rattle.ep_int.specs.declared.types.Model.{Model}
use Rattle.ep_int.specs.declared.types.Scalar.TheVariants.{Int}
use Rattle.ep_int.specs.declared.types.IntType.TheVariants.{U8}
use Rattle.ep_int.specs.Memory.{Memory, undefined, replaced}
use Rattle.ep_int.proofs.Memories.{replaced_covered}
use Rattle.ep_bitslice.specs.declared.cell.Side.{Side as CellSide}
use Rattle.ep_bitslice.specs.declared.cell.Side.TheVariants as cell_side
use Rattle.ep_domain.specs.Domain.{Ops, Lawful}
use Rattle.ep_cells.specs.declared.cell.Cell.{Cell}
use Rattle.ep_cells.specs.declared.place.ByteRange.{ByteRange}
use Rattle.ep_cells.specs.Cells.{IsIn, first, later, on_left, on_right, share_memory, place_of}
use Rattle.ep_cells.specs.Look.{covers}
use Rattle.ep_cells.specs.States.{Known, IsCell, HasForm}
use Rattle.ep_cells.specs.Meaning.{Memories}
use Rattle.ep_cells.specs.Sound.{SaysNew}
use Rattle.ep_cell_ranges.specs.Ranges.{replaced as replaced_cells}
use Rattle.ep_cell_ranges.specs.Spots.{Spot, all_spots}
use Rattle.ep_cell_ranges.specs.Sound.{AreStored, IsInside, AreNew, SayNew}
use Rattle.ep_cell_ranges.proofs.Basics.{same_spot}
use Rattle.ep_core.specs.Runs.{left}
use Rattle.ep_equalities.specs.declared.pair.Mode.{Mode}
use Rattle.ep_equalities.specs.declared.pair.Mode.TheVariants.{Both, Left, Right}
use Rattle.ep_equalities.specs.Pairs.{runs_left, runs_right}
use Rattle.ep_transfers.specs.Writes.{new_cell, underway, write_side, write_shared, write_shared_each, write_both}
use Rattle.ep_transfers.specs.Writes.{write_now}
use Rattle.ep_transfers.specs.Transfers.{undefined_item}
use Rattle.ep_singles.specs.Cells.{IsOneCell, no_value, IsOne}
use Rattle.ep_singles.specs.CellLaws.{IsFilled}
use Rattle.ep_singles.specs.Laws.{IsMachine}
use Rattle.ep_singles.proofs.Covers.{has_side, share_left, share_right, not_covering}
use Rattle.ep_singles.proofs.Replaces.{replaces_keep_one}

-- a side that has a machine's memory has its side
shares_has : (s q : CellSide) → IsMachine q → share_memory s q ≡ true → has_side s q ≡ true
shares_has cell_side.Left cell_side.Left i e = refl
shares_has cell_side.Right cell_side.Left i e = absurd (let d : false ≡ true = e in cc)
shares_has cell_side.Shared cell_side.Left i e = refl
shares_has cell_side.Left cell_side.Right i e = absurd (let d : false ≡ true = e in cc)
shares_has cell_side.Right cell_side.Right i e = refl
shares_has cell_side.Shared cell_side.Right i e = refl
shares_has s cell_side.Shared i e = absurd i

-- of one cell
sole : {N : Type 0} (P : Cell N → Type 0) (c : Cell N) → P c → (y : Cell N) → IsIn y (c ∷ []) → P y
sole P c h _ (first _) = h
sole P c h y (later _ _ i) = elim i [ ]

-- a memory in which a byte is undefined, where it becomes so here; else it is as it was
pub record IsUnsetAt (d : Model) (q : Spot) (here : Bool) (m n : Memory) : Type 0 where
  pub unset : here ≡ true → (b j : ℕ) → n b j ≡ replaced d m q.0 q.1 1 (λ k. undefined) b j
  pub stays : here ≡ false → (b j : ℕ) → n b j ≡ m b j

unset_there : (d : Model) (q : Spot) (m n : Memory) → ((b j : ℕ) → n b j ≡ replaced d m q.0 q.1 1 (λ k. undefined) b j)
    → (j : ℕ) → j < 1 → n q.0 (q.1 + j) ≡ undefined
unset_there d q m n h j l = h q.0 (q.1 + j) ∙ replaced_covered d m q.0 q.1 1 (λ k. undefined) j l

module _ {N : Type 0} (D : Ops N) (law : Lawful D) (k : Known N) (m n : Memories) (one : IsOne D k m) (s : CellSide)
    (q : Spot) (last : q.1 + 1 ≤ 2 ^ 32) (l : IsUnsetAt k.model q (on_left s) m.left n.left)
    (r : IsUnsetAt k.model q (on_right s) m.right n.right) where
  abbrev c : Cell N
  c = new_cell s q (Int U8) None true None

  abbrev place : ByteRange
  place = place_of k.model (new_cell {N = N} s q (Int U8) None true None)

  are_new : AreNew k.model place k.cells (c ∷ [])
  are_new = record {
    each = λ y i.
        sole (IsCell k.model) c
        (record { fits = record { sort = tt; undefined = λ e. refl; last = last }; rising = tt }) y i;
    inside = λ y i.
        sole (IsInside k.model place) c
        (record { left = λ e. e; right = λ e. e; block = refl; bytes = and_from (nat_le q.1 q.1) (nat_le (q.1 + 1) (q.1 + 1)) (le-leb q.1 q.1 (omega arith)) (le-leb (q.1 + 1) (q.1 + 1) (omega arith)) }) y i;
    apart = (tt, tt);
    forms = λ y i. sole (HasForm k.cells) c tt y i;
  }

  are_stored : AreStored k.model place m n
  are_stored = record {
    left = record { stored = λ e. record { beside = λ b j out. l.unset e b j ∙ rw out refl }; stays = l.stays };
    right = record { stored = λ e. record { beside = λ b j out. r.unset e b j ∙ rw out refl }; stays = r.stays };
  }

  say_new : SayNew D k (c ∷ []) m n
  say_new y i =
      sole (λ y. SaysNew D k y m n) c
      (record {
        cell = record {
          datum = None;
          allowed = refl;
          stands = record {
            left = λ e. unset_there k.model q m.left n.left (l.unset e);
            right = λ e. unset_there k.model q m.right n.right (r.unset e);
          };
        };
        form = tt;
      }) y i

  left_filled : on_left s ≡ true → IsFilled D k place (c ∷ []) cell_side.Left n.left
  left_filled e b j h none =
      absurd (both_ways (covers k.model cell_side.Left b j c)
      (not_covering k.model cell_side.Left b j (c ∷ []) c none (first []))
      (and_from (has_side s cell_side.Left) (nat_eq q.0 b && (nat_le q.1 j && nat_lt j (q.1 + 1))) (shares_has s cell_side.Left tt (share_left s ∙ e)) h))

  right_filled : on_right s ≡ true → IsFilled D k place (c ∷ []) cell_side.Right n.right
  right_filled e b j h none =
      absurd (both_ways (covers k.model cell_side.Right b j c)
      (not_covering k.model cell_side.Right b j (c ∷ []) c none (first []))
      (and_from (has_side s cell_side.Right) (nat_eq q.0 b && (nat_le q.1 j && nat_lt j (q.1 + 1))) (shares_has s cell_side.Right tt (share_right s ∙ e)) h))

  pub unset_one : IsOne D (replaced_cells D place (c ∷ []) k) n
  unset_one =
      replaces_keep_one D law k m n one place (c ∷ []) are_new (λ y i. sole (IsOneCell D) c (no_value refl) y i)
      are_stored say_new left_filled right_filled

-- ---- in each mode

module _ {N : Type 0} (D : Ops N) (law : Lawful D) (k : Known N) (m n : Memories) (one : IsOne D k m) where
  stays_so : (d : Model) (q : Spot) (m : Memory) → IsUnsetAt d q false m m
  stays_so d q m = record { unset = λ e. absurd (let z : false ≡ true = e in cc); stays = λ e b j. refl }

  sides_unset : (q r : Spot) → q.1 + 1 ≤ 2 ^ 32 → r.1 + 1 ≤ 2 ^ 32 → IsUnsetAt k.model q true m.left n.left
      → IsUnsetAt k.model r true m.right n.right
      → IsOne D (write_both D false (Int U8) (record { left = q ∷ []; right = r ∷ [] })
      (underway k (undefined_item D))).known n
  sides_unset q r u v h i =
      let between : Memories = record { left = n.left; right = m.right } in
      let j : Known N = (write_side D left (Int U8) (q ∷ []) (underway k (undefined_item D))).known in
      unset_one D law j between n
      (unset_one D law k m between one cell_side.Left q u h (stays_so k.model q m.right)) cell_side.Right r v
      (stays_so k.model r n.left) i

  shared_unset : (q : Spot) → q.1 + 1 ≤ 2 ^ 32 → IsUnsetAt k.model q true m.left n.left
      → IsUnsetAt k.model q true m.right n.right
      → IsOne D (write_shared D (Int U8) q (underway k (undefined_item D))).known n
  shared_unset q u h i = unset_one D law k m n one cell_side.Shared q u h i

  both_unset : (b : Bool) (q r : Spot) → (b ≡ true → q ≡ r) → q.1 + 1 ≤ 2 ^ 32 → r.1 + 1 ≤ 2 ^ 32
      → IsUnsetAt k.model q true m.left n.left → IsUnsetAt k.model r true m.right n.right
      → IsOne D (write_both D b (Int U8) (record { left = q ∷ []; right = r ∷ [] })
      (underway k (undefined_item D))).known n
  both_unset true q r e u v h i =
      subst (λ t. IsOne D (if t then write_shared D (Int U8) q (underway k (undefined_item D))
      else write_shared_each D (Int U8) (all_spots (q ∷ []) (r ∷ [])) (underway k (undefined_item D))).known n)
      (sym (same_spot q r (e refl)))
      (shared_unset q u h (subst (λ s. IsUnsetAt k.model s true m.right n.right) (sym (e refl)) i))
  both_unset false q r e u v h i = sides_unset q r u v h i

  pub unset_in : (mode : Mode) (to : Bool) (q r : Spot) → (mode ≡ Both → to ≡ true → q ≡ r)
      → (runs_left mode ≡ true → q.1 + 1 ≤ 2 ^ 32) → (runs_right mode ≡ true → r.1 + 1 ≤ 2 ^ 32)
      → IsUnsetAt k.model q (runs_left mode) m.left n.left → IsUnsetAt k.model r (runs_right mode) m.right n.right
      → IsOne D (write_now D mode to (Int U8) (record { left = q ∷ []; right = r ∷ [] }) (undefined_item D) k) n
  unset_in Both to q r e u v h i = both_unset (to && true) q r (λ t. e refl (plain to t)) (u refl) (v refl) h i
    where
      plain : (t : Bool) → (t && true) ≡ true → t ≡ true
      plain true e = refl
      plain false e = e
  unset_in Left to q r e u v h i =
      unset_one D law k m n one cell_side.Left q (u refl) h
      (record { unset = λ z. absurd (let d : false ≡ true = z in cc); stays = i.stays })
  unset_in Right to q r e u v h i =
      unset_one D law k m n one cell_side.Right r (v refl)
      (record { unset = λ z. absurd (let d : false ≡ true = z in cc); stays = h.stays }) i
