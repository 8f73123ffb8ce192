-- An aggregate is copied on one side that isn't moved: what is known then holds of a machine that copies it.
use Rattle.std.proofs.Common.{◌≡◌, ℕ, zero, suc, ◌+◌, ◌<◌, ◌≤◌, Bool, true, false, if◌then◌else◌, List, Option, Some}
use Rattle.ep_cell_ranges.proofs.Basics.{is_same_spot-equal}
use Rattle.std.proofs.Common.{None, ◌⊎◌, inl, inr, refl, sym, ap, ◌∙◌, subst, arith}
use Rattle.std.proofs.lemmas.Bool.{cases_lt}
use Rattle.ep_int.specs.declared.types.Model.{Model}
use Rattle.ep_int.specs.Memory.{Byte, Memory, Value as Datum, replaced, copied}
use Rattle.ep_int.specs.Types.{size_of}
use Rattle.ep_layout.specs.declared.types.Leaf.{Leaf}
use Rattle.ep_domain.specs.Domain.{Ops}
use Rattle.ep_cells.specs.Kill.{AreLeavesIn}
use Rattle.ep_cells.specs.States.{Known}
use Rattle.ep_cells.specs.Meaning.{Memories, Allows, HasBytes}
use Rattle.ep_core.specs.Runs.{Side, left, right}
use Rattle.ep_evaluation.specs.Given.{cells_of}
use Rattle.ep_evaluation.specs.Accesses.{joined_reads}
use Rattle.ep_cell_ranges.specs.Spots.{Spot, is_same_spot}
use Rattle.ep_cell_ranges.specs.Moves.{blurred_each}
use Rattle.ep_transfers.specs.Places.{Places, at_side}
use Rattle.ep_transfers.specs.Writes.{lacks}
use Rattle.ep_transfers.specs.Copies.{Piece, none, leaf, byte, scalar_of_piece, some_maybe, loosened_places}
use Rattle.ep_transfers.specs.Copies.{mode_alone, pieces_from, copy_many}
use Rattle.ep_transfers.specs.Laws.{CellLaws}
use Rattle.ep_transfers.proofs.Changes.{IsOne, IsKnown}
use Rattle.ep_transfers.proofs.Puts.{order_on, memory_on, IsStill}
use Rattle.ep_transfers.proofs.Rooms.{EndBy}
use Rattle.ep_transfers.proofs.Copied.{IsCopy, IsNext, same_next, then_next, blurred_next, blurred_still}
use Rattle.ep_transfers.proofs.Moved.{CopyLaws, ManyNext}
use Rattle.ep_transfers.proofs.PieceWrites.{with_memory, bytes_as, piece_of, sources_at, IfPiece}
use Rattle.ep_transfers.proofs.PieceEnds.{by_choice, AllPieces, left_ends, right_ends}
use Rattle.ep_transfers.proofs.PieceCovers.{all_covered}
use Rattle.ep_transfers.proofs.PieceMarks.{IfStands, mark, mark_part, stays_chosen, misses}
use Rattle.ep_transfers.proofs.PieceReads.{copied_bytes, all_say}
use Rattle.ep_transfers.proofs.Loosened.{one_loosened, ends_loosened, many_loosened, pieces_still}

module _ {N : Type 0} (D : Ops N) (laws : CellLaws D) (k : Known N) (to from : Places) (leaves : List Leaf) (n : ℕ)
    (s : Side) (apart : AreLeavesIn k.model 0 n leaves) (new : ℕ → Byte)
    (all : AllPieces D laws k to from leaves n s new) where
  -- what stands at each piece
  abbrev stood_in : (o : ℕ) (c : Piece D) → IfPiece D laws k to from leaves n s new o c → Option Datum
  stood_in o none z = None
  stood_in o (leaf w) z = z.says.datum
  stood_in o byte z = z.says.datum

  abbrev stood_by : (o : ℕ) → (o < n) ⊎ (n ≤ o) → Option Datum
  stood_by o (inl l) = stood_in o (piece_of D laws k to from leaves n s o) (all o l)
  stood_by o (inr l) = None

  abbrev pub stood : ℕ → Option Datum
  stood o = stood_by o (cases_lt o n)

  abbrev chosen_by : Spot → (ℕ → Bool) → ℕ → Byte
  chosen_by h pick = by_choice h n (mark D laws k to from leaves n s apart new stood) new pick

  beyond : (o : ℕ) → o < n → n ≤ o → ⊥
  beyond o l h = omega (arith, l, h)

  stands_in : (o : ℕ) (c : Piece D) (z : IfPiece D laws k to from leaves n s new o c)
      → IfStands D laws k to from leaves n s apart new o c (stood_in o c z)
  stands_in o none z = tt
  stands_in o (leaf w) z =
      let rs = sources_at D laws k to from leaves n s o (leaf w) in
      record {
        value = joined_reads D rs;
        maybe = lacks (some_maybe D rs) (joined_reads D rs);
        allowed = z.says.allowed;
        stands = z.says.stands;
      }
  stands_in o byte z =
      let rs = sources_at D laws k to from leaves n s o byte in
      record {
        value = joined_reads D rs;
        maybe = lacks (some_maybe D rs) (joined_reads D rs);
        allowed = z.says.allowed;
        stands = z.says.stands;
      }

  facts_by : (o : ℕ) → o < n → (t : (o < n) ⊎ (n ≤ o))
      → IfStands D laws k to from leaves n s apart new o (piece_of D laws k to from leaves n s o) (stood_by o t)
  facts_by o l (inl h) = stands_in o (piece_of D laws k to from leaves n s o) (all o h)
  facts_by o l (inr h) = absurd (beyond o l h)

  pub stood_facts : (o : ℕ) → o < n
      → IfStands D laws k to from leaves n s apart new o (piece_of D laws k to from leaves n s o) (stood o)
  stood_facts o l = facts_by o l (cases_lt o n)

  -- as is chosen, each piece says so
  chosen_piece : (h : Spot) (pick : ℕ → Bool) (o : ℕ) (c : Piece D) → piece_of D laws k to from leaves n s o ≡ c
      → (z : IfPiece D laws k to from leaves n s new o c) → stood o ≡ stood_in o c z
      → IfPiece D laws k to from leaves n s (chosen_by h pick) o c
  chosen_piece h pick o none e z f = tt
  chosen_piece h pick o (leaf w) e z f =
      let rs = sources_at D laws k to from leaves n s o (leaf w) in
      let mb = lacks (some_maybe D rs) (joined_reads D rs) in
      record {
        inside = z.inside;
        fits = z.fits;
        says = record {
          datum = stood o;
          allowed = subst (λ d. Allows D w (joined_reads D rs) mb d) (sym f)
              z.says.allowed;
          stands = stays_chosen D laws k to from leaves n s apart new stood h (leaf w) o e
              (λ y. let x : ◌≡◌ {A = Piece D} (leaf w) none = y in cc) mb pick
              (subst (λ d. HasBytes (order_on s k.orders) (bytes_as new)
              (size_of k.model w) w mb 0 o d) (sym f) z.says.stands);
        };
      }
  chosen_piece h pick o byte e z f =
      let rs = sources_at D laws k to from leaves n s o byte in
      let mb = lacks (some_maybe D rs) (joined_reads D rs) in
      record {
        inside = z.inside;
        fits = z.fits;
        says = record {
          datum = stood o;
          allowed = subst (λ d. Allows D (scalar_of_piece D byte) (joined_reads D rs) mb
              d) (sym f) z.says.allowed;
          stands = stays_chosen D laws k to from leaves n s apart new stood h byte o e
              (λ y. let x : ◌≡◌ {A = Piece D} byte none = y in cc) mb pick
              (subst (λ d. HasBytes (order_on s k.orders) (bytes_as new)
              (size_of k.model (scalar_of_piece D byte)) (scalar_of_piece D byte) mb 0 o d) (sym f) z.says.stands);
        };
      }

  stood_is : (o : ℕ) → o < n → (t : (o < n) ⊎ (n ≤ o))
      → (z : IfPiece D laws k to from leaves n s new o (piece_of D laws k to from leaves n s o))
      × (stood_by o t ≡ stood_in o (piece_of D laws k to from leaves n s o) z)
  stood_is o l (inl h) = (all o h, refl)
  stood_is o l (inr h) = absurd (beyond o l h)

  pub all_chosen : (h : Spot) (pick : ℕ → Bool) → AllPieces D laws k to from leaves n s (chosen_by h pick)
  all_chosen h pick o l =
      let r = stood_is o l (cases_lt o n) in
      chosen_piece h pick o (piece_of D laws k to from leaves n s o) refl r.0 r.1

module _ {N : Type 0} (D : Ops N) (laws : CellLaws D) (k : Known N) (to from : Places) (leaves : List Leaf) (n : ℕ)
    (apart : AreLeavesIn k.model 0 n leaves) (some : 0 < n) (h : Spot) (new : ℕ → Byte) where
  pub side_ends : (s : Side) → AllPieces D laws k to from leaves n s new → IsOne h (at_side to s)
      → EndBy 65536 n (at_side to s) → (m : Memories) → IsKnown D k m
      → IsNext D k (pieces_from D false k to from leaves (mode_alone D s) 0 n k) m
      (with_memory s (replaced k.model (memory_on s m) h.0 h.1 n new) m)
  side_ends left all one ends m i =
      let d = stood D laws k to from leaves n left apart new all in
      left_ends D laws k to from leaves n some h new (mark D laws k to from leaves n left apart new d)
      (λ j a e. mark_part D laws k to from leaves n left apart new d j a e) one ends
      (λ c. all_chosen D laws k to from leaves n left apart new all h c)
      (λ c j l. all_covered D laws k to from leaves n left
      (by_choice h n (mark D laws k to from leaves n left apart new d) new c) apart j l)
      (λ c j l. misses D laws k to from leaves n left apart new d
      (stood_facts D laws k to from leaves n left apart new all) h c j l) m i
  side_ends right all one ends m i =
      let d = stood D laws k to from leaves n right apart new all in
      right_ends D laws k to from leaves n some h new (mark D laws k to from leaves n right apart new d)
      (λ j a e. mark_part D laws k to from leaves n right apart new d j a e) one ends
      (λ c. all_chosen D laws k to from leaves n right apart new all h c)
      (λ c j l. all_covered D laws k to from leaves n right
      (by_choice h n (mark D laws k to from leaves n right apart new d) new c) apart j l)
      (λ c j l. misses D laws k to from leaves n right apart new d
      (stood_facts D laws k to from leaves n right apart new all) h c j l) m i

-- a copy of an aggregate to its own place, and to another one
pub same_memory : (d : Model) (q p : Spot) (n : ℕ) (m o : Memory) → IsCopy d true q p n m o → is_same_spot q p ≡ true
    → (b j : ℕ) → o b j ≡ m b j
same_memory d q p n m o h e b j = h b j ∙ ap (λ t. (if t then m else copied d m q.0 q.1 p.0 p.1 n) b j) e

pub other_memory : (d : Model) (q p : Spot) (n : ℕ) (m o : Memory) → IsCopy d true q p n m o → is_same_spot q p ≡ false
    → (b j : ℕ) → o b j ≡ copied d m q.0 q.1 p.0 p.1 n b j
other_memory d q p n m o h e b j = h b j ∙ ap (λ t. (if t then m else copied d m q.0 q.1 p.0 p.1 n) b j) e

module _ {N : Type 0} (D : Ops N) (laws : CellLaws D) where
  -- no other memory than that of the side changes
  as_side : (s : Side) (z : Memory) (m o : Memories) (k j : Known N)
      → ((b q : ℕ) → memory_on s o b q ≡ z b q) → IsStill s m o
      → IsNext D k j m (with_memory s z m) → IsNext D k j m o
  as_side left z m o k j e r h =
      then_next D k j j m (with_memory left z m) o h
      (same_next D j (with_memory left z m) o h.after (record { left = e; right = r }))
  as_side right z m o k j e r h =
      then_next D k j j m (with_memory right z m) o h
      (same_next D j (with_memory right z m) o h.after (record { left = r; right = e }))

  still_side : (s : Side) (m o : Memories) (k j : Known N) → ((b q : ℕ) → memory_on s o b q ≡ memory_on s m b q)
      → IsStill s m o → IsNext D k j m m → IsNext D k j m o
  still_side left m o k j e r h = then_next D k j j m m o h
      (same_next D j m o h.after (record { left = e; right = r }))
  still_side right m o k j e r h = then_next D k j j m m o h
      (same_next D j m o h.after (record { left = r; right = e }))

  some_bytes : (n : ℕ) → 0 < suc n
  some_bytes n = omega arith

  none_past : (n : ℕ) → 0 + n ≤ n
  none_past n = omega arith

  module _ (rules : CopyLaws D) (ls : List Leaf) where
    -- a side that isn't moved goes by its leaves
    pub leaves_many : (n : ℕ) → ManyNext D rules (Some ls) n
    leaves_many zero s to from k m o i c r = by_test (is_same_spot c.to c.from) refl
      where
        by_test : (t : Bool) → is_same_spot c.to c.from ≡ t
            → IsNext D k (copy_many D s (Some ls) to from zero k) m o
        by_test true e =
            still_side s m o k (blurred_each D (cells_of s) zero (at_side to s) k)
            (same_memory k.model c.to c.from zero (memory_on s m) (memory_on s o) c.copy e) r
            (blurred_still D rules.blurs s c.to zero (at_side to s) c.among_to k m i)
        by_test false e =
            blurred_next D rules.blurs s c.to c.from zero (at_side to s) c.among_to k m o i c.below
            (other_memory k.model c.to c.from zero (memory_on s m) (memory_on s o) c.copy e) r
    leaves_many (suc n) s to from k m o i c r = by_test (is_same_spot c.to c.from) refl
      where
        by_test : (t : Bool) → is_same_spot c.to c.from ≡ t
            → IsNext D k (copy_many D s (Some ls) to from (suc n) k) m o
        by_test true e =
            let same : c.from ≡ c.to = sym (is_same_spot-equal c.to c.from e) in
            still_side s m o k (pieces_from D false k (loosened_places to from) from ls (mode_alone D s) 0 (suc n) k)
            (same_memory k.model c.to c.from (suc n) (memory_on s m) (memory_on s o) c.copy e) r
            (pieces_still D laws k (loosened_places to from) from ls (suc n)
            (copied_bytes D laws s k m i c.from (suc n) c.below
            (loosened_places to from) from ls c.among_from c.leaves) s
            (many_loosened s c.to to from c.among_to (subst (λ z. IsOne z (at_side from s)) same c.among_from))
            (ends_loosened s 65536 (suc n) to from c.rooms) (all_say D laws s k m i c.from (suc n) c.below
            (loosened_places to from) from ls c.among_from c.leaves) 0 (suc n)
            (none_past (suc n)) k m i refl)
        by_test false e =
            as_side s (replaced k.model (memory_on s m) c.to.0 c.to.1 (suc n)
            (copied_bytes D laws s k m i c.from (suc n) c.below
            (loosened_places to from) from ls c.among_from c.leaves)) m o k
            (pieces_from D false k (loosened_places to from) from ls (mode_alone D s) 0 (suc n) k)
            (other_memory k.model c.to c.from (suc n) (memory_on s m) (memory_on s o) c.copy e) r
            (side_ends D laws k (loosened_places to from) from ls (suc n) c.leaves (some_bytes n) c.to
            (copied_bytes D laws s k m i c.from (suc n) c.below
            (loosened_places to from) from ls c.among_from c.leaves) s
            (all_say D laws s k m i c.from (suc n) c.below (loosened_places to from) from ls c.among_from c.leaves)
            (one_loosened s c.to to from c.among_to) (ends_loosened s 65536 (suc n) to from c.rooms) m i)
