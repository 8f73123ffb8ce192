-- An aggregate that is assigned to itself is written as one of several places: what is known then holds of the machine
-- that stays as it is.
use Rattle.std.proofs.Common.{◌≡◌, ℕ, zero, suc, ◌+◌, ◌<◌, ◌≤◌, Bool, true, false, if◌then◌else◌, List, [], ◌∷◌}
use Rattle.std.proofs.Common.{Option, None, refl, sym, ◌∙◌, subst, arith}
use Rattle.std.specs.List.{list_any}
use Rattle.std.proofs.lemmas.Bool.{and_from, eq-eqb, or_left, or_right}
use Rattle.ep_int.specs.declared.types.IntType.TheVariants.{U8}
use Rattle.ep_int.specs.declared.types.Scalar.{Scalar}
use Rattle.ep_int.specs.declared.types.Scalar.TheVariants.{Int}
use Rattle.ep_int.specs.Types.{size_of}
use Rattle.ep_int.specs.Memory.{Byte}
use Rattle.ep_layout.specs.declared.types.Leaf.{Leaf}
use Rattle.ep_domain.specs.Domain.{Ops}
use Rattle.ep_cells.specs.declared.cell.Value.{Value}
use Rattle.ep_cells.specs.States.{Known, IsOfSort, HasRisingBlocks}
use Rattle.ep_cells.specs.Meaning.{Memories}
use Rattle.ep_cells.specs.Sound.{as_it_was, MayBeWeaklyWritten, each_side}
use Rattle.ep_core.specs.Runs.{Side, left, right}
use Rattle.ep_evaluation.specs.Given.{cells_of, on}
use Rattle.ep_cell_ranges.specs.Spots.{Spot, is_same_spot}
use Rattle.ep_transfers.specs.Places.{Places, at_side, moved_spot, moved_spots}
use Rattle.ep_transfers.specs.Writes.{Item, underway, maybe_on, new_cell, write_side}
use Rattle.ep_transfers.specs.Copies.{Piece, none, leaf, byte, loosened, loosened_places, piece_item, write_alone}
use Rattle.ep_transfers.specs.Copies.{mode_alone, pieces_from}
use Rattle.ep_transfers.specs.Laws.{CellLaws}
use Rattle.ep_transfers.proofs.Changes.{IsOne, here, there, HaveRoom, IsKnown, each_goes}
use Rattle.ep_transfers.proofs.Rooms.{EndBy}
use Rattle.ep_transfers.proofs.Assigned.{any_block}
use Rattle.ep_transfers.proofs.Copied.{IsNext, same_next, then_next}
use Rattle.ep_transfers.proofs.Moved.{only_one}
use Rattle.ep_transfers.proofs.PieceWrites.{moved_rooms, piece_of, sources_at, IfPiece, first_piece}
use Rattle.ep_transfers.proofs.PieceEnds.{AllPieces}

-- ---- places

pub same_itself : (q : Spot) → is_same_spot q q ≡ true
same_itself q =
    and_from _ _ (let a = eq-eqb q.0 q.0 refl in a) (let b = eq-eqb q.1 q.1 refl in b)

any_same : (q : Spot) (ps : List Spot) → IsOne q ps → list_any (is_same_spot q) ps ≡ true
any_same q _ (here ps) = or_left (is_same_spot q q) (list_any (is_same_spot q) ps) (same_itself q)
any_same q _ (there p ps one) = or_right (is_same_spot q p) (list_any (is_same_spot q) ps) (any_same q ps one)

-- there are at least two places
pub record AreMany (qs : List Spot) : Type 0 where
  pub first : Spot
  pub second : Spot
  pub others : List Spot
  pub is : qs ≡ first ∷ (second ∷ others)

pub loosened_many : (q : Spot) (qs ps : List Spot) → IsOne q qs → IsOne q ps → AreMany (loosened qs ps)
loosened_many q [] ps one h = elim one [ ]
loosened_many q (a ∷ []) ps one h =
    let same : q ≡ a = only_one q a one in
    let e : list_any (is_same_spot a) ps ≡ true = subst (λ z. list_any (is_same_spot z) ps ≡ true) same
    (any_same q ps h)
    in
    record { first = a; second = a; others = []; is = rw e refl }
loosened_many q (a ∷ b ∷ qs) ps one h = record { first = a; second = b; others = qs; is = refl }

one_if : (q a : Spot) (t : Bool) → IsOne q (a ∷ []) → IsOne q (if t then a ∷ a ∷ [] else a ∷ [])
one_if q a true one = there a (a ∷ []) one
one_if q a false one = one

pub loosened_one : (q : Spot) (qs ps : List Spot) → IsOne q qs → IsOne q (loosened qs ps)
loosened_one q [] ps one = one
loosened_one q (a ∷ []) ps one = one_if q a (list_any (is_same_spot a) ps) one
loosened_one q (a ∷ b ∷ qs) ps one = one

ends_if : (z n : ℕ) (a : Spot) (t : Bool) → EndBy z n (a ∷ []) → EndBy z n (if t then a ∷ a ∷ [] else a ∷ [])
ends_if z n a true h = (h.0, h)
ends_if z n a false h = h

pub loosened_ends : (z n : ℕ) (qs ps : List Spot) → EndBy z n qs → EndBy z n (loosened qs ps)
loosened_ends z n [] ps h = h
loosened_ends z n (a ∷ []) ps h = ends_if z n a (list_any (is_same_spot a) ps) h
loosened_ends z n (a ∷ b ∷ qs) ps h = h

pub one_loosened : (s : Side) (q : Spot) (to from : Places) → IsOne q (at_side to s)
    → IsOne q (at_side (loosened_places to from) s)
one_loosened left q to from one = loosened_one q to.left from.left one
one_loosened right q to from one = loosened_one q to.right from.right one

pub ends_loosened : (s : Side) (z n : ℕ) (to from : Places) → EndBy z n (at_side to s)
    → EndBy z n (at_side (loosened_places to from) s)
ends_loosened left z n to from h = loosened_ends z n to.left from.left h
ends_loosened right z n to from h = loosened_ends z n to.right from.right h

pub many_loosened : (s : Side) (q : Spot) (to from : Places) → IsOne q (at_side to s) → IsOne q (at_side from s)
    → AreMany (at_side (loosened_places to from) s)
many_loosened left q to from one h = loosened_many q to.left from.left one h
many_loosened right q to from one h = loosened_many q to.right from.right one h

pub moved_many : (o : ℕ) (qs : List Spot) → AreMany qs → AreMany (moved_spots o qs)
moved_many o qs h =
    subst (λ z. AreMany (moved_spots o z)) (sym h.is)
    (record {
      first = moved_spot o h.first;
      second = moved_spot o h.second;
      others = moved_spots o h.others;
      is = refl;
    })

module _ {N : Type 0} (D : Ops N) (laws : CellLaws D) where
  pub still_on : (s : Side) (w : Scalar) (v : Option (Value N)) (b : Bool) (k : Known N) (q : Spot) (m : Memories)
      → MayBeWeaklyWritten D k (new_cell (cells_of s) q w v b None) false m m
  still_on left w v b k q m = each_side refl (as_it_was (λ b j. refl)) (as_it_was (λ b j. refl))
  still_on right w v b k q m = each_side refl (as_it_was (λ b j. refl)) (as_it_was (λ b j. refl))

  pub two_still : (s : Side) (w : Scalar) (q r : Spot) (qs : List Spot) (j : Known N) (m : Memories) → IsKnown D j m
      → (x : Item N) → IsOfSort w (on x.pair s).value → HasRisingBlocks (on x.pair s).value
      → HaveRoom any_block j.model w (q ∷ r ∷ qs)
      → IsNext D j (write_side D s w (q ∷ r ∷ qs) (underway j x)).known m m
  two_still s w q r qs j m i x so ri room =
      let v = (on x.pair s).value in
      let b = maybe_on x s in
      let e = (each_goes D any_block laws.weak_writes laws.more_weak_writes (cells_of s) false (λ e. absurd (cc)) w v b
      so ri (still_on s w v b) q (q ∷ r ∷ qs) (here (r ∷ qs)) (underway j x) m m i room
      (λ k eo em. still_on s w v b k q m)).change in
      record { orders = e.orders; model = e.model; after = e.after }

  -- writes at several places, none of which is the machine's
  pub many_still : (s : Side) (w : Scalar) (qs : List Spot) → AreMany qs → (j : Known N) (m : Memories)
      → IsKnown D j m → (x : Item N) → IsOfSort w (on x.pair s).value → HasRisingBlocks (on x.pair s).value
      → HaveRoom any_block j.model w qs → IsNext D j (write_side D s w qs (underway j x)).known m m
  many_still s w qs h j m i x so ri room =
      subst (λ z. HaveRoom any_block j.model w z → IsNext D j (write_side D s w z (underway j x)).known m m) (sym h.is)
      (λ room. two_still s w h.first h.second h.others j m i x so ri room) room

  module _ (k : Known N) (to from : Places) (leaves : List Leaf) (n : ℕ) (new : ℕ → Byte) where
    pub one_still : (s : Side) (o : ℕ) (c : Piece D) → AreMany (at_side to s) → EndBy 65536 n (at_side to s)
        → (j : Known N) (m : Memories) → IsKnown D j m → j.model ≡ k.model
        → IfPiece D laws k to from leaves n s new o c
        → IsNext D j (write_alone D false k to from leaves s o c j) m m
    one_still left o none h ends j m i em z =
        same_next D j m m i (record { left = λ b q. refl; right = λ b q. refl })
    one_still right o none h ends j m i em z =
        same_next D j m m i (record { left = λ b q. refl; right = λ b q. refl })
    one_still left o (leaf w) h ends j m i em z =
        many_still left w (moved_spots o to.left) (moved_many o to.left h) j m i
        (piece_item D false (sources_at D laws k to from leaves n left o (leaf w)) [] false) z.fits.sort z.fits.rising
        (moved_rooms j.model w o n to.left (subst (λ d. o + size_of d w ≤ n) (sym em) z.inside) ends)
    one_still left o byte h ends j m i em z =
        many_still left (Int U8) (moved_spots o to.left) (moved_many o to.left h) j m i
        (piece_item D false (sources_at D laws k to from leaves n left o byte) [] false) z.fits.sort z.fits.rising
        (moved_rooms j.model (Int U8) o n to.left (subst (λ d. o + size_of d (Int U8) ≤ n) (sym em) z.inside) ends)
    one_still right o (leaf w) h ends j m i em z =
        many_still right w (moved_spots o to.right) (moved_many o to.right h) j m i
        (piece_item D false [] (sources_at D laws k to from leaves n right o (leaf w)) false) z.fits.sort z.fits.rising
        (moved_rooms j.model w o n to.right (subst (λ d. o + size_of d w ≤ n) (sym em) z.inside) ends)
    one_still right o byte h ends j m i em z =
        many_still right (Int U8) (moved_spots o to.right) (moved_many o to.right h) j m i
        (piece_item D false [] (sources_at D laws k to from leaves n right o byte) false) z.fits.sort z.fits.rising
        (moved_rooms j.model (Int U8) o n to.right (subst (λ d. o + size_of d (Int U8) ≤ n) (sym em) z.inside) ends)

    next_end : (o c : ℕ) → o + suc c ≤ n → o + 1 + c ≤ n
    next_end o c l = omega (arith, l)

    first_end : (o c : ℕ) → o + suc c ≤ n → o < n
    first_end o c l = omega (arith, l)

    -- all pieces from an offset on
    pub pieces_still : (s : Side) → AreMany (at_side to s) → EndBy 65536 n (at_side to s)
        → AllPieces D laws k to from leaves n s new → (o c : ℕ) → o + c ≤ n → (j : Known N) (m : Memories)
        → IsKnown D j m → j.model ≡ k.model
        → IsNext D j (pieces_from D false k to from leaves (mode_alone D s) o c j) m m
    pieces_still left h ends all o zero l j m i em =
        same_next D j m m i (record { left = λ b q. refl; right = λ b q. refl })
    pieces_still right h ends all o zero l j m i em =
        same_next D j m m i (record { left = λ b q. refl; right = λ b q. refl })
    pieces_still s h ends all o (suc c) l j m i em =
        let p = piece_of D laws k to from leaves n s o in
        let v = write_alone D false k to from leaves s o p j in
        let a : IsNext D j v m m = one_still s o p h ends j m i em (all o (first_end o c l)) in
        subst (λ z. IsNext D j z m m) (first_piece D laws k to from leaves n new (0, 0) s o c j)
        (then_next D j v (pieces_from D false k to from leaves (mode_alone D s) (o + 1) c v) m m m a
        (pieces_still s h ends all (o + 1) c (next_end o c l) v m a.after (a.model ∙ em)))
