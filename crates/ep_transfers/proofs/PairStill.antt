-- An aggregate is assigned to itself on both sides: what is known then holds of the machines that stay as they are.
use Rattle.std.proofs.Common.{◌≡◌, ℕ, zero, suc, ◌+◌, ◌<◌, ◌≤◌, Bool, true, false, ◌||◌, if◌then◌else◌, List, ◌∷◌}
use Rattle.std.proofs.Common.{refl, sym, ◌∙◌, subst, arith}
use Rattle.ep_int.specs.declared.types.Scalar.{Scalar}
use Rattle.ep_int.specs.Types.{size_of}
use Rattle.ep_int.specs.Memory.{Byte}
use Rattle.ep_layout.specs.declared.types.Leaf.{Leaf}
use Rattle.ep_bitslice.specs.declared.cell.Side.TheVariants as cell_side
use Rattle.ep_domain.specs.Domain.{Ops}
use Rattle.ep_cells.specs.Cells.{is_same_scalar}
use Rattle.ep_cells.specs.States.{Known, IsOfSort, HasRisingBlocks}
use Rattle.ep_cells.specs.Meaning.{Memories}
use Rattle.ep_cells.specs.Sound.{neither}
use Rattle.ep_cells.proofs.Both.{scalar_same}
use Rattle.ep_core.specs.Runs.{Side, left, right}
use Rattle.ep_equalities.specs.declared.pair.Mode.TheVariants.{Both}
use Rattle.ep_evaluation.specs.Given.{cells_of, on}
use Rattle.ep_cell_ranges.specs.Spots.{Spot, all_spots}
use Rattle.ep_transfers.specs.Places.{Places}
use Rattle.ep_transfers.specs.Writes.{Item, Underway, underway, maybe_on, value_of_same, write_side, write_sides}
use Rattle.ep_transfers.specs.Writes.{write_same, write_both}
use Rattle.ep_transfers.specs.Copies.{Piece, none, leaf, byte, scalar_of_piece, to_at, write_alone, write_together}
use Rattle.ep_transfers.specs.Copies.{write_apart, write_pieces, pieces_from}
use Rattle.ep_transfers.specs.Laws.{CellLaws}
use Rattle.ep_transfers.proofs.Sides.{same_sort, same_rising}
use Rattle.ep_transfers.proofs.Changes.{here, HaveRoom, IsKnown, Goes, then_goes, each_goes}
use Rattle.ep_transfers.proofs.Puts.{all_left, all_room}
use Rattle.ep_transfers.proofs.Rooms.{EndBy}
use Rattle.ep_transfers.proofs.Assigned.{any_block}
use Rattle.ep_transfers.proofs.Copied.{IsNext, same_next, then_next}
use Rattle.ep_transfers.proofs.PieceWrites.{moved_rooms, piece_of, PieceSays, IfPiece}
use Rattle.ep_transfers.proofs.PieceEnds.{AllPieces}
use Rattle.ep_transfers.proofs.Loosened.{AreMany, moved_many, still_on, one_still}
use Rattle.ep_transfers.proofs.PairWrites.{item_of_both}

module _ {N : Type 0} (D : Ops N) (laws : CellLaws D) where
  two_go : (s : Side) (w : Scalar) (q r : Spot) (qs : List Spot) (u : Underway N) (m : Memories) → IsKnown D u.known m
      → IsOfSort w (on u.item.pair s).value → HasRisingBlocks (on u.item.pair s).value
      → HaveRoom any_block u.known.model w (q ∷ r ∷ qs) → Goes D any_block u (write_side D s w (q ∷ r ∷ qs) u) m m
  two_go s w q r qs u m i so ri room =
      let v = (on u.item.pair s).value in
      let b = maybe_on u.item s in
      each_goes D any_block laws.weak_writes laws.more_weak_writes (cells_of s) false (λ e. absurd (cc)) w v b so ri
      (still_on D laws s w v b) q (q ∷ r ∷ qs) (here (r ∷ qs)) u m m i room (λ k eo em. still_on D laws s w v b k q m)

  many_go : (s : Side) (w : Scalar) (qs : List Spot) → AreMany qs → (u : Underway N) (m : Memories)
      → IsKnown D u.known m → IsOfSort w (on u.item.pair s).value → HasRisingBlocks (on u.item.pair s).value
      → HaveRoom any_block u.known.model w qs → Goes D any_block u (write_side D s w qs u) m m
  many_go s w qs h u m i so ri room =
      subst (λ z. HaveRoom any_block u.known.model w z → Goes D any_block u (write_side D s w z u) m m) (sym h.is)
      (λ room. two_go s w h.first h.second h.others u m i so ri room) room

  sides_still : (w : Scalar) (p : Places) (u : Underway N) (m : Memories) → AreMany p.left → AreMany p.right
      → IsKnown D u.known m → IsOfSort w (on u.item.pair left).value → HasRisingBlocks (on u.item.pair left).value
      → IsOfSort w (on u.item.pair right).value → HasRisingBlocks (on u.item.pair right).value
      → HaveRoom any_block u.known.model w p.left → HaveRoom any_block u.known.model w p.right
      → Goes D any_block u (write_sides D w p u) m m
  sides_still w p u m hl hr i sl rl sr rr ml mr =
      let v = write_side D left w p.left u in
      let a = many_go left w p.left hl u m i sl rl ml in
      then_goes D any_block u v (write_side D right w p.right v) m m m a
      (many_go right w p.right hr v m a.change.after
      (subst (λ (i : Item N). IsOfSort w (on i.pair right).value) (sym a.item) sr)
      (subst (λ (i : Item N). HasRisingBlocks (on i.pair right).value) (sym a.item) rr)
      (subst (λ d. HaveRoom any_block d w p.right) (sym a.change.model) mr))

  same_still : (w : Scalar) (q r : Spot) (qs rs : List Spot) (u : Underway N) (m : Memories) → IsKnown D u.known m
      → IsOfSort w (on u.item.pair left).value → HasRisingBlocks (on u.item.pair left).value
      → IsOfSort w (on u.item.pair right).value → HasRisingBlocks (on u.item.pair right).value
      → HaveRoom any_block u.known.model w (q ∷ r ∷ qs) → HaveRoom any_block u.known.model w rs
      → Goes D any_block u (write_same D w (q ∷ r ∷ qs) rs u) m m
  same_still w q r qs rs u m i sl rl sr rr ml mr =
      let x = u.item.pair.left in
      let y = u.item.pair.right in
      let v = value_of_same D x.value y.value in
      let b = u.item.left_maybe || u.item.right_maybe in
      let sort = same_sort D laws.splits laws.more_splits laws.writes laws.domain w x.value y.value sl sr in
      let rising = same_rising D laws.splits laws.more_splits laws.writes laws.domain x.value y.value rl rr in
      each_goes D any_block laws.weak_writes laws.more_weak_writes cell_side.Shared true (λ e. refl) w v b sort rising
      (λ k q m. neither (λ b j. refl) (λ b j. refl)) q (all_spots (q ∷ r ∷ qs) rs)
      (all_left q (q ∷ r ∷ qs) rs (here (r ∷ qs))) u m m i (all_room any_block u.known.model w (q ∷ r ∷ qs) rs ml mr)
      (λ k eo em. neither (λ b j. refl) (λ b j. refl))

  alike_still : (w : Scalar) (qs rs : List Spot) → AreMany qs → (u : Underway N) (m : Memories) → IsKnown D u.known m
      → IsOfSort w (on u.item.pair left).value → HasRisingBlocks (on u.item.pair left).value
      → IsOfSort w (on u.item.pair right).value → HasRisingBlocks (on u.item.pair right).value
      → HaveRoom any_block u.known.model w qs → HaveRoom any_block u.known.model w rs
      → Goes D any_block u (write_same D w qs rs u) m m
  alike_still w qs rs h u m i sl rl sr rr ml mr =
      subst (λ z. HaveRoom any_block u.known.model w z → Goes D any_block u (write_same D w z rs u) m m) (sym h.is)
      (λ room. same_still w h.first h.second h.others rs u m i sl rl sr rr room mr) ml

  either_still : (t : Bool) (w : Scalar) (p : Places) (u : Underway N) (m : Memories) → AreMany p.left
      → AreMany p.right → IsKnown D u.known m → IsOfSort w (on u.item.pair left).value
      → HasRisingBlocks (on u.item.pair left).value → IsOfSort w (on u.item.pair right).value
      → HasRisingBlocks (on u.item.pair right).value → HaveRoom any_block u.known.model w p.left
      → HaveRoom any_block u.known.model w p.right → Goes D any_block u (write_both D t w p u) m m
  either_still true w p u m hl hr i sl rl sr rr ml mr = alike_still w p.left p.right hl u m i sl rl sr rr ml mr
  either_still false w p u m hl hr i sl rl sr rr ml mr = sides_still w p u m hl hr i sl rl sr rr ml mr

  module _ (k : Known N) (to from : Places) (leaves : List Leaf) (n : ℕ) (gl gr : ℕ → Byte) (hl : AreMany to.left)
      (hr : AreMany to.right) (el : EndBy 65536 n to.left) (er : EndBy 65536 n to.right) where
    together_still : (o : ℕ) (c : Piece D) → PieceSays D laws k to from leaves n left gl o c
        → PieceSays D laws k to from leaves n right gr o c → (j : Known N) (m : Memories) → IsKnown D j m
        → j.model ≡ k.model → IsNext D j (write_together D true k to from leaves o c j) m m
    together_still o c zl zr j m i em =
        let w = scalar_of_piece D c in
        let x = item_of_both D laws k to from leaves n o c in
        let hi : o + size_of j.model w ≤ n = subst (λ d. o + size_of d w ≤ n) (sym em) zl.inside in
        let e = (either_still x.same w (to_at D true k to from leaves o) (underway j x) m (moved_many o to.left hl)
        (moved_many o to.right hr) i zl.fits.sort zl.fits.rising zr.fits.sort zr.fits.rising
        (moved_rooms j.model w o n to.left hi el) (moved_rooms j.model w o n to.right hi er)).change in
        record { orders = e.orders; model = e.model; after = e.after }

    left_still : (o : ℕ) (c : Piece D) → (j : Known N) (m : Memories) → IsKnown D j m → j.model ≡ k.model
        → IfPiece D laws k to from leaves n left gl o c
        → IsNext D j (write_alone D false k to from leaves left o c j) m m
    left_still o c j m i em z = one_still D laws k to from leaves n gl left o c hl el j m i em z

    right_still : (o : ℕ) (c : Piece D) → (j : Known N) (m : Memories) → IsKnown D j m → j.model ≡ k.model
        → IfPiece D laws k to from leaves n right gr o c
        → IsNext D j (write_alone D false k to from leaves right o c j) m m
    right_still o c j m i em z = one_still D laws k to from leaves n gr right o c hr er j m i em z

    apart_still : (j v l : Known N) (m : Memories) → IsNext D j v m m
        → (IsKnown D v m → v.model ≡ k.model → IsNext D v l m m) → j.model ≡ k.model → IsNext D j l m m
    apart_still j v l m a b em = then_next D j v l m m m a (b a.after (a.model ∙ em))

    leaves_still : (o : ℕ) (w v : Scalar) → PieceSays D laws k to from leaves n left gl o (leaf w)
        → PieceSays D laws k to from leaves n right gr o (leaf v) → (j : Known N) (m : Memories) → IsKnown D j m
        → j.model ≡ k.model → (t : Bool) → is_same_scalar w v ≡ t
        → IsNext D j
        (if t then write_together D true k to from leaves o (leaf w) j
        else write_apart D true k to from leaves o (leaf w) (leaf v) j) m m
    leaves_still o w v zl zr j m i em true e =
        let same = scalar_same w v e in
        together_still o (leaf w) zl
        (subst (λ x. PieceSays D laws k to from leaves n right gr o (leaf x)) (sym same) zr) j m i em
    leaves_still o w v zl zr j m i em false e =
        let u = write_alone D true k to from leaves left o (leaf w) j in
        apart_still j u (write_apart D true k to from leaves o (leaf w) (leaf v) j) m
        (left_still o (leaf w) j m i em zl) (λ i em. right_still o (leaf v) u m i em zr) em

    both_still : (o : ℕ) (cl cr : Piece D) → IfPiece D laws k to from leaves n left gl o cl
        → IfPiece D laws k to from leaves n right gr o cr → (j : Known N) (m : Memories) → IsKnown D j m
        → j.model ≡ k.model → IsNext D j (write_pieces D true k to from leaves o cl cr j) m m
    both_still o none none zl zr j m i em =
        same_next D j m m i (record { left = λ b q. refl; right = λ b q. refl })
    both_still o none (leaf v) zl zr j m i em = right_still o (leaf v) j m i em zr
    both_still o none byte zl zr j m i em = right_still o byte j m i em zr
    both_still o (leaf w) none zl zr j m i em = left_still o (leaf w) j m i em zl
    both_still o byte none zl zr j m i em = left_still o byte j m i em zl
    both_still o (leaf w) (leaf v) zl zr j m i em = leaves_still o w v zl zr j m i em (is_same_scalar w v) refl
    both_still o (leaf w) byte zl zr j m i em =
        let u = write_alone D true k to from leaves left o (leaf w) j in
        apart_still j u (write_apart D true k to from leaves o (leaf w) byte j) m
        (left_still o (leaf w) j m i em zl) (λ i em. right_still o byte u m i em zr) em
    both_still o byte (leaf v) zl zr j m i em =
        let u = write_alone D true k to from leaves left o byte j in
        apart_still j u (write_apart D true k to from leaves o byte (leaf v) j) m
        (left_still o byte j m i em zl) (λ i em. right_still o (leaf v) u m i em zr) em
    both_still o byte byte zl zr j m i em = together_still o byte zl zr j m i em

    next_end : (o c : ℕ) → o + suc c ≤ n → o + 1 + c ≤ n
    next_end o c l = omega (arith, l)

    first_end : (o c : ℕ) → o + suc c ≤ n → o < n
    first_end o c l = omega (arith, l)

    -- all pieces from an offset on
    pub pieces_both_still : AllPieces D laws k to from leaves n left gl → AllPieces D laws k to from leaves n right gr
        → (o c : ℕ) → o + c ≤ n → (j : Known N) (m : Memories) → IsKnown D j m → j.model ≡ k.model
        → IsNext D j (pieces_from D true k to from leaves Both o c j) m m
    pieces_both_still al ar o zero l j m i em =
        same_next D j m m i (record { left = λ b q. refl; right = λ b q. refl })
    pieces_both_still al ar o (suc c) l j m i em =
        let p = piece_of D laws k to from leaves n left o in
        let q = piece_of D laws k to from leaves n right o in
        let v = write_pieces D true k to from leaves o p q j in
        let s = first_end o c l in
        let a = both_still o p q (al o s) (ar o s) j m i em in
        then_next D j v (pieces_from D true k to from leaves Both (o + 1) c v) m m m a
        (pieces_both_still al ar (o + 1) c (next_end o c l) v m a.after (a.model ∙ em))
