-- A piece of an aggregate is written on one side: one of a machine's places takes its bytes.
use Rattle.std.proofs.Common.{◌≡◌, ℕ, zero, suc, ◌+◌, ◌<◌, ◌≤◌, Bool, false, List, [], ◌∷◌, ◌++◌, Option}
use Rattle.ep_cell_ranges.proofs.Moved.{bytes_moved}
use Rattle.std.proofs.Common.{⊎_elim, refl, sym, ap, ◌∙◌, subst, arith}
use Rattle.ep_int.specs.declared.types.IntType.TheVariants.{U8}
use Rattle.ep_int.specs.declared.types.Model.{Model}
use Rattle.ep_int.specs.declared.types.Order.{Order}
use Rattle.ep_int.specs.declared.types.Scalar.{Scalar}
use Rattle.ep_int.specs.declared.types.Scalar.TheVariants.{Int}
use Rattle.ep_int.specs.Types.{size_of}
use Rattle.ep_int.specs.Memory.{Byte, Memory, Value as Datum, replaced}
use Rattle.ep_int.proofs.Memories.{replaced_covered}
use Rattle.ep_layout.specs.declared.types.Leaf.{Leaf}
use Rattle.ep_domain.specs.Domain.{Ops}
use Rattle.ep_cells.specs.declared.cell.Value.{Value}
use Rattle.ep_cells.specs.States.{Known, IsOfSort, HasRisingBlocks}
use Rattle.ep_cells.specs.Meaning.{Memories, Allows, HasBytes}
use Rattle.ep_reads.specs.declared.read.ReadValue.{ReadValue}
use Rattle.ep_core.specs.Runs.{Side, left, right}
use Rattle.ep_evaluation.specs.Accesses.{joined_reads}
use Rattle.ep_cell_ranges.specs.Spots.{Spot}
use Rattle.ep_transfers.specs.Places.{Places, at_side, moved_spot, moved_spots}
use Rattle.ep_transfers.specs.Writes.{underway, lacks, write_side}
use Rattle.ep_transfers.specs.Copies.{Piece, none, leaf, byte, scalar_of_piece, some_maybe, piece_item, piece_on}
use Rattle.ep_transfers.specs.Copies.{sources_on, write_alone, mode_alone, pieces_from}
use Rattle.ep_transfers.specs.Laws.{CellLaws}
use Rattle.ep_transfers.proofs.Changes.{IsOne, here, there, HaveRoom, IsKnown}
use Rattle.ep_transfers.proofs.Puts.{order_on, memory_on, side_goes}
use Rattle.ep_transfers.proofs.Rooms.{EndBy}
use Rattle.ep_transfers.proofs.Assigned.{any_block, all_inside, rooms}
use Rattle.ep_transfers.proofs.Copied.{IsNext, same_next, then_next}
use Rattle.ep_transfers.proofs.Patches.{Patch, patched}

-- ---- places further on

pub moved_one : (o : ℕ) (q : Spot) (qs : List Spot) → IsOne q qs → IsOne (moved_spot o q) (moved_spots o qs)
moved_one o q _ (here qs) = here (moved_spots o qs)
moved_one o q _ (there r qs one) = there (moved_spot o r) (moved_spots o qs) (moved_one o q qs one)

room_by : (q o z n : ℕ) → o + z ≤ n → q + n ≤ 65536 → q + o + z ≤ 65536
room_by q o z n h i = omega (arith, h, i)

moved_ends : (o z n : ℕ) (qs : List Spot) → o + z ≤ n → EndBy 65536 n qs → EndBy 65536 z (moved_spots o qs)
moved_ends o z n [] l h = tt
moved_ends o z n (q ∷ qs) l h = (room_by q.1 o z n l h.0, moved_ends o z n qs l h.1)

pub moved_rooms : (d : Model) (w : Scalar) (o n : ℕ) (qs : List Spot) → o + size_of d w ≤ n → EndBy 65536 n qs
    → HaveRoom any_block d w (moved_spots o qs)
moved_rooms d w o n qs l h =
    rooms any_block d w (moved_spots o qs) (all_inside (moved_spots o qs)) (moved_ends o (size_of d w) n qs l h)

-- the memories with another one on this side
abbrev pub with_memory : Side → Memory → Memories → Memories
with_memory left z m = record { left = z; right = m.right }
with_memory right z m = record { left = m.left; right = z }

-- new bytes as a memory of one block
abbrev pub bytes_as : (ℕ → Byte) → Memory
bytes_as g b j = g j

module _ {N : Type 0} (D : Ops N) (laws : CellLaws D) where
  -- What is written at an offset is allowed by a value, which may be that of a cell.
  pub record Says (o : Order) (d : Model) (w : Scalar) (v : Option (Value N)) (maybe : Bool) (at : ℕ) (g : ℕ → Byte) :
      Type 0
    where
      pub datum : Option Datum
      pub allowed : Allows D w v (lacks maybe v) datum
      pub stands : HasBytes o (bytes_as g) (size_of d w) w (lacks maybe v) 0 at datum

  pub record FitsPiece (w : Scalar) (rs : List (ReadValue N)) : Type 0 where
    pub sort : IsOfSort w (joined_reads D rs)
    pub rising : HasRisingBlocks (joined_reads D rs)

  -- new bytes of a place of a machine
  abbrev pub with_bytes : Model → Spot → (offset size : ℕ) → (ℕ → Byte) → Memory → Memory
  with_bytes d h o z g m = replaced d m h.0 (h.1 + o) z (λ t. g (o + t))

  module _ (o : Order) (d : Model) (h : Spot) (at : ℕ) (w : Scalar) (v : Option (Value N)) (maybe : Bool)
      (g : ℕ → Byte) (m : Memory) where
    stands_there : (z : Says o d w v maybe at g)
        → HasBytes o (with_bytes d h at (size_of d w) g m) (size_of d w) w (lacks maybe v) h.0 (h.1 + at) z.datum
    stands_there z =
        bytes_moved o (bytes_as g) (with_bytes d h at (size_of d w) g m) (size_of d w) w (lacks maybe v) 0 at h.0
        (h.1 + at) z.datum
        (λ j l. replaced_covered d m h.0 (h.1 + at) (size_of d w) (λ t. g (at + t)) j l) z.stands

  module _ (h : Spot) (o : ℕ) (g : ℕ → Byte) (w : Scalar) (qs : List Spot) (one : IsOne (moved_spot o h) qs)
      (j : Known N) (m : Memories) (i : IsKnown D j m) (room : HaveRoom any_block j.model w qs) where
    abbrev after_on : Side → Memories
    after_on s = with_memory s (with_bytes j.model h o (size_of j.model w) g (memory_on s m)) m

    left_next : (rs ss : List (ReadValue N)) → FitsPiece w rs
        → Says j.orders.0 j.model w (joined_reads D rs) (some_maybe D rs) o g
        → IsNext D j (write_side D left w qs (underway j (piece_item D false rs ss false))).known m (after_on left)
    left_next rs ss f z =
        let u = underway j (piece_item D false rs ss false) in
        let v = joined_reads D rs in
        let b = some_maybe D rs in
        let e = (side_goes D any_block laws.domain laws.splits laws.more_splits laws.writes laws.more_writes
        laws.weak_writes laws.more_weak_writes left w qs u m (after_on left) i
        (record {
          datum = z.datum;
          place = moved_spot o h;
          among = one;
          room = room;
          can = record {
            sort = f.sort;
            rising = f.rising;
            form = tt;
            allowed = z.allowed;
            says = λ x p q. tt;
          };
          put = record {
            beside = λ c p out. rw out refl;
            bytes = stands_there j.orders.0 j.model h o w v b g m.left z;
          };
        }) (λ c p. refl)).change in
        record { orders = e.orders; model = e.model; after = e.after }

    right_next : (rs ss : List (ReadValue N)) → FitsPiece w rs
        → Says j.orders.1 j.model w (joined_reads D rs) (some_maybe D rs) o g
        → IsNext D j (write_side D right w qs (underway j (piece_item D false ss rs false))).known m (after_on right)
    right_next rs ss f z =
        let u = underway j (piece_item D false ss rs false) in
        let v = joined_reads D rs in
        let b = some_maybe D rs in
        let e = (side_goes D any_block laws.domain laws.splits laws.more_splits laws.writes laws.more_writes
        laws.weak_writes laws.more_weak_writes right w qs u m (after_on right) i
        (record {
          datum = z.datum;
          place = moved_spot o h;
          among = one;
          room = room;
          can = record {
            sort = f.sort;
            rising = f.rising;
            form = tt;
            allowed = z.allowed;
            says = λ x p q. tt;
          };
          put = record {
            beside = λ c p out. rw out refl;
            bytes = stands_there j.orders.1 j.model h o w v b g m.right z;
          };
        }) (λ c p. refl)).change in
        record { orders = e.orders; model = e.model; after = e.after }

  -- ---- pieces of one side, from the places of `from` in the state k

  module _ (k : Known N) (to from : Places) (leaves : List Leaf) (n : ℕ) where
    abbrev pub piece_of : Side → ℕ → Piece D
    piece_of s o = piece_on D false k to from leaves s o

    abbrev pub sources_at : Side → ℕ → Piece D → List (ReadValue N)
    sources_at s o c = sources_on D false k to from leaves s o c

    -- what is known of a piece: it ends in the place, and allows what the machine's bytes are at the end
    pub record PieceSays (s : Side) (g : ℕ → Byte) (o : ℕ) (c : Piece D) : Type 0 where
      pub inside : o + size_of k.model (scalar_of_piece D c) ≤ n
      pub fits : FitsPiece (scalar_of_piece D c) (sources_at s o c)
      pub says : Says (order_on s k.orders) k.model (scalar_of_piece D c) (joined_reads D (sources_at s o c))
          (some_maybe D (sources_at s o c)) o g

    abbrev pub IfPiece : Side → (ℕ → Byte) → ℕ → Piece D → Type 0
    IfPiece s g o none = Unit {0}
    IfPiece s g o (leaf w) = PieceSays s g o (leaf w)
    IfPiece s g o byte = PieceSays s g o byte

    -- what it does to a machine's memory
    abbrev pub patch_of : (ℕ → Byte) → ℕ → Piece D → List Patch
    patch_of g o none = []
    patch_of g o (leaf w) = record { offset = o; bytes = size_of k.model w; new = λ t. g (o + t) } ∷ []
    patch_of g o byte = record { offset = o; bytes = size_of k.model (Int U8); new = λ t. g (o + t) } ∷ []

    -- all from an offset on
    abbrev pub patches_from : Side → (ℕ → Byte) → (offset count : ℕ) → List Patch
    patches_from s g o zero = []
    patches_from s g o (suc c) = patch_of g o (piece_of s o) ++ patches_from s g (o + 1) c

    pub patched_both : (d : Model) (b q : ℕ) (xs ys : List Patch) (m : Memory)
        → patched d b q (xs ++ ys) m ≡ patched d b q ys (patched d b q xs m)
    patched_both d b q [] ys m = refl
    patched_both d b q (x ∷ xs) ys m = patched_both d b q xs ys (replaced d m b (q + x.offset) x.bytes x.new)

    says_at : (s : Side) (g : ℕ → Byte) (o : ℕ) (w : Scalar) (rs : List (ReadValue N)) (j : Known N)
        → j.model ≡ k.model → j.orders ≡ k.orders
        → Says (order_on s k.orders) k.model w (joined_reads D rs) (some_maybe D rs) o g
        → Says (order_on s j.orders) j.model w (joined_reads D rs) (some_maybe D rs) o g
    says_at s g o w rs j em eo z =
        subst (λ d. Says (order_on s j.orders) d w (joined_reads D rs) (some_maybe D rs) o g) (sym em)
        (subst (λ os. Says (order_on s os) k.model w (joined_reads D rs) (some_maybe D rs) o g) (sym eo) z)

    module _ (g : ℕ → Byte) (h : Spot) where
      abbrev patched_on : Side → List Patch → Memories → Memories
      patched_on s xs m = with_memory s (patched k.model h.0 h.1 xs (memory_on s m)) m

      pub one_next : (s : Side) (o : ℕ) (c : Piece D) → IsOne h (at_side to s) → EndBy 65536 n (at_side to s)
          → (j : Known N) (m : Memories) → IsKnown D j m → j.model ≡ k.model → j.orders ≡ k.orders → IfPiece s g o c
          → IsNext D j (write_alone D false k to from leaves s o c j) m (patched_on s (patch_of g o c) m)
      one_next left o none one ends j m i em eo z =
          same_next D j m (patched_on left [] m) i (record { left = λ b q. refl; right = λ b q. refl })
      one_next right o none one ends j m i em eo z =
          same_next D j m (patched_on right [] m) i (record { left = λ b q. refl; right = λ b q. refl })
      one_next left o (leaf w) one ends j m i em eo z =
          let rs = sources_at left o (leaf w) in
          subst (λ d. IsNext D j (write_alone D false k to from leaves left o (leaf w) j) m
          (with_memory left (with_bytes d h o (size_of d w) g m.left) m)) em
          (left_next h o g w (moved_spots o to.left) (moved_one o h to.left one) j m i
          (moved_rooms j.model w o n to.left (subst (λ d. o + size_of d w ≤ n) (sym em) z.inside) ends) rs [] z.fits
          (says_at left g o w rs j em eo z.says))
      one_next left o byte one ends j m i em eo z =
          let rs = sources_at left o byte in
          subst (λ d. IsNext D j (write_alone D false k to from leaves left o byte j) m
          (with_memory left (with_bytes d h o (size_of d (Int U8)) g m.left) m)) em
          (left_next h o g (Int U8) (moved_spots o to.left) (moved_one o h to.left one) j m i
          (moved_rooms j.model (Int U8) o n to.left (subst (λ d. o + size_of d (Int U8) ≤ n) (sym em) z.inside) ends)
          rs [] z.fits (says_at left g o (Int U8) rs j em eo z.says))
      one_next right o (leaf w) one ends j m i em eo z =
          let rs = sources_at right o (leaf w) in
          subst (λ d. IsNext D j (write_alone D false k to from leaves right o (leaf w) j) m
          (with_memory right (with_bytes d h o (size_of d w) g m.right) m)) em
          (right_next h o g w (moved_spots o to.right) (moved_one o h to.right one) j m i
          (moved_rooms j.model w o n to.right (subst (λ d. o + size_of d w ≤ n) (sym em) z.inside) ends) rs [] z.fits
          (says_at right g o w rs j em eo z.says))
      one_next right o byte one ends j m i em eo z =
          let rs = sources_at right o byte in
          subst (λ d. IsNext D j (write_alone D false k to from leaves right o byte j) m
          (with_memory right (with_bytes d h o (size_of d (Int U8)) g m.right) m)) em
          (right_next h o g (Int U8) (moved_spots o to.right) (moved_one o h to.right one) j m i
          (moved_rooms j.model (Int U8) o n to.right (subst (λ d. o + size_of d (Int U8) ≤ n) (sym em) z.inside) ends)
          rs [] z.fits (says_at right g o (Int U8) rs j em eo z.says))

      patched_twice : (s : Side) (xs ys : List Patch) (m : Memories)
          → patched_on s ys (patched_on s xs m) ≡ patched_on s (xs ++ ys) m
      patched_twice left xs ys m =
          ap (λ z. with_memory left z m) (sym (patched_both k.model h.0 h.1 xs ys m.left))
      patched_twice right xs ys m =
          ap (λ z. with_memory right z m) (sym (patched_both k.model h.0 h.1 xs ys m.right))

      pub first_piece : (s : Side) (o c : ℕ) (j : Known N)
          → pieces_from D false k to from leaves (mode_alone D s) (o + 1) c
          (write_alone D false k to from leaves s o (piece_of s o) j)
          ≡ pieces_from D false k to from leaves (mode_alone D s) o (suc c) j
      first_piece left o c j = refl
      first_piece right o c j = refl

      next_end : (o c : ℕ) → o + suc c ≤ n → o + 1 + c ≤ n
      next_end o c l = omega (arith, l)

      first_end : (o c : ℕ) → o + suc c ≤ n → o < n
      first_end o c l = omega (arith, l)

      -- all pieces from an offset on
      pub pieces_next : (s : Side) → IsOne h (at_side to s) → EndBy 65536 n (at_side to s)
          → ((i : ℕ) → i < n → IfPiece s g i (piece_of s i)) → (o c : ℕ) → o + c ≤ n → (j : Known N) (m : Memories)
          → IsKnown D j m → j.model ≡ k.model → j.orders ≡ k.orders
          → IsNext D j (pieces_from D false k to from leaves (mode_alone D s) o c j) m
          (patched_on s (patches_from s g o c) m)
      pieces_next left one ends all o zero l j m i em eo =
          same_next D j m (patched_on left [] m) i (record { left = λ b q. refl; right = λ b q. refl })
      pieces_next right one ends all o zero l j m i em eo =
          same_next D j m (patched_on right [] m) i (record { left = λ b q. refl; right = λ b q. refl })
      pieces_next s one ends all o (suc c) l j m i em eo =
          let p = piece_of s o in
          let v = write_alone D false k to from leaves s o p j in
          let xs = patch_of g o p in
          let ys = patches_from s g (o + 1) c in
          let a : IsNext D j v m (patched_on s xs m) = one_next s o p one ends j m i em eo (all o (first_end o c l)) in
          let b = pieces_next s one ends all (o + 1) c (next_end o c l) v (patched_on s xs m) a.after (a.model ∙ em)
          (a.orders ∙ eo) in
          subst (λ z. IsNext D j z m (patched_on s (xs ++ ys) m)) (first_piece s o c j)
          (subst (λ z. IsNext D j (pieces_from D false k to from leaves (mode_alone D s) (o + 1) c v) m z)
          (patched_twice s xs ys m)
          (then_next D j v (pieces_from D false k to from leaves (mode_alone D s) (o + 1) c v) m (patched_on s xs m)
          (patched_on s ys (patched_on s xs m)) a b))
