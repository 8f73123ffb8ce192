-- The pieces of an aggregate are written on both sides: where both have the same piece it is one thing, and of the same
-- values one cell of both.
use Rattle.std.proofs.Common.{◌≡◌, ℕ, zero, suc, ◌+◌, ◌<◌, ◌≤◌, Bool, true, false, ◌&&◌, ◌||◌, if◌then◌else◌, List}
use Rattle.ep_cells.proofs.Both.{bytes_weaker}
use Rattle.ep_cell_ranges.proofs.Moved.{bytes_moved}
use Rattle.std.proofs.lemmas.Bool.{or_left, or_right}
use Rattle.std.proofs.Common.{[], ◌++◌, Option, Some, None, not, refl, sym, ◌∙◌, subst, arith}
use Rattle.ep_int.specs.declared.types.Model.{Model}
use Rattle.ep_int.specs.declared.types.Order.{Order}
use Rattle.ep_int.specs.declared.types.Scalar.{Scalar}
use Rattle.ep_int.specs.Types.{size_of}
use Rattle.ep_int.specs.Memory.{Byte, Memory, Value as Datum, replaced}
use Rattle.ep_int.proofs.Memories.{replaced_covered}
use Rattle.ep_layout.specs.declared.types.Leaf.{Leaf}
use Rattle.ep_domain.specs.Domain.{Ops}
use Rattle.ep_cells.specs.declared.cell.Value.{Value}
use Rattle.ep_cells.specs.Cells.{is_same_scalar}
use Rattle.ep_cells.specs.States.{Known}
use Rattle.ep_cells.specs.Meaning.{Memories, Allows, HasBytes}
use Rattle.ep_cells.proofs.Both.{scalar_same}
use Rattle.ep_core.specs.Runs.{Side, left, right}
use Rattle.ep_equalities.specs.declared.pair.Mode.TheVariants.{Both}
use Rattle.ep_evaluation.specs.Accesses.{joined_reads}
use Rattle.ep_cell_ranges.specs.Spots.{Spot}
use Rattle.ep_transfers.specs.Places.{Places, moved_spot}
use Rattle.ep_transfers.specs.Writes.{Item, underway, lacks, value_of_same}
use Rattle.ep_transfers.specs.Copies.{Piece, none, leaf, byte, scalar_of_piece, some_maybe, piece_item, sources_on}
use Rattle.ep_transfers.specs.Copies.{shared_on, to_at, write_alone, write_together, write_apart, write_pieces}
use Rattle.ep_transfers.specs.Copies.{pieces_from}
use Rattle.ep_transfers.specs.Laws.{CellLaws}
use Rattle.ep_transfers.proofs.Sides.{same_allowed}
use Rattle.ep_transfers.proofs.Changes.{IsOne, IsKnown}
use Rattle.ep_transfers.proofs.Puts.{order_on, write_goes}
use Rattle.ep_transfers.proofs.Rooms.{EndBy}
use Rattle.ep_transfers.proofs.Assigned.{any_block}
use Rattle.ep_transfers.proofs.Copied.{IsNext, same_next, then_next}
use Rattle.ep_transfers.proofs.Patches.{Patch, patched}
use Rattle.ep_transfers.proofs.PieceWrites.{moved_one, moved_rooms, bytes_as, FitsPiece, with_bytes}
use Rattle.ep_transfers.proofs.PieceWrites.{piece_of, sources_at, PieceSays, IfPiece, patch_of, patches_from}
use Rattle.ep_transfers.proofs.PieceWrites.{patched_both, one_next}
use Rattle.ep_transfers.proofs.PieceSources.{some_any, nothing_allowed, lacks_more}

more_true : (a : Bool) → (a || not true) ≡ true → a ≡ true
more_true true e = refl
more_true false e = e

stands_at : (o : Order) (d : Model) (h : Spot) (g : ℕ → Byte) (m : Memory) (w : Scalar) (maybe : Bool) (at : ℕ)
    (v : Option Datum) → HasBytes o (bytes_as g) (size_of d w) w maybe 0 at v
    → HasBytes o (replaced d m h.0 (h.1 + at) (size_of d w) (λ t. g (at + t))) (size_of d w) w maybe h.0 (h.1 + at) v
stands_at o d h g m w maybe at v s =
    bytes_moved o (bytes_as g) (replaced d m h.0 (h.1 + at) (size_of d w) (λ t. g (at + t)))
    (size_of d w) w maybe 0 at h.0 (h.1 + at) v
    (λ j l. replaced_covered d m h.0 (h.1 + at) (size_of d w) (λ t. g (at + t)) j l) s

module _ {N : Type 0} (D : Ops N) (laws : CellLaws D) where
  -- ---- what both allow, their common value allows

  none_both : (w : Scalar) (lv rv : Option (Value N)) (lm rm : Bool) → Allows D w lv (lacks lm lv) None
      → Allows D w rv (lacks rm rv) None
      → Allows D w (value_of_same D lv rv) (lacks (lm || rm) (value_of_same D lv rv)) None
  none_both w None None lm rm a b = refl
  none_both w None (Some r) lm rm a b =
      nothing_allowed D laws.domain w (Some r) (lacks (lm || rm) (Some r))
      (lacks_more D laws.domain (lm || rm) (Some r) (or_right lm rm (more_true rm b)))
  none_both w (Some l) rv lm rm a b =
      nothing_allowed D laws.domain w (value_of_same D (Some l) rv) (lacks (lm || rm) (value_of_same D (Some l) rv))
      (lacks_more D laws.domain (lm || rm) (value_of_same D (Some l) rv) (or_left lm rm (more_true lm a)))

  both_allow : (w : Scalar) (lv rv : Option (Value N)) (lm rm : Bool) (d : Option Datum)
      → Allows D w lv (lacks lm lv) d → Allows D w rv (lacks rm rv) d
      → Allows D w (value_of_same D lv rv) (lacks (lm || rm) (value_of_same D lv rv)) d
  both_allow w lv rv lm rm None a b = none_both w lv rv lm rm a b
  both_allow w lv rv lm rm (Some x) a b =
      some_any D laws.domain w (value_of_same D lv rv) false (lacks (lm || rm) (value_of_same D lv rv)) x
      (same_allowed D laws.splits laws.more_splits laws.writes laws.domain w lv rv x
      (some_any D laws.domain w lv (lacks lm lv) false x a) (some_any D laws.domain w rv (lacks rm rv) false x b))

  -- and no more is said of the bytes
  more_bytes : (o : Order) (n : Memory) (size : ℕ) (w : Scalar) (v u : Option (Value N)) (b c : Bool) (e q : ℕ)
      (d : Option Datum) → (b ≡ true → c ≡ true) → Allows D w v (lacks b v) d → HasBytes o n size w (lacks b v) e q d
      → HasBytes o n size w (lacks c u) e q d
  more_bytes o n size w v u b c e q None f a h = h
  more_bytes o n size w None u b c e q (Some x) f a h = absurd (let z : Some x ≡ None = a in cc)
  more_bytes o n size w (Some v) u b c e q (Some x) f a h =
      bytes_weaker o n size w (lacks b (Some v)) (lacks c u) e q (Some x)
      (λ y. lacks_more D laws.domain c u (f (more_true b y))) h

  module _ (k : Known N) (to from : Places) (leaves : List Leaf) (n : ℕ) where
    abbrev pub value_at : Side → ℕ → Piece D → Option (Value N)
    value_at s o c = joined_reads D (sources_at D laws k to from leaves n s o c)

    abbrev pub maybe_at : Side → ℕ → Piece D → Bool
    maybe_at s o c = some_maybe D (sources_at D laws k to from leaves n s o c)

    -- what stands at a piece is allowed by its sources
    pub record PieceAs (s : Side) (g : ℕ → Byte) (o : ℕ) (c : Piece D) (d : Option Datum) : Type 0 where
      pub inside : o + size_of k.model (scalar_of_piece D c) ≤ n
      pub fits : FitsPiece D laws (scalar_of_piece D c) (sources_at D laws k to from leaves n s o c)
      pub allowed : Allows D (scalar_of_piece D c) (value_at s o c) (lacks (maybe_at s o c) (value_at s o c)) d
      pub stands : HasBytes (order_on s k.orders) (bytes_as g) (size_of k.model (scalar_of_piece D c))
          (scalar_of_piece D c) (lacks (maybe_at s o c) (value_at s o c)) 0 o d

    abbrev pub IfAs : Side → (ℕ → Byte) → ℕ → Piece D → Option Datum → Type 0
    IfAs s g o none d = Unit {0}
    IfAs s g o (leaf w) d = PieceAs s g o (leaf w) d
    IfAs s g o byte d = PieceAs s g o byte d

    leaf_says : (s : Side) (g : ℕ → Byte) (o : ℕ) (w : Scalar) (d : Option Datum) → PieceAs s g o (leaf w) d
        → PieceSays D laws k to from leaves n s g o (leaf w)
    leaf_says s g o w d z = record {
      inside = z.inside;
      fits = z.fits;
      says = record { datum = d; allowed = z.allowed; stands = z.stands };
    }

    byte_says : (s : Side) (g : ℕ → Byte) (o : ℕ) (d : Option Datum) → PieceAs s g o byte d
        → PieceSays D laws k to from leaves n s g o byte
    byte_says s g o d z = record {
      inside = z.inside;
      fits = z.fits;
      says = record { datum = d; allowed = z.allowed; stands = z.stands };
    }

    pub if_says : (s : Side) (g : ℕ → Byte) (o : ℕ) (c : Piece D) (d : Option Datum) → IfAs s g o c d
        → IfPiece D laws k to from leaves n s g o c
    if_says s g o none d z = tt
    if_says s g o (leaf w) d z = leaf_says s g o w d z
    if_says s g o byte d z = byte_says s g o d z

    -- the same piece of both
    abbrev pub item_of_both : ℕ → Piece D → Item N
    item_of_both o c =
        piece_item D true (sources_on D true k to from leaves left o c) (sources_on D true k to from leaves right o c)
        (shared_on D true k to from leaves left o c && shared_on D true k to from leaves right o c)

    abbrev pub IfTogether : ℕ → (left right : Piece D) → (dl dr : Option Datum) → Type 0
    IfTogether o none e dl dr = Unit {0}
    IfTogether o (leaf w) none dl dr = Unit {0}
    IfTogether o (leaf w) (leaf v) dl dr = is_same_scalar w v ≡ true → (item_of_both o (leaf w)).same ≡ true → dl ≡ dr
    IfTogether o (leaf w) byte dl dr = Unit {0}
    IfTogether o byte none dl dr = Unit {0}
    IfTogether o byte (leaf v) dl dr = Unit {0}
    IfTogether o byte byte dl dr = (item_of_both o byte).same ≡ true → dl ≡ dr

    module _ (h : Spot) (gl gr : ℕ → Byte) (ol : IsOne h to.left) (or : IsOne h to.right) (el : EndBy 65536 n to.left)
        (er : EndBy 65536 n to.right) where
      abbrev pub both_patched : (xs ys : List Patch) → Memories → Memories
      both_patched xs ys m = record {
        left = patched k.model h.0 h.1 xs m.left;
        right = patched k.model h.0 h.1 ys m.right;
      }

      abbrev both_with : Model → ℕ → Scalar → Memories → Memories
      both_with d o w m = record {
        left = with_bytes D laws d h o (size_of d w) gl m.left;
        right = with_bytes D laws d h o (size_of d w) gr m.right;
      }

      together_next : (o : ℕ) (c : Piece D) (dl dr : Option Datum) → PieceAs left gl o c dl → PieceAs right gr o c dr
          → ((item_of_both o c).same ≡ true → dl ≡ dr) → (j : Known N) (m : Memories) → IsKnown D j m
          → j.model ≡ k.model → j.orders ≡ k.orders
          → IsNext D j (write_together D true k to from leaves o c j) m
          (both_with k.model o (scalar_of_piece D c) m)
      together_next o c dl dr zl zr alike j m i em eo =
          let w = scalar_of_piece D c in
          let u = underway j (item_of_both o c) in
          let lv = value_at left o c in
          let rv = value_at right o c in
          let lm = maybe_at left o c in
          let rm = maybe_at right o c in
          let vs = value_of_same D lv rv in
          let sl : HasBytes j.orders.0 (bytes_as gl) (size_of j.model w) w (lacks lm lv) 0 o dl
          = subst (λ os. HasBytes (order_on left os) (bytes_as gl) (size_of j.model w) w (lacks lm lv) 0 o dl) (sym eo)
          (subst (λ d. HasBytes k.orders.0 (bytes_as gl) (size_of d w) w (lacks lm lv) 0 o dl) (sym em) zl.stands) in
          let sr : HasBytes j.orders.1 (bytes_as gr) (size_of j.model w) w (lacks rm rv) 0 o dr
          = subst (λ os. HasBytes (order_on right os) (bytes_as gr) (size_of j.model w) w (lacks rm rv) 0 o dr)
          (sym eo)
          (subst (λ d. HasBytes k.orders.1 (bytes_as gr) (size_of d w) w (lacks rm rv) 0 o dr) (sym em) zr.stands) in
          let tl = stands_at j.orders.0 j.model h gl m.left w (lacks lm lv) o dl sl in
          let tr = stands_at j.orders.1 j.model h gr m.right w (lacks rm rv) o dr sr in
          let in_left = moved_one o h to.left ol in
          let in_right = moved_one o h to.right or in
          let hi : o + size_of j.model w ≤ n = subst (λ d. o + size_of d w ≤ n) (sym em) zl.inside in
          let e = (write_goes D any_block laws.domain laws.splits laws.more_splits laws.writes laws.more_writes
          laws.weak_writes laws.more_weak_writes Both true w (to_at D true k to from leaves o) u m
          (both_with j.model o w m) i (
            record {
              datum = dl;
              place = moved_spot o h;
              among = in_left;
              room = moved_rooms j.model w o n to.left hi el;
              can = record {
                sort = zl.fits.sort;
                rising = zl.fits.rising;
                form = tt;
                allowed = zl.allowed;
                says = λ x p q. tt;
              };
              put = record { beside = λ c p out. rw out refl; bytes = tl };
            },
            record {
              datum = dr;
              place = moved_spot o h;
              among = in_right;
              room = moved_rooms j.model w o n to.right hi er;
              can = record {
                sort = zr.fits.sort;
                rising = zr.fits.rising;
                form = tt;
                allowed = zr.allowed;
                says = λ x p q. tt;
              };
              put = record { beside = λ c p out. rw out refl; bytes = tr };
            },
          )
          (λ e f. (
            record {
              datum = dl;
              place = moved_spot o h;
              sort = (zl.fits.sort, zr.fits.sort);
              rising = (zl.fits.rising, zr.fits.rising);
              form = tt;
              allowed = both_allow w lv rv lm rm dl zl.allowed
                  (subst (λ d. Allows D w rv (lacks rm rv) d) (sym (alike f)) zr.allowed);
              says = λ x p q. tt;
              on_left = record {
                beside = λ c p out. rw out refl;
                bytes = more_bytes j.orders.0 (with_bytes D laws j.model h o (size_of j.model w) gl m.left)
                    (size_of j.model w) w lv vs lm (lm || rm) h.0 (h.1 + o) dl (λ y. or_left lm rm y) zl.allowed tl;
              };
              on_right = record {
                beside = λ c p out. rw out refl;
                bytes = subst (λ d. HasBytes j.orders.1 (with_bytes D laws j.model h o (size_of j.model w) gr m.right)
                    (size_of j.model w) w (lacks (lm || rm) vs) h.0 (h.1 + o) d) (sym (alike f))
                    (more_bytes j.orders.1 (with_bytes D laws j.model h o (size_of j.model w) gr m.right)
                    (size_of j.model w) w rv vs rm (lm || rm) h.0 (h.1 + o) dr (λ y. or_right lm rm y) zr.allowed tr);
              };
            },
            in_left,
          ))).change in
          subst (λ d. IsNext D j (write_together D true k to from leaves o c j) m (both_with d o w m)) em
          (record { orders = e.orders; model = e.model; after = e.after })

      left_alone : (o : ℕ) (w : Scalar) (dl : Option Datum) → PieceAs left gl o (leaf w) dl → (j : Known N)
          (m : Memories) → IsKnown D j m → j.model ≡ k.model → j.orders ≡ k.orders
          → IsNext D j (write_alone D true k to from leaves left o (leaf w) j) m
          (both_patched (patch_of D laws k to from leaves n gl o (leaf w)) [] m)
      left_alone o w dl z j m i em eo =
          one_next D laws k to from leaves n gl h left o (leaf w) ol el j m i em eo (leaf_says left gl o w dl z)

      left_byte : (o : ℕ) (dl : Option Datum) → PieceAs left gl o byte dl → (j : Known N)
          (m : Memories) → IsKnown D j m → j.model ≡ k.model → j.orders ≡ k.orders
          → IsNext D j (write_alone D true k to from leaves left o byte j) m
          (both_patched (patch_of D laws k to from leaves n gl o byte) [] m)
      left_byte o dl z j m i em eo =
          one_next D laws k to from leaves n gl h left o byte ol el j m i em eo (byte_says left gl o dl z)

      right_alone : (o : ℕ) (w : Scalar) (dr : Option Datum) → PieceAs right gr o (leaf w) dr → (j : Known N)
          (m : Memories) → IsKnown D j m → j.model ≡ k.model → j.orders ≡ k.orders
          → IsNext D j (write_alone D true k to from leaves right o (leaf w) j) m
          (both_patched [] (patch_of D laws k to from leaves n gr o (leaf w)) m)
      right_alone o w dr z j m i em eo =
          one_next D laws k to from leaves n gr h right o (leaf w) or er j m i em eo (leaf_says right gr o w dr z)

      right_byte : (o : ℕ) (dr : Option Datum) → PieceAs right gr o byte dr → (j : Known N)
          (m : Memories) → IsKnown D j m → j.model ≡ k.model → j.orders ≡ k.orders
          → IsNext D j (write_alone D true k to from leaves right o byte j) m
          (both_patched [] (patch_of D laws k to from leaves n gr o byte) m)
      right_byte o dr z j m i em eo =
          one_next D laws k to from leaves n gr h right o byte or er j m i em eo (byte_says right gr o dr z)

      -- the left, then the right
      apart_next : (j v l : Known N) (m : Memories) (xs ys : List Patch) → IsNext D j v m (both_patched xs [] m)
          → ((m : Memories) → IsKnown D v m → v.model ≡ k.model → v.orders ≡ k.orders
          → IsNext D v l m (both_patched [] ys m))
          → j.model ≡ k.model → j.orders ≡ k.orders → IsNext D j l m (both_patched xs ys m)
      apart_next j v l m xs ys a b em eo =
          then_next D j v l m (both_patched xs [] m) (both_patched xs ys m) a
          (b (both_patched xs [] m) a.after (a.model ∙ em) (a.orders ∙ eo))

      same_leaves : (o : ℕ) (w v : Scalar) (dl dr : Option Datum) → PieceAs left gl o (leaf w) dl
          → PieceAs right gr o (leaf v) dr → (j : Known N) (m : Memories) → IsKnown D j m → j.model ≡ k.model
          → j.orders ≡ k.orders → (t : Bool) → is_same_scalar w v ≡ t
          → (t ≡ true → (item_of_both o (leaf w)).same ≡ true → dl ≡ dr)
          → IsNext D j
          (if t then write_together D true k to from leaves o (leaf w) j
          else write_apart D true k to from leaves o (leaf w) (leaf v) j) m
          (both_patched (patch_of D laws k to from leaves n gl o (leaf w))
          (patch_of D laws k to from leaves n gr o (leaf v)) m)
      same_leaves o w v dl dr zl zr j m i em eo true e alike =
          let same = scalar_same w v e in
          subst (λ x. IsNext D j (write_together D true k to from leaves o (leaf w) j) m
          (both_patched (patch_of D laws k to from leaves n gl o (leaf w))
          (patch_of D laws k to from leaves n gr o (leaf x)) m)) same
          (together_next o (leaf w) dl dr zl (subst (λ x. PieceAs right gr o (leaf x) dr) (sym same) zr)
          (λ f. alike refl f) j m i em eo)
      same_leaves o w v dl dr zl zr j m i em eo false e alike =
          let u = write_alone D true k to from leaves left o (leaf w) j in
          apart_next j u (write_apart D true k to from leaves o (leaf w) (leaf v) j) m
          (patch_of D laws k to from leaves n gl o (leaf w)) (patch_of D laws k to from leaves n gr o (leaf v))
          (left_alone o w dl zl j m i em eo) (λ m i em eo. right_alone o v dr zr u m i em eo) em eo

      pub both_next : (o : ℕ) (cl cr : Piece D) (dl dr : Option Datum) → IfAs left gl o cl dl → IfAs right gr o cr dr
          → IfTogether o cl cr dl dr → (j : Known N) (m : Memories) → IsKnown D j m → j.model ≡ k.model
          → j.orders ≡ k.orders
          → IsNext D j (write_pieces D true k to from leaves o cl cr j) m
          (both_patched (patch_of D laws k to from leaves n gl o cl) (patch_of D laws k to from leaves n gr o cr) m)
      both_next o none none dl dr zl zr t j m i em eo =
          same_next D j m (both_patched [] [] m) i (record { left = λ b q. refl; right = λ b q. refl })
      both_next o none (leaf v) dl dr zl zr t j m i em eo = right_alone o v dr zr j m i em eo
      both_next o none byte dl dr zl zr t j m i em eo = right_byte o dr zr j m i em eo
      both_next o (leaf w) none dl dr zl zr t j m i em eo = left_alone o w dl zl j m i em eo
      both_next o byte none dl dr zl zr t j m i em eo = left_byte o dl zl j m i em eo
      both_next o (leaf w) (leaf v) dl dr zl zr t j m i em eo =
          same_leaves o w v dl dr zl zr j m i em eo (is_same_scalar w v) refl t
      both_next o (leaf w) byte dl dr zl zr t j m i em eo =
          let u = write_alone D true k to from leaves left o (leaf w) j in
          apart_next j u (write_apart D true k to from leaves o (leaf w) byte j) m
          (patch_of D laws k to from leaves n gl o (leaf w)) (patch_of D laws k to from leaves n gr o byte)
          (left_alone o w dl zl j m i em eo) (λ m i em eo. right_byte o dr zr u m i em eo) em eo
      both_next o byte (leaf v) dl dr zl zr t j m i em eo =
          let u = write_alone D true k to from leaves left o byte j in
          apart_next j u (write_apart D true k to from leaves o byte (leaf v) j) m
          (patch_of D laws k to from leaves n gl o byte) (patch_of D laws k to from leaves n gr o (leaf v))
          (left_byte o dl zl j m i em eo) (λ m i em eo. right_alone o v dr zr u m i em eo) em eo
      both_next o byte byte dl dr zl zr t j m i em eo = together_next o byte dl dr zl zr t j m i em eo

      next_end : (o c : ℕ) → o + suc c ≤ n → o + 1 + c ≤ n
      next_end o c l = omega (arith, l)

      first_end : (o c : ℕ) → o + suc c ≤ n → o < n
      first_end o c l = omega (arith, l)

      -- all pieces from an offset on
      module _ (dl dr : ℕ → Option Datum)
          (al : (o : ℕ) → o < n → IfAs left gl o (piece_of D laws k to from leaves n left o) (dl o))
          (ar : (o : ℕ) → o < n → IfAs right gr o (piece_of D laws k to from leaves n right o) (dr o))
          (at : (o : ℕ) → o < n → IfTogether o (piece_of D laws k to from leaves n left o)
          (piece_of D laws k to from leaves n right o) (dl o) (dr o)) where
        pub pieces_both : (o c : ℕ) → o + c ≤ n → (j : Known N) (m : Memories) → IsKnown D j m → j.model ≡ k.model
            → j.orders ≡ k.orders
            → IsNext D j (pieces_from D true k to from leaves Both o c j) m
            (both_patched (patches_from D laws k to from leaves n left gl o c)
            (patches_from D laws k to from leaves n right gr o c) m)
        pieces_both o zero l j m i em eo =
            same_next D j m (both_patched [] [] m) i (record { left = λ b q. refl; right = λ b q. refl })
        pieces_both o (suc c) l j m i em eo =
            let p = piece_of D laws k to from leaves n left o in
            let q = piece_of D laws k to from leaves n right o in
            let v = write_pieces D true k to from leaves o p q j in
            let xl = patch_of D laws k to from leaves n gl o p in
            let xr = patch_of D laws k to from leaves n gr o q in
            let yl = patches_from D laws k to from leaves n left gl (o + 1) c in
            let yr = patches_from D laws k to from leaves n right gr (o + 1) c in
            let s = first_end o c l in
            let a = both_next o p q (dl o) (dr o) (al o s) (ar o s) (at o s) j m i em eo in
            let b = pieces_both (o + 1) c (next_end o c l) v (both_patched xl xr m) a.after (a.model ∙ em)
            (a.orders ∙ eo) in
            let last = pieces_from D true k to from leaves Both (o + 1) c v in
            subst (λ z. IsNext D j last m (record {
              left = z;
              right = patched k.model h.0 h.1 (xr ++ yr) m.right;
            })) (sym (patched_both D laws k to from leaves n k.model h.0 h.1 xl yl m.left))
            (subst (λ z. IsNext D j last m (record {
              left = patched k.model h.0 h.1 yl (patched k.model h.0 h.1 xl m.left);
              right = z;
            })) (sym (patched_both D laws k to from leaves n k.model h.0 h.1 xr yr m.right))
            (then_next D j v last m (both_patched xl xr m) (both_patched yl yr (both_patched xl xr m)) a b))
