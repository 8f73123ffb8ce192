-- All pieces of an aggregate are written on both sides: what is known then holds of machines whose places have all
-- bytes at once, parts of pointers too.
use Rattle.std.proofs.Common.{◌≡◌, ℕ, ◌+◌, ◌<◌, ◌≤◌, Bool, true, List, Option, refl, sym, subst, arith}
use Rattle.ep_int.specs.Memory.{Byte, Value as Datum, replaced}
use Rattle.ep_layout.specs.declared.types.Leaf.{Leaf}
use Rattle.ep_domain.specs.Domain.{Ops}
use Rattle.ep_cells.specs.Kill.{AreLeavesIn}
use Rattle.ep_cells.specs.States.{Known}
use Rattle.ep_cells.specs.Meaning.{Memories, In}
use Rattle.ep_core.specs.Runs.{Side, left, right}
use Rattle.ep_equalities.specs.declared.pair.Mode.TheVariants.{Both}
use Rattle.ep_cell_ranges.specs.Spots.{Spot}
use Rattle.ep_cell_ranges.proofs.Same.{in_same}
use Rattle.ep_transfers.specs.Places.{Places}
use Rattle.ep_transfers.specs.Writes.{lacks}
use Rattle.ep_transfers.specs.Copies.{Piece, none, leaf, byte, pieces_from}
use Rattle.ep_transfers.specs.Laws.{CellLaws}
use Rattle.ep_transfers.proofs.Changes.{IsOne, IsKnown}
use Rattle.ep_transfers.proofs.Rooms.{EndBy}
use Rattle.ep_transfers.proofs.Alike.{AreAlike, in_like}
use Rattle.ep_transfers.proofs.Patches.{Patch, patched, eased_memory, eased_alike, missed_alike}
use Rattle.ep_transfers.proofs.Chosen.{filled_by, holds_of_parts}
use Rattle.ep_transfers.proofs.Copied.{IsNext}
use Rattle.ep_transfers.proofs.PieceWrites.{piece_of}
use Rattle.ep_transfers.proofs.PieceEnds.{by_choice, choice_of, marks_at, marks_parts, filled_is, AllPieces}
use Rattle.ep_transfers.proofs.PieceEnds.{patches, are_patches}
use Rattle.ep_transfers.proofs.PieceCovers.{all_covered}
use Rattle.ep_transfers.proofs.PieceMarks.{IfStands, mark, mark_part, stays_chosen, misses}
use Rattle.ep_transfers.proofs.PairWrites.{value_at, maybe_at, IfAs, if_says, IfTogether, pieces_both}

module _ {N : Type 0} (D : Ops N) (laws : CellLaws D) (k : Known N) (to from : Places) (leaves : List Leaf) (n : ℕ)
    (apart : AreLeavesIn k.model 0 n leaves) where
  module _ (s : Side) (new : ℕ → Byte) (stood : ℕ → Option Datum) where
    abbrev pub chosen_by : Spot → (ℕ → Bool) → ℕ → Byte
    chosen_by h pick = by_choice h n (mark D laws k to from leaves n s apart new stood) new pick

    -- as is chosen, each piece says so
    as_chosen : (h : Spot) (pick : ℕ → Bool) (o : ℕ) (c : Piece D) → piece_of D laws k to from leaves n s o ≡ c
        → IfAs D laws k to from leaves n s new o c (stood o)
        → IfAs D laws k to from leaves n s (chosen_by h pick) o c (stood o)
    as_chosen h pick o none e z = tt
    as_chosen h pick o (leaf w) e z = record {
      inside = z.inside;
      fits = z.fits;
      allowed = z.allowed;
      stands = stays_chosen D laws k to from leaves n s apart new stood h (leaf w) o e
          (λ y. let x : ◌≡◌ {A = Piece D} (leaf w) none = y in cc)
          (lacks (maybe_at D laws k to from leaves n s o (leaf w)) (value_at D laws k to from leaves n s o (leaf w)))
          pick z.stands;
    }
    as_chosen h pick o byte e z = record {
      inside = z.inside;
      fits = z.fits;
      allowed = z.allowed;
      stands = stays_chosen D laws k to from leaves n s apart new stood h byte o e
          (λ y. let x : ◌≡◌ {A = Piece D} byte none = y in cc)
          (lacks (maybe_at D laws k to from leaves n s o byte) (value_at D laws k to from leaves n s o byte))
          pick z.stands;
    }

    as_stands : (o : ℕ) (c : Piece D) → IfAs D laws k to from leaves n s new o c (stood o)
        → IfStands D laws k to from leaves n s apart new o c (stood o)
    as_stands o none z = tt
    as_stands o (leaf w) z = record {
      value = value_at D laws k to from leaves n s o (leaf w);
      maybe = lacks (maybe_at D laws k to from leaves n s o (leaf w)) (value_at D laws k to from leaves n s o
          (leaf w));
      allowed = z.allowed;
      stands = z.stands;
    }
    as_stands o byte z = record {
      value = value_at D laws k to from leaves n s o byte;
      maybe = lacks (maybe_at D laws k to from leaves n s o byte) (value_at D laws k to from leaves n s o byte);
      allowed = z.allowed;
      stands = z.stands;
    }

  all_of : (n : ℕ) → 0 + n ≤ n
  all_of n = omega arith

  module _ (some : 0 < n) (h : Spot) (nl nr : ℕ → Byte) (dl dr : ℕ → Option Datum)
      (al : (o : ℕ) → o < n
      → IfAs D laws k to from leaves n left nl o (piece_of D laws k to from leaves n left o) (dl o))
      (ar : (o : ℕ) → o < n
      → IfAs D laws k to from leaves n right nr o (piece_of D laws k to from leaves n right o) (dr o))
      (at : (o : ℕ) → o < n
      → IfTogether D laws k to from leaves n o (piece_of D laws k to from leaves n left o)
      (piece_of D laws k to from leaves n right o) (dl o) (dr o))
      (ol : IsOne h to.left) (or : IsOne h to.right) (el : EndBy 65536 n to.left) (er : EndBy 65536 n to.right)
      (m : Memories) (i : IsKnown D k m) where
    abbrev fl : (ℕ → Bool) → ℕ → Byte
    fl c = chosen_by left nl dl h c

    abbrev fr : (ℕ → Bool) → ℕ → Byte
    fr c = chosen_by right nr dr h c

    abbrev after : Known N
    after = pieces_from D true k to from leaves Both 0 n k

    abbrev eased : Memories
    eased = record {
      left = eased_memory k.model h.0 h.1 n m.left;
      right = eased_memory k.model h.0 h.1 n m.right;
    }

    known : IsKnown D k eased
    known = record {
      cells = i.cells;
      holds = in_like D k m eased
          (record { left = eased_alike k.model h.0 h.1 n m.left; right = eased_alike k.model h.0 h.1 n m.right })
          i.holds;
    }

    all_left : (c : ℕ → Bool) (o : ℕ) → o < n
        → IfAs D laws k to from leaves n left (fl c) o (piece_of D laws k to from leaves n left o) (dl o)
    all_left c o l = as_chosen left nl dl h c o (piece_of D laws k to from leaves n left o) refl (al o l)

    all_right : (c : ℕ → Bool) (o : ℕ) → o < n
        → IfAs D laws k to from leaves n right (fr c) o (piece_of D laws k to from leaves n right o) (dr o)
    all_right c o l = as_chosen right nr dr h c o (piece_of D laws k to from leaves n right o) refl (ar o l)

    abbrev xs : (ℕ → Bool) → List Patch
    xs c = patches D laws k to from leaves n left (fl c) 0 n

    abbrev ys : (ℕ → Bool) → List Patch
    ys c = patches D laws k to from leaves n right (fr c) 0 n

    go : (c e : ℕ → Bool)
        → IsNext D k after eased (record {
          left = patched k.model h.0 h.1 (xs c) eased.left;
          right = patched k.model h.0 h.1 (ys e) eased.right;
        })
    go c e =
        pieces_both D laws k to from leaves n h (fl c) (fr e) ol or el er dl dr (all_left c) (all_right e) at 0 n
        (all_of n) k eased known refl refl

    abbrev written : (c e : ℕ → Bool) → Memories
    written c e = record {
      left = replaced k.model m.left h.0 h.1 n (fl c);
      right = replaced k.model m.right h.0 h.1 n (fr e);
    }

    are_left : (c : ℕ → Bool) → AllPieces D laws k to from leaves n left (fl c)
    are_left c o l =
        if_says D laws k to from leaves n left (fl c) o (piece_of D laws k to from leaves n left o) (dl o)
        (all_left c o l)

    are_right : (c : ℕ → Bool) → AllPieces D laws k to from leaves n right (fr c)
    are_right c o l =
        if_says D laws k to from leaves n right (fr c) o (piece_of D laws k to from leaves n right o) (dr o)
        (all_right c o l)

    at_choice : (c e : ℕ → Bool) → In D after (written c e)
    at_choice c e =
        in_like D after
        (record {
          left = patched k.model h.0 h.1 (xs c) eased.left;
          right = patched k.model h.0 h.1 (ys e) eased.right;
        })
        (written c e)
        (subst (λ d. AreAlike d
        (record {
          left = patched k.model h.0 h.1 (xs c) eased.left;
          right = patched k.model h.0 h.1 (ys e) eased.right;
        })
        (written c e)) (sym (go c e).model)
        (record {
          left = missed_alike k.model h.0 h.1 n (fl c) (xs c)
              (are_patches D laws k to from leaves n left (fl c) (are_left c) 0 n (all_of n)) some
              (λ j l. all_covered D laws k to from leaves n left (fl c) apart j l)
              (λ j l. misses D laws k to from leaves n left apart nl dl
              (λ o l. as_stands left nl dl o (piece_of D laws k to from leaves n left o) (al o l)) h c j l) m.left;
          right = missed_alike k.model h.0 h.1 n (fr e) (ys e)
              (are_patches D laws k to from leaves n right (fr e) (are_right e) 0 n (all_of n)) some
              (λ j l. all_covered D laws k to from leaves n right (fr e) apart j l)
              (λ j l. misses D laws k to from leaves n right apart nr dr
              (λ o l. as_stands right nr dr o (piece_of D laws k to from leaves n right o) (ar o l)) h e j l) m.right;
        })) (go c e).after.holds

    abbrev ml : ℕ → Option ℕ
    ml = mark D laws k to from leaves n left apart nl dl

    abbrev mr : ℕ → Option ℕ
    mr = mark D laws k to from leaves n right apart nr dr

    abbrev last : Memories
    last = record {
      left = replaced k.model m.left h.0 h.1 n nl;
      right = replaced k.model m.right h.0 h.1 n nr;
    }

    every : ℕ → Bool
    every o = true

    pub both_ends : IsNext D k after m last
    both_ends = record {
      orders = (go every every).orders;
      model = (go every every).model;
      after = record {
        cells = (go every every).after.cells;
        holds = holds_of_parts D after (marks_at h n ml nl) (marks_at h n mr nr) last
            (marks_parts h n ml nl
            (λ j a e. mark_part D laws k to from leaves n left apart nl dl j a e) k.model m.left)
            (marks_parts h n mr nr (λ j a e. mark_part D laws k to from leaves n right apart nr dr j a e) k.model
            m.right)
            (λ c e. in_same D after
            (written (choice_of h n ml nl c) (choice_of h n mr nr e))
            (record {
              left = filled_by (marks_at h n ml nl) c (replaced k.model m.left h.0 h.1 n nl);
              right = filled_by (marks_at h n mr nr) e (replaced k.model m.right h.0 h.1 n nr);
            })
            (record {
              left = λ b j. filled_is h n ml nl k.model m.left c b j;
              right = λ b j. filled_is h n mr nr k.model m.right e b j;
            })
            (at_choice (choice_of h n ml nl c) (choice_of h n mr nr e)));
      };
    }
