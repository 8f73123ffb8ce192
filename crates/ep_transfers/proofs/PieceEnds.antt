-- All pieces of an aggregate are written on one side: what is known then holds of a machine whose place has all
-- bytes at once, parts of pointers too.
use Rattle.std.proofs.Common.{◌≡◌, ℕ, zero, suc, ◌+◌, ◌-◌, ◌<◌, ◌≤◌, Bool, true, false, ◌&&◌, nat_eq, nat_le, nat_lt}
use Rattle.ep_int.proofs.Basics.{size_positive}
use Rattle.ep_transfers.proofs.Patches.{whole_of}
use Rattle.std.proofs.Common.{if◌then◌else◌, List, ◌++◌, Option, Some, None, refl, sym, ap, ◌∙◌, subst, arith}
use Rattle.std.proofs.lemmas.Bool.{and_parts, eqb-true, leb-true}
use Rattle.ep_int.specs.declared.types.IntType.TheVariants.{U8}
use Rattle.ep_int.specs.declared.types.Model.{Model}
use Rattle.ep_int.specs.declared.types.Scalar.TheVariants.{Int}
use Rattle.ep_int.specs.Memory.{Byte, Memory, is_number, broken, replaced}
use Rattle.ep_layout.specs.declared.types.Leaf.{Leaf}
use Rattle.ep_domain.specs.Domain.{Ops}
use Rattle.ep_cells.specs.States.{Known}
use Rattle.ep_cells.specs.Meaning.{Memories, In}
use Rattle.ep_core.specs.Runs.{Side, left, right}
use Rattle.ep_cell_ranges.specs.Spots.{Spot}
use Rattle.ep_cell_ranges.proofs.Same.{in_same}
use Rattle.ep_transfers.specs.Places.{Places}
use Rattle.ep_transfers.specs.Copies.{Piece, none, leaf, byte, mode_alone, pieces_from}
use Rattle.ep_transfers.specs.Laws.{CellLaws}
use Rattle.ep_transfers.proofs.Changes.{IsOne, IsKnown}
use Rattle.ep_transfers.proofs.Puts.{memory_on}
use Rattle.ep_transfers.proofs.Rooms.{EndBy}
use Rattle.ep_transfers.proofs.Alike.{AreAlike, in_like, alike_itself}
use Rattle.ep_transfers.proofs.Patches.{Patch, patched, ArePatches, Covers, AllMiss, eased_memory, eased_alike}
use Rattle.ep_transfers.proofs.Patches.{missed_alike}
use Rattle.ep_transfers.proofs.Chosen.{Marks, Choice, chosen, filled_by, AreParts, holds_of_parts}
use Rattle.ep_transfers.proofs.Copied.{IsNext}
use Rattle.ep_transfers.proofs.PieceWrites.{with_memory, piece_of, IfPiece, patch_of, patches_from, pieces_next}

-- ---- bytes of a place that are marked

module _ (h : Spot) (n : ℕ) (mark : ℕ → Option ℕ) (new : ℕ → Byte) where
  abbrev is_there : (b j : ℕ) → Bool
  is_there b j = nat_eq h.0 b && (nat_le h.1 j && nat_lt j (h.1 + n))

  abbrev pub marks_at : Marks
  marks_at b j = if is_there b j then mark (j - h.1) else None

  abbrev pub by_choice : (ℕ → Bool) → ℕ → Byte
  by_choice c i = chosen (mark i) (c i) (new i)

  abbrev pub choice_of : Choice → ℕ → Bool
  choice_of c i = c h.0 (h.1 + i)

  same_choice : (c : Choice) (b j : ℕ) → is_there b j ≡ true → c b j ≡ choice_of c (j - h.1)
  same_choice c b j e =
      let x = and_parts (nat_eq h.0 b) (nat_le h.1 j && nat_lt j (h.1 + n)) e in
      let y = and_parts (nat_le h.1 j) (nat_lt j (h.1 + n)) x.1 in
      let same : h.0 ≡ b = eqb-true h.0 b x.0 in
      let there = whole_of h.1 j (leb-true h.1 j y.0) in
      ap (λ z. c z j) (sym same) ∙ ap (c h.0) (sym there)

  -- the place with all bytes, of which each marked one is chosen
  pub filled_is : (d : Model) (m : Memory) (c : Choice) (b j : ℕ)
      → filled_by marks_at c (replaced d m h.0 h.1 n new) b j
      ≡ replaced d m h.0 h.1 n (by_choice (choice_of c)) b j
  filled_is d m c b j = by_test (is_there b j) refl
    where
      by_test : (t : Bool) → is_there b j ≡ t
          → chosen (if t then mark (j - h.1) else None) (c b j) (if t then new (j - h.1) else broken d m h.0 h.1 n b j)
          ≡ (if t then chosen (mark (j - h.1)) (choice_of c (j - h.1)) (new (j - h.1)) else broken d m h.0 h.1 n b j)
      by_test true e = ap (λ z. chosen (mark (j - h.1)) z (new (j - h.1))) (same_choice c b j e)
      by_test false e = refl

  pub marks_parts : ((i a : ℕ) → mark i ≡ Some a → is_number (new i) ≡ false) → (d : Model) (m : Memory)
      → AreParts marks_at (replaced d m h.0 h.1 n new)
  marks_parts parts d m = record { part = λ b j a e. by_test b j a (is_there b j) e }
    where
      by_test : (b j a : ℕ) (t : Bool) → (if t then mark (j - h.1) else None) ≡ Some a
          → is_number (if t then new (j - h.1) else broken d m h.0 h.1 n b j) ≡ false
      by_test b j a true e = parts (j - h.1) a e
      by_test b j a false e = absurd (let q : None ≡ Some a = e in cc)

abbrev eased_at : Side → Model → Spot → (n : ℕ) → Memories → Memories
eased_at s d h n m = with_memory s (eased_memory d h.0 h.1 n (memory_on s m)) m

abbrev no_marks : Marks
no_marks b j = None

none_marked : (m : Memory) → AreParts no_marks m
none_marked m = record { part = λ b q a e. absurd (let z : None ≡ Some a = e in cc) }

module _ {N : Type 0} (D : Ops N) (laws : CellLaws D) (k : Known N) (to from : Places) (leaves : List Leaf) (n : ℕ)
  where
    abbrev pub AllPieces : Side → (ℕ → Byte) → Type 0
    AllPieces s g = (i : ℕ) → i < n → IfPiece D laws k to from leaves n s g i (piece_of D laws k to from leaves n s i)

    abbrev pub patches : Side → (ℕ → Byte) → (offset count : ℕ) → List Patch
    patches s g o c = patches_from D laws k to from leaves n s g o c

    -- each piece is a patch
    first_are : (s : Side) (g : ℕ → Byte) (o : ℕ) (c : Piece D) (ys : List Patch)
        → IfPiece D laws k to from leaves n s g o c
        → ArePatches n g ys → ArePatches n g (patch_of D laws k to from leaves n g o c ++ ys)
    first_are s g o none ys z h = h
    first_are s g o (leaf w) ys z h =
        (record { some = size_positive k.model w; inside = z.inside; gives = λ t l. refl }, h)
    first_are s g o byte ys z h =
        (record { some = size_positive k.model (Int U8); inside = z.inside; gives = λ t l. refl }, h)

    next_end : (o c : ℕ) → o + suc c ≤ n → o + 1 + c ≤ n
    next_end o c l = omega (arith, l)

    first_end : (o c : ℕ) → o + suc c ≤ n → o < n
    first_end o c l = omega (arith, l)

    pub are_patches : (s : Side) (g : ℕ → Byte) → AllPieces s g → (o c : ℕ) → o + c ≤ n
        → ArePatches n g (patches s g o c)
    are_patches s g all o zero l = tt
    are_patches s g all o (suc c) l =
        first_are s g o (piece_of D laws k to from leaves n s o) (patches s g (o + 1) c) (all o (first_end o c l))
        (are_patches s g all (o + 1) c (next_end o c l))

    all_of : (n : ℕ) → 0 + n ≤ n
    all_of n = omega arith

    module _ (some : 0 < n) (h : Spot) (new : ℕ → Byte) (mark : ℕ → Option ℕ)
        (parts : (i a : ℕ) → mark i ≡ Some a → is_number (new i) ≡ false) where
      abbrev pub final : (ℕ → Bool) → ℕ → Byte
      final c = by_choice h n mark new c

      -- the left side
      pub left_ends : IsOne h to.left → EndBy 65536 n to.left → ((c : ℕ → Bool) → AllPieces left (final c))
          → ((c : ℕ → Bool) (i : ℕ) → i < n → Covers i (patches left (final c) 0 n))
          → ((c : ℕ → Bool) (i : ℕ) → i < n → AllMiss k.model h.1 (patches left (final c) 0 n) (h.1 + i) (final c i))
          → (m : Memories) → IsKnown D k m
          → IsNext D k (pieces_from D false k to from leaves (mode_alone D left) 0 n k) m
          (with_memory left (replaced k.model m.left h.0 h.1 n new) m)
      left_ends one ends all cover miss m i = record {
        orders = (go every).orders;
        model = (go every).model;
        after = record { cells = (go every).after.cells; holds = holds };
      }
        where
          every : ℕ → Bool
          every i = true

          known : IsKnown D k (eased_at left k.model h n m)
          known = record {
            cells = i.cells;
            holds = in_like D k m (eased_at left k.model h n m)
                (record { left = eased_alike k.model h.0 h.1 n m.left; right = alike_itself k.model m.right }) i.holds;
          }

          go : (c : ℕ → Bool) → IsNext D k (pieces_from D false k to from leaves (mode_alone D left) 0 n k)
              (eased_at left k.model h n m)
              (with_memory left (patched k.model h.0 h.1 (patches left (final c) 0 n)
              (eased_memory k.model h.0 h.1 n m.left)) m)
          go c = pieces_next D laws k to from leaves n (final c) h left one ends (all c) 0 n (all_of n) k
              (eased_at left k.model h n m) known refl
              refl

          at_choice : (c : ℕ → Bool) → In D (pieces_from D false k to from leaves (mode_alone D left) 0 n k)
              (with_memory left (replaced k.model m.left h.0 h.1 n (final c)) m)
          at_choice c =
              let xs = patches left (final c) 0 n in
              in_like D (pieces_from D false k to from leaves (mode_alone D left) 0 n k)
              (with_memory left (patched k.model h.0 h.1 xs (eased_memory k.model h.0 h.1 n m.left)) m)
              (with_memory left (replaced k.model m.left h.0 h.1 n (final c)) m)
              (subst (λ d. AreAlike d
              (with_memory left (patched k.model h.0 h.1 xs (eased_memory k.model h.0 h.1 n m.left)) m)
              (with_memory left (replaced k.model m.left h.0 h.1 n (final c)) m)) (sym (go c).model)
              (record {
                left = missed_alike k.model h.0 h.1 n (final c) xs (are_patches left (final c) (all c) 0 n
                    (all_of n)) some
                    (cover c) (miss c) m.left;
                right = alike_itself k.model m.right;
              })) (go c).after.holds

          holds : In D (pieces_from D false k to from leaves (mode_alone D left) 0 n k)
              (with_memory left (replaced k.model m.left h.0 h.1 n new) m)
          holds =
              holds_of_parts D (pieces_from D false k to from leaves (mode_alone D left) 0 n k)
              (marks_at h n mark new) no_marks
              (with_memory left (replaced k.model m.left h.0 h.1 n new) m)
              (marks_parts h n mark new parts k.model m.left)
              (none_marked m.right)
              (λ c e. in_same D (pieces_from D false k to from leaves (mode_alone D left) 0 n k)
              (with_memory left (replaced k.model m.left h.0 h.1 n (final (choice_of h n mark new c))) m)
              (record {
                left = filled_by (marks_at h n mark new) c (replaced k.model m.left h.0 h.1 n new);
                right = filled_by no_marks e m.right;
              })
              (record { left = λ b j. filled_is h n mark new k.model m.left c b j; right = λ b j. refl })
              (at_choice (choice_of h n mark new c)))

      -- the right side
      pub right_ends : IsOne h to.right → EndBy 65536 n to.right → ((c : ℕ → Bool) → AllPieces right (final c))
          → ((c : ℕ → Bool) (i : ℕ) → i < n → Covers i (patches right (final c) 0 n))
          → ((c : ℕ → Bool) (i : ℕ) → i < n → AllMiss k.model h.1 (patches right (final c) 0 n) (h.1 + i) (final c i))
          → (m : Memories) → IsKnown D k m
          → IsNext D k (pieces_from D false k to from leaves (mode_alone D right) 0 n k) m
          (with_memory right (replaced k.model m.right h.0 h.1 n new) m)
      right_ends one ends all cover miss m i = record {
        orders = (go every).orders;
        model = (go every).model;
        after = record { cells = (go every).after.cells; holds = holds };
      }
        where
          every : ℕ → Bool
          every i = true

          known : IsKnown D k (eased_at right k.model h n m)
          known = record {
            cells = i.cells;
            holds = in_like D k m (eased_at right k.model h n m)
                (record { right = eased_alike k.model h.0 h.1 n m.right; left = alike_itself k.model m.left }) i.holds;
          }

          go : (c : ℕ → Bool) → IsNext D k (pieces_from D false k to from leaves (mode_alone D right) 0 n k)
              (eased_at right k.model h n m)
              (with_memory right (patched k.model h.0 h.1 (patches right (final c) 0 n)
              (eased_memory k.model h.0 h.1 n m.right)) m)
          go c = pieces_next D laws k to from leaves n (final c) h right one ends (all c) 0 n (all_of n) k
              (eased_at right k.model h n m) known refl
              refl

          at_choice : (c : ℕ → Bool) → In D (pieces_from D false k to from leaves (mode_alone D right) 0 n k)
              (with_memory right (replaced k.model m.right h.0 h.1 n (final c)) m)
          at_choice c =
              let xs = patches right (final c) 0 n in
              in_like D (pieces_from D false k to from leaves (mode_alone D right) 0 n k)
              (with_memory right (patched k.model h.0 h.1 xs (eased_memory k.model h.0 h.1 n m.right)) m)
              (with_memory right (replaced k.model m.right h.0 h.1 n (final c)) m)
              (subst (λ d. AreAlike d
              (with_memory right (patched k.model h.0 h.1 xs (eased_memory k.model h.0 h.1 n m.right)) m)
              (with_memory right (replaced k.model m.right h.0 h.1 n (final c)) m)) (sym (go c).model)
              (record {
                right = missed_alike k.model h.0 h.1 n (final c) xs (are_patches right (final c) (all c) 0 n
                    (all_of n)) some
                    (cover c) (miss c) m.right;
                left = alike_itself k.model m.left;
              })) (go c).after.holds

          holds : In D (pieces_from D false k to from leaves (mode_alone D right) 0 n k)
              (with_memory right (replaced k.model m.right h.0 h.1 n new) m)
          holds =
              holds_of_parts D (pieces_from D false k to from leaves (mode_alone D right) 0 n k) no_marks
              (marks_at h n mark new) (with_memory right (replaced k.model m.right h.0 h.1 n new) m)
              (none_marked m.left)
              (marks_parts h n mark new parts k.model m.right)
              (λ e c. in_same D (pieces_from D false k to from leaves (mode_alone D right) 0 n k)
              (with_memory right (replaced k.model m.right h.0 h.1 n (final (choice_of h n mark new c))) m)
              (record {
                left = filled_by no_marks e m.left;
                right = filled_by (marks_at h n mark new) c (replaced k.model m.right h.0 h.1 n new);
              })
              (record { left = λ b j. refl; right = λ b j. filled_is h n mark new k.model m.right c b j })
              (at_choice (choice_of h n mark new c)))
