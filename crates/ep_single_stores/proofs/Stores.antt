-- Where one value is stored at one place, a state stands for one pair of memories still.
use Rattle.std.proofs.Common.{◌≡◌, ◌+◌, ◌≤◌, true, false, ◌&&◌, ◌||◌, nat_eq, nat_le, nat_lt, [], ◌∷◌}
use Rattle.ep_transfers.proofs.Patches.{self_le}
use Rattle.ep_int.proofs.Basics.{true_and_false}
use Rattle.std.proofs.Common.{Option, Some, None, IfSome, refl, ◌∙◌}
use Rattle.std.proofs.lemmas.Bool.{and_from, le-leb}
use Rattle.ep_int.specs.declared.types.Scalar.{Scalar}
use Rattle.ep_int.specs.Types.{size_of}
use Rattle.ep_int.specs.Memory.{Value as Datum}
use Rattle.ep_bitslice.specs.declared.cell.Side.{Side}
use Rattle.ep_bitslice.specs.declared.cell.Side.TheVariants.{Left, Right, Shared}
use Rattle.ep_domain.specs.Domain.{Ops, Lawful}
use Rattle.ep_cells.specs.declared.cell.Cell.{Cell}
use Rattle.ep_cells.specs.declared.cell.Value.{Value}
use Rattle.ep_cells.specs.declared.place.ByteRange.{ByteRange}
use Rattle.ep_cells.specs.Cells.{IsIn, first, later, is_same_side, on_left, on_right, place_of, encloses}
use Rattle.ep_cells.specs.Look.{covers}
use Rattle.ep_cells.specs.States.{Known, IsCell, HasForm, IsFormOf}
use Rattle.ep_cells.specs.Meaning.{Memories}
use Rattle.ep_cells.specs.Sound.{SaysNew}
use Rattle.ep_cell_ranges.specs.Ranges.{Form, replaced}
use Rattle.ep_cell_ranges.specs.Spots.{Spot}
use Rattle.ep_cell_ranges.specs.Follow.{FormFits}
use Rattle.ep_cell_ranges.specs.Sound.{AreStored, IsInside, AreNew, SayNew}
use Rattle.ep_transfers.specs.Writes.{new_cell}
use Rattle.ep_transfers.proofs.Sides.{with_beside, with_there, new_says, new_form}
use Rattle.ep_singles.specs.Cells.{IsOneCell, one_value, IsOne}
use Rattle.ep_singles.specs.CellLaws.{IsFilled}
use Rattle.ep_singles.proofs.Covers.{not_covering}
use Rattle.ep_singles.proofs.Replaces.{replaces_keep_one}
use Rattle.ep_single_stores.specs.Laws.{IsStoredAt, IsOneToStore}

left_side : (s : Side) → on_left s ≡ true → (is_same_side s Left || is_same_side s Shared) ≡ true
left_side Left e = refl
left_side Right e = absurd (let d : false ≡ true = e in cc)
left_side Shared e = refl

right_side : (s : Side) → on_right s ≡ true → (is_same_side s Right || is_same_side s Shared) ≡ true
right_side Left e = absurd (let d : false ≡ true = e in cc)
right_side Right e = refl
right_side Shared e = refl

encloses_itself : (p : ByteRange) → encloses p p ≡ true
encloses_itself p =
    and_from (nat_le p.offset p.offset) (nat_le (p.offset + p.bytes) (p.offset + p.bytes))
    (le-leb p.offset p.offset (self_le p.offset))
    (le-leb (p.offset + p.bytes) (p.offset + p.bytes) (self_le (p.offset + p.bytes)))

-- the only cell
only_in : {N : Type 0} (P : Cell N → Type 0) (c y : Cell N) → P c → IsIn y (c ∷ []) → P y
only_in P c _ h (first _) = h
only_in P c y h (later _ _ i) = elim i [ ]

module _ {N : Type 0} (D : Ops N) (law : Lawful D) (k : Known N) (m n : Memories) (one : IsOne D k m) (s : Side)
    (q : Spot) (w : Scalar) (v : Value N) (f : Form) (x : Datum) (u : IsOneToStore D k m q w (Some v) f x)
    (l : IsStoredAt k.orders.0 k.model w q x (on_left s) m.left n.left)
    (r : IsStoredAt k.orders.1 k.model w q x (on_right s) m.right n.right) where
  abbrev c : Cell N
  c = new_cell s q w (Some v) false f

  abbrev place : ByteRange
  place = place_of k.model (new_cell s q w (Some v) false f)

  formed : (g : Form) → FormFits k.cells w g → IfSome g (IsFormOf k.cells (new_cell s q w (Some v) false f))
  formed None h = tt
  formed (Some ss) h = record { sure = refl; wide = h.wide; form = h.form; mentioned = h.mentioned }

  are_new : AreNew k.model place k.cells (c ∷ [])
  are_new = record {
    each = λ y i.
        only_in (IsCell k.model) c y
        (record {
          fits = record {
            sort = u.sort;
            undefined = λ e. absurd (let d : Some v ≡ None = e in cc);
            last = u.last;
          };
          rising = u.rising;
        }) i;
    inside = λ y i.
        only_in (IsInside k.model place) c y
        (record { left = λ e. e; right = λ e. e; block = refl; bytes = encloses_itself place }) i;
    apart = (tt, tt);
    forms = λ y i. only_in (HasForm k.cells) c y (formed f u.form_fits) i;
  }

  are_stored : AreStored k.model place m n
  are_stored = record {
    left = record {
      stored = λ e. with_beside k.orders.0 k.model w s q x m.left n.left (l.written e);
      stays = l.stays;
    };
    right = record {
      stored = λ e. with_beside k.orders.1 k.model w s q x m.right n.right (r.written e);
      stays = r.stays;
    };
  }

  say_new : SayNew D k (c ∷ []) m n
  say_new y i =
      only_in (λ y. SaysNew D k y m n) c y
      (record {
        cell = new_says D s k.orders k.model n q w (Some v) f x u.allowed
            (λ e. with_there k.orders.0 k.model w q x m.left n.left (l.written e))
            (λ e. with_there k.orders.1 k.model w q x m.right n.right (r.written e));
        form = new_form D s k.orders k.model m n q w (Some v) f x u.allowed
            (λ e. with_there k.orders.0 k.model w q x m.left n.left (l.written e))
            (λ e. with_there k.orders.1 k.model w q x m.right n.right (r.written e)) u.form_has;
      }) i

  -- it has each byte of the place
  left_filled : on_left s ≡ true → IsFilled D k place (c ∷ []) Left n.left
  left_filled e b j h none =
      absurd (true_and_false (covers k.model Left b j c)
      (and_from (is_same_side s Left || is_same_side s Shared)
      (nat_eq q.0 b && (nat_le q.1 j && nat_lt j (q.1 + size_of k.model w))) (left_side s e) h)
      (not_covering k.model Left b j (c ∷ []) c none (first [])))

  right_filled : on_right s ≡ true → IsFilled D k place (c ∷ []) Right n.right
  right_filled e b j h none =
      absurd (true_and_false (covers k.model Right b j c)
      (and_from (is_same_side s Right || is_same_side s Shared)
      (nat_eq q.0 b && (nat_le q.1 j && nat_lt j (q.1 + size_of k.model w))) (right_side s e) h)
      (not_covering k.model Right b j (c ∷ []) c none (first [])))

  stored_one : IsOne D (replaced D place (c ∷ []) k) n
  stored_one =
      replaces_keep_one D law k m n one place (c ∷ []) are_new
      (λ y i. only_in (IsOneCell D) c y (one_value refl u.one) i) are_stored say_new left_filled right_filled

pub stores_keep_one : {N : Type 0} (D : Ops N) → Lawful D → (k : Known N) (m n : Memories) → IsOne D k m → (s : Side)
    (q : Spot) (w : Scalar) (v : Option (Value N)) (f : Form) (x : Datum) → IsOneToStore D k m q w v f x
    → IsStoredAt k.orders.0 k.model w q x (on_left s) m.left n.left
    → IsStoredAt k.orders.1 k.model w q x (on_right s) m.right n.right
    → IsOne D (replaced D (place_of k.model (new_cell s q w v false f)) (new_cell s q w v false f ∷ []) k) n
stores_keep_one D law k m n one s q w None f x u l r = elim u.one [ ]
stores_keep_one D law k m n one s q w (Some v) f x u l r = stored_one D law k m n one s q w v f x u l r
