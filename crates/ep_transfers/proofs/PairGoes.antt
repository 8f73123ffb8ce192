-- An aggregate is copied on both sides together, where neither is moved.
use Rattle.std.proofs.Common.{◌≡◌, ℕ, zero, suc, ◌+◌, ◌<◌, ◌≤◌, Bool, true, false, List, Option, Some, None, ◌⊎◌, inl}
use Rattle.ep_cell_ranges.proofs.Basics.{is_same_spot-equal}
use Rattle.std.proofs.Common.{inr, refl, sym, ap, ◌∙◌, subst, arith}
use Rattle.std.proofs.lemmas.Bool.{cases_lt, both_ways}
use Rattle.ep_int.specs.declared.types.Scalar.{Scalar}
use Rattle.ep_int.specs.Memory.{Byte, Value as Datum, replaced, copied}
use Rattle.ep_layout.specs.declared.types.Leaf.{Leaf}
use Rattle.ep_domain.specs.Domain.{Ops}
use Rattle.ep_cells.specs.Cells.{is_same_scalar}
use Rattle.ep_cells.specs.Kill.{AreLeavesIn}
use Rattle.ep_cells.specs.States.{Known}
use Rattle.ep_cells.specs.Meaning.{Memories}
use Rattle.ep_cells.proofs.Both.{scalar_same}
use Rattle.ep_core.specs.Runs.{Side, left, right}
use Rattle.ep_equalities.specs.declared.pair.Mode.TheVariants.{Both}
use Rattle.ep_cell_ranges.specs.Spots.{Spot, is_same_spot}
use Rattle.ep_transfers.specs.Places.{Places}
use Rattle.ep_transfers.specs.Copies.{Piece, none, leaf, byte, loosened_places, pieces_from, copy_pieces}
use Rattle.ep_transfers.specs.Laws.{CellLaws}
use Rattle.ep_transfers.proofs.Changes.{IsOne, IsKnown}
use Rattle.ep_transfers.proofs.Rooms.{EndBy}
use Rattle.ep_transfers.proofs.Copied.{AreBelow, IsCopy, IsNext, same_next, then_next}
use Rattle.ep_transfers.proofs.Moved.{CopyLaws, TogetherNext, sides_next}
use Rattle.ep_transfers.proofs.PieceWrites.{piece_of, PieceSays, IfPiece}
use Rattle.ep_transfers.proofs.PieceReads.{copied_bytes, all_say}
use Rattle.ep_transfers.proofs.PairWrites.{PieceAs, IfAs, item_of_both, IfTogether}
use Rattle.ep_transfers.proofs.PairEnds.{both_ends}
use Rattle.ep_transfers.proofs.PairStill.{pieces_both_still}
use Rattle.ep_transfers.proofs.PairOne.{one_leaf, one_byte}
use Rattle.ep_transfers.proofs.Loosened.{one_loosened, ends_loosened, many_loosened}
use Rattle.ep_transfers.proofs.AggregateSide.{same_memory, other_memory, leaves_many}

module _ {N : Type 0} (D : Ops N) (laws : CellLaws D) (k : Known N) (to from : Places) (leaves : List Leaf) (n : ℕ)
    (m : Memories) (i : IsKnown D k m) (p : Spot) (bl : AreBelow m.left) (br : AreBelow m.right)
    (ol : IsOne p from.left) (or : IsOne p from.right) (apart : AreLeavesIn k.model 0 n leaves) where
  abbrev pub nl : ℕ → Byte
  nl = copied_bytes D laws left k m i p n bl to from leaves ol apart

  abbrev pub nr : ℕ → Byte
  nr = copied_bytes D laws right k m i p n br to from leaves or apart

  -- what stands at the pieces of both: one thing, where it is written as one
  pub record Aligned (o : ℕ) (cl cr : Piece D) : Type 0 where
    pub dl : Option Datum
    pub dr : Option Datum
    pub on_left : IfAs D laws k to from leaves n left nl o cl dl
    pub on_right : IfAs D laws k to from leaves n right nr o cr dr
    pub together : IfTogether D laws k to from leaves n o cl cr dl dr

  record OwnAs (s : Side) (g : ℕ → Byte) (o : ℕ) (c : Piece D) : Type 0 where
    datum : Option Datum
    is : IfAs D laws k to from leaves n s g o c datum

  own_as : (s : Side) (g : ℕ → Byte) (o : ℕ) (c : Piece D) → IfPiece D laws k to from leaves n s g o c → OwnAs s g o c
  own_as s g o none z = record { datum = None; is = tt }
  own_as s g o (leaf w) z = record {
    datum = z.says.datum;
    is = record { inside = z.inside; fits = z.fits; allowed = z.says.allowed; stands = z.says.stands };
  }
  own_as s g o byte z = record {
    datum = z.says.datum;
    is = record { inside = z.inside; fits = z.fits; allowed = z.says.allowed; stands = z.says.stands };
  }

  not_alike : (t : Bool) (P : Type 0) → t ≡ false → t ≡ true → P
  not_alike t P e f = absurd (both_ways t e f)

  leaves_same : (o : ℕ) (w v : Scalar) → piece_of D laws k to from leaves n left o ≡ leaf w
      → piece_of D laws k to from leaves n right o ≡ leaf v → PieceSays D laws k to from leaves n left nl o (leaf w)
      → PieceSays D laws k to from leaves n right nr o (leaf v) → (t u : Bool) → is_same_scalar w v ≡ t
      → (item_of_both D laws k to from leaves n o (leaf w)).same ≡ u → Aligned o (leaf w) (leaf v)
  leaves_same o w v el er zl zr true true e f =
      let same = scalar_same w v e in
      let d = one_leaf D laws k to from leaves n m i p bl br ol or apart o w el (er ∙ ap leaf (sym same)) zl
      (subst (λ x. PieceSays D laws k to from leaves n right nr o (leaf x)) (sym same) zr) f in
      record {
        dl = d.datum;
        dr = d.datum;
        on_left = d.on_left;
        on_right = subst (λ x. PieceAs D laws k to from leaves n right nr o (leaf x) d.datum) same d.on_right;
        together = λ x y. refl;
      }
  leaves_same o w v el er zl zr false u e f =
      let l = own_as left nl o (leaf w) zl in
      let r = own_as right nr o (leaf v) zr in
      record {
        dl = l.datum;
        dr = r.datum;
        on_left = l.is;
        on_right = r.is;
        together = λ x y. not_alike (is_same_scalar w v) (l.datum ≡ r.datum) e x;
      }
  leaves_same o w v el er zl zr true false e f =
      let l = own_as left nl o (leaf w) zl in
      let r = own_as right nr o (leaf v) zr in
      record {
        dl = l.datum;
        dr = r.datum;
        on_left = l.is;
        on_right = r.is;
        together = λ x y. not_alike (item_of_both D laws k to from leaves n o (leaf w)).same (l.datum ≡ r.datum) f y;
      }

  bytes_same : (o : ℕ) → o < n → piece_of D laws k to from leaves n left o ≡ byte
      → piece_of D laws k to from leaves n right o ≡ byte → PieceSays D laws k to from leaves n left nl o byte
      → PieceSays D laws k to from leaves n right nr o byte → (u : Bool)
      → (item_of_both D laws k to from leaves n o byte).same ≡ u → Aligned o byte byte
  bytes_same o l el er zl zr true f =
      let d = one_byte D laws k to from leaves n m i p bl br ol or apart o l zl zr f in
      record {
        dl = d.datum;
        dr = d.datum;
        on_left = d.on_left;
        on_right = d.on_right;
        together = λ y. refl;
      }
  bytes_same o h el er zl zr false f =
      let l = own_as left nl o byte zl in
      let r = own_as right nr o byte zr in
      record {
        dl = l.datum;
        dr = r.datum;
        on_left = l.is;
        on_right = r.is;
        together = λ y. not_alike (item_of_both D laws k to from leaves n o byte).same (l.datum ≡ r.datum) f y;
      }

  apart_pieces : (o : ℕ) (cl cr : Piece D) → IfPiece D laws k to from leaves n left nl o cl
      → IfPiece D laws k to from leaves n right nr o cr
      → ((dl dr : Option Datum) → IfTogether D laws k to from leaves n o cl cr dl dr) → Aligned o cl cr
  apart_pieces o cl cr zl zr t =
      let l = own_as left nl o cl zl in
      let r = own_as right nr o cr zr in
      record { dl = l.datum; dr = r.datum; on_left = l.is; on_right = r.is; together = t l.datum r.datum }

  align : (o : ℕ) → o < n → (cl cr : Piece D) → piece_of D laws k to from leaves n left o ≡ cl
      → piece_of D laws k to from leaves n right o ≡ cr → IfPiece D laws k to from leaves n left nl o cl
      → IfPiece D laws k to from leaves n right nr o cr → Aligned o cl cr
  align o l none none el er zl zr = apart_pieces o none none zl zr (λ x y. tt)
  align o l none (leaf v) el er zl zr = apart_pieces o none (leaf v) zl zr (λ x y. tt)
  align o l none byte el er zl zr = apart_pieces o none byte zl zr (λ x y. tt)
  align o l (leaf w) none el er zl zr = apart_pieces o (leaf w) none zl zr (λ x y. tt)
  align o l (leaf w) byte el er zl zr = apart_pieces o (leaf w) byte zl zr (λ x y. tt)
  align o l byte none el er zl zr = apart_pieces o byte none zl zr (λ x y. tt)
  align o l byte (leaf v) el er zl zr = apart_pieces o byte (leaf v) zl zr (λ x y. tt)
  align o l (leaf w) (leaf v) el er zl zr =
      leaves_same o w v el er zl zr (is_same_scalar w v)
      (item_of_both D laws k to from leaves n o (leaf w)).same refl refl
  align o l byte byte el er zl zr =
      bytes_same o l el er zl zr (item_of_both D laws k to from leaves n o byte).same refl

  pub aligned : (o : ℕ) → o < n
      → Aligned o (piece_of D laws k to from leaves n left o) (piece_of D laws k to from leaves n right o)
  aligned o l =
      align o l (piece_of D laws k to from leaves n left o) (piece_of D laws k to from leaves n right o) refl refl
      (all_say D laws left k m i p n bl to from leaves ol apart o l)
      (all_say D laws right k m i p n br to from leaves or apart o l)

  beyond : (o : ℕ) → o < n → n ≤ o → ⊥
  beyond o l h = omega (arith, l, h)

  abbrev left_by : (o : ℕ) → (o < n) ⊎ (n ≤ o) → Option Datum
  left_by o (inl l) = (aligned o l).dl
  left_by o (inr l) = None

  abbrev right_by : (o : ℕ) → (o < n) ⊎ (n ≤ o) → Option Datum
  right_by o (inl l) = (aligned o l).dr
  right_by o (inr l) = None

  abbrev pub left_data : ℕ → Option Datum
  left_data o = left_by o (cases_lt o n)

  abbrev pub right_data : ℕ → Option Datum
  right_data o = right_by o (cases_lt o n)

  left_is : (o : ℕ) → o < n → (t : (o < n) ⊎ (n ≤ o))
      → IfAs D laws k to from leaves n left nl o (piece_of D laws k to from leaves n left o) (left_by o t)
  left_is o l (inl h) = (aligned o h).on_left
  left_is o l (inr h) = absurd (beyond o l h)

  right_is : (o : ℕ) → o < n → (t : (o < n) ⊎ (n ≤ o))
      → IfAs D laws k to from leaves n right nr o (piece_of D laws k to from leaves n right o) (right_by o t)
  right_is o l (inl h) = (aligned o h).on_right
  right_is o l (inr h) = absurd (beyond o l h)

  both_are : (o : ℕ) → o < n → (t : (o < n) ⊎ (n ≤ o))
      → IfTogether D laws k to from leaves n o (piece_of D laws k to from leaves n left o)
      (piece_of D laws k to from leaves n right o) (left_by o t) (right_by o t)
  both_are o l (inl h) = (aligned o h).together
  both_are o l (inr h) = absurd (beyond o l h)

  -- all pieces together
  pub pair_ends : 0 < n → (h : Spot) → IsOne h to.left → IsOne h to.right → EndBy 65536 n to.left
      → EndBy 65536 n to.right
      → IsNext D k (pieces_from D true k to from leaves Both 0 n k) m (record {
        left = replaced k.model m.left h.0 h.1 n nl;
        right = replaced k.model m.right h.0 h.1 n nr;
      })
  pair_ends some h tl tr el er =
      both_ends D laws k to from leaves n apart some h nl nr left_data right_data
      (λ o l. left_is o l (cases_lt o n)) (λ o l. right_is o l (cases_lt o n)) (λ o l. both_are o l (cases_lt o n)) tl
      tr el er m i

module _ {N : Type 0} (D : Ops N) (laws : CellLaws D) (rules : CopyLaws D) (ls : List Leaf) where
  some_bytes : (n : ℕ) → 0 < suc n
  some_bytes n = omega arith

  none_past : (n : ℕ) → 0 + n ≤ n
  none_past n = omega arith

  -- both sides go by their leaves
  pub leaves_together : (n : ℕ) → TogetherNext D rules (Some ls) n
  leaves_together zero to from k m o i a b e f w =
      sides_next D rules (Some ls) zero (leaves_many D laws rules ls zero) to from k m o i a b
  leaves_together (suc n) to from k m o i a b e f w = by_test (is_same_spot a.to a.from) refl
    where
      by_test : (t : Bool) → is_same_spot a.to a.from ≡ t
          → IsNext D k (copy_pieces D (Some ls) true to from (suc n) k) m o
      by_test true g =
          let in_to : IsOne a.to to.right = subst (λ z. IsOne z to.right) (sym e) b.among_to in
          let in_from : IsOne a.from from.right = subst (λ z. IsOne z from.right) (sym f) b.among_from in
          let same : a.from ≡ a.to = sym (is_same_spot-equal a.to a.from g) in
          let copy : IsCopy k.model true a.to a.from (suc n) m.right o.right
          = subst (λ z. IsCopy k.model true z a.from (suc n) m.right o.right) (sym e)
          (subst (λ z. IsCopy k.model true b.to z (suc n) m.right o.right) (sym f) b.copy) in
          let v = pieces_from D true k (loosened_places to from) from ls Both 0 (suc n) k in
          let h : IsNext D k v m m = pieces_both_still D laws k (loosened_places to from) from ls (suc n)
          (copied_bytes D laws left k m i a.from (suc n) a.below
          (loosened_places to from) from ls a.among_from a.leaves)
          (copied_bytes D laws right k m i a.from (suc n) b.below (loosened_places to from) from ls in_from a.leaves)
          (many_loosened left a.to to from a.among_to (subst (λ z. IsOne z from.left) same a.among_from))
          (many_loosened right a.to to from in_to (subst (λ z. IsOne z from.right) same in_from))
          (ends_loosened left 65536 (suc n) to from a.rooms) (ends_loosened right 65536 (suc n) to from b.rooms)
          (all_say D laws left k m i a.from (suc n) a.below (loosened_places to from) from ls a.among_from a.leaves)
          (all_say D laws right k m i a.from (suc n) b.below (loosened_places to from) from ls in_from a.leaves) 0
          (suc n) (none_past (suc n)) k m i refl in
          then_next D k v v m m o h
          (same_next D v m o h.after (record {
            left = same_memory k.model a.to a.from (suc n) m.left o.left a.copy g;
            right = same_memory k.model a.to a.from (suc n) m.right o.right copy g;
          }))
      by_test false g =
          let in_to : IsOne a.to to.right = subst (λ z. IsOne z to.right) (sym e) b.among_to in
          let in_from : IsOne a.from from.right = subst (λ z. IsOne z from.right) (sym f) b.among_from in
          let copy : IsCopy k.model true a.to a.from (suc n) m.right o.right
          = subst (λ z. IsCopy k.model true z a.from (suc n) m.right o.right) (sym e)
          (subst (λ z. IsCopy k.model true b.to z (suc n) m.right o.right) (sym f) b.copy) in
          let v = pieces_from D true k (loosened_places to from) from ls Both 0 (suc n) k in
          let ends : Memories = record {
            left = copied k.model m.left a.to.0 a.to.1 a.from.0 a.from.1 (suc n);
            right = copied k.model m.right a.to.0 a.to.1 a.from.0 a.from.1 (suc n);
          } in
          let h : IsNext D k v m ends = pair_ends D laws k (loosened_places to from) from ls (suc n) m i a.from a.below
          b.below a.among_from in_from a.leaves (some_bytes n) a.to (one_loosened left a.to to from a.among_to)
          (one_loosened right a.to to from in_to) (ends_loosened left 65536 (suc n) to from a.rooms)
          (ends_loosened right 65536 (suc n) to from b.rooms) in
          then_next D k v v m ends o h
          (same_next D v ends o h.after (record {
            left = other_memory k.model a.to a.from (suc n) m.left o.left a.copy g;
            right = other_memory k.model a.to a.from (suc n) m.right o.right copy g;
          }))
