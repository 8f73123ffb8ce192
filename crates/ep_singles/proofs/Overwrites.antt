-- Where new cells of one value take a place, a state stands for one pair of memories again.
use Rattle.std.proofs.Common.{◌≡◌, ◌⊎◌, inl, inr, ℕ, ◌+◌, ◌<◌, ◌≤◌, Bool, true, false, ◌&&◌, not, nat_eq, nat_le}
use Rattle.ep_singles.proofs.OneSplit.{new_in}
use Rattle.std.proofs.Common.{nat_lt, cond, List, [], ◌∷◌, Option, Some, None, refl, sym, ◌∙◌, ap, subst, arith}
use Rattle.std.proofs.lemmas.Bool.{and_parts, and_from, eqb-true, leb-true, ltb-true}
use Rattle.ep_int.specs.declared.types.Model.{Model}
use Rattle.ep_int.specs.Types.{size_of}
use Rattle.ep_int.specs.Memory.{Memory}
use Rattle.ep_bitslice.specs.declared.cell.Side.{Side}
use Rattle.ep_bitslice.specs.declared.cell.Side.TheVariants.{Left, Right}
use Rattle.ep_domain.specs.Domain.{Ops}
use Rattle.ep_cells.specs.declared.cell.Cell.{Cell}
use Rattle.ep_cells.specs.declared.place.ByteRange.{ByteRange}
use Rattle.ep_cells.specs.Cells.{IsIn, first, place_of, touches, meets, encloses, is_partly_in, share_memory}
use Rattle.ep_cells.specs.Cells.{side_without, on_left, on_right, with_side, put_all, each_becomes}
use Rattle.ep_cells.specs.Forms.{reformed}
use Rattle.ep_cells.specs.Look.{covers, cell_at}
use Rattle.ep_cells.specs.States.{Known}
use Rattle.ep_cells.specs.Meaning.{Memories}
use Rattle.ep_cells.specs.Write.{left_by_write, fate_by_write}
use Rattle.ep_cells.specs.Memories.{is_byte_of, IsRewritten, AreRewritten}
use Rattle.ep_cells.proofs.Lists.{in_each, in_map, map_in, in_put_all}
use Rattle.ep_cells.proofs.Write.{left_is}
use Rattle.ep_cell_ranges.specs.Ranges.{overwritten}
use Rattle.ep_cell_ranges.specs.Sound.{AreNew, SayNew}
use Rattle.ep_cell_ranges.proofs.Overwrites.{of_overwrites}
use Rattle.ep_singles.specs.Cells.{IsOneCell, IsOne}
use Rattle.ep_singles.specs.Laws.{IsMachine}
use Rattle.ep_singles.specs.CellLaws.{IsFilled}
use Rattle.ep_singles.proofs.Covers.{has_side, share_left, share_right, keeps_side, share_both, found_covers}
use Rattle.ep_singles.proofs.Covers.{side_covers, kept_in, IsByteAfter, gone, covered, stays, empty_after}
use Rattle.ep_singles.proofs.Covers.{one_side, one_form}

-- ---- the cells that had a byte

-- the byte that a cell in a place has is one of the place
byte_inside : (p : ByteRange) (c q o n : ℕ) → nat_eq p.block c ≡ true → (nat_le o q && nat_lt q (o + n)) ≡ true
    → (nat_le p.offset o && nat_le (o + n) (p.offset + p.bytes)) ≡ true → is_byte_of p c q ≡ true
byte_inside p c q o n e h i =
    let a = and_parts (nat_le o q) (nat_lt q (o + n)) h in
    let b = and_parts (nat_le p.offset o) (nat_le (o + n) (p.offset + p.bytes)) i in
    let low = leb-true o q a.0 in
    let high = ltb-true q (o + n) a.1 in
    let least = leb-true p.offset o b.0 in
    let most = leb-true (o + n) (p.offset + p.bytes) b.1 in
    let from : p.offset ≤ q = omega (arith, low, least) in
    let to : q < p.offset + p.bytes = omega (arith, high, most) in
    and_from (nat_eq p.block c) (nat_le p.offset q && nat_lt q (p.offset + p.bytes)) e
    (and_from (nat_le p.offset q) (nat_lt q (p.offset + p.bytes)) (grind (arith, from)) (grind (arith, to)))

-- on a machine, outside of the bytes that are written there
write_covers : {N : Type 0} (d : Model) (s : Side) (p : ByteRange) (c q : ℕ) (x : Cell N) → IsMachine s
    → is_partly_in p (place_of d x) ≡ false → (share_memory p.side s && is_byte_of p c q) ≡ false
    → covers d s c q x ≡ true → (y : Cell N) × IsIn y (left_by_write d p x) × (covers d s c q y ≡ true)
write_covers {N = N} d s p c q x i uncut out h = by_touch (touches p (place_of d x)) refl
  where
    all : (has_side x.side s ≡ true)
        × ((nat_eq x.block c && (nat_le x.offset q && nat_lt q (x.offset + size_of d x.what))) ≡ true)
    all = and_parts (has_side x.side s)
        (nat_eq x.block c && (nat_le x.offset q && nat_lt q (x.offset + size_of d x.what))) h

    lies : (nat_eq x.block c ≡ true) × ((nat_le x.offset q && nat_lt q (x.offset + size_of d x.what)) ≡ true)
    lies = and_parts (nat_eq x.block c) (nat_le x.offset q && nat_lt q (x.offset + size_of d x.what)) all.1

    by_rest : (o : Option Side) → side_without p.side x.side ≡ o
        → (r : Side) × (side_without p.side x.side ≡ Some r) × (has_side r s ≡ true)
        → (y : Cell N) × IsIn y (with_side x o) × (covers d s c q y ≡ true)
    by_rest None e r = absurd (let g : None ≡ Some r.0 = sym e ∙ r.1 in cc)
    by_rest (Some t) e r = (
      record x { side = t },
      first [],
      side_covers d s c q x t h
          (subst (λ t. has_side t s ≡ true) (same r.0 t (sym r.1 ∙ e)) r.2),
    )
      where
        same : (a b : Side) → Some a ≡ Some b → a ≡ b
        same a b g = cc

    not_both : (A : Type 0) (t : Bool) → t ≡ true → t ≡ false → A
    not_both A t e f = absurd (let g : true ≡ false = sym e ∙ f in cc)

    enclosed : (t : Bool) → (true && not t) ≡ false → t ≡ true
    enclosed true e = refl
    enclosed false e = absurd cc

    by_share : (u : Bool) → share_memory p.side s ≡ u → touches p (place_of d x) ≡ true
        → (y : Cell N) × IsIn y (with_side x (side_without p.side x.side)) × (covers d s c q y ≡ true)
    by_share false f e = by_rest (side_without p.side x.side) refl (keeps_side p.side x.side s i all.0 f)
    by_share true f e =
        let met : meets p (place_of d x) ≡ true =
        and_from (share_memory p.side x.side) (touches p (place_of d x)) (share_both p.side x.side s i f all.0) e in
        let inside = enclosed (encloses p (place_of d x))
        (sym (ap (λ t. t && not (encloses p (place_of d x))) met) ∙ uncut) in
        let block = (and_parts (nat_eq p.block x.block)
        (nat_lt p.offset (x.offset + size_of d x.what) && nat_lt x.offset (p.offset + p.bytes)) e).0 in
        let here : nat_eq p.block c ≡ true = subst (λ b. nat_eq p.block b ≡ true) (eqb-true x.block c lies.0) block in
        not_both _ (share_memory p.side s && is_byte_of p c q)
        (and_from (share_memory p.side s) (is_byte_of p c q) f
        (byte_inside p c q x.offset (size_of d x.what) here lies.1 inside)) out

    by_touch : (t : Bool) → touches p (place_of d x) ≡ t → (y : Cell N)
        × IsIn y (cond t (with_side x (side_without p.side x.side)) (x ∷ [])) × (covers d s c q y ≡ true)
    by_touch true e = by_share (share_memory p.side s) refl e
    by_touch false e = (x, first [], h)

-- ---- what is undefined

module _ {N : Type 0} (D : Ops N) (k : Known N) (s : Side) (p : ByteRange) (new : List (Cell N)) (m n : Memory)
    (i : IsMachine s) (uncut : (x : Cell N) → IsIn x k.cells → is_partly_in p (place_of k.model x) ≡ false)
    (here : Bool) (same : share_memory p.side s ≡ here) (w : IsRewritten p here m n)
    (filled : here ≡ true → IsFilled D k p new s n) where
  by_new : (c q : ℕ) → is_byte_of p c q ≡ true → here ≡ true → (o : Option (Cell N))
      → cell_at k.model s c q new ≡ o → IsByteAfter k.model s k.cells (overwritten D p new k).cells m n c q
  by_new c q h e None f = gone (filled e c q h f)
  by_new c q h e (Some y) f =
      let z = found_covers k.model s c q new y f in
      covered (reformed (fate_by_write p) y)
      (map_in (reformed (fate_by_write p)) y (put_all new (each_becomes (left_by_write k.model p) k.cells))
      (new_in new (each_becomes (left_by_write k.model p) k.cells) y z.0)) z.1

  pub write_step : (c q : ℕ) → IsByteAfter k.model s k.cells (overwritten D p new k).cells m n c q
  write_step c q = by_byte (here && is_byte_of p c q) refl
    where
      by_byte : (t : Bool) → (here && is_byte_of p c q) ≡ t
          → IsByteAfter k.model s k.cells (overwritten D p new k).cells m n c q
      by_byte true e =
          let a = and_parts here (is_byte_of p c q) e in
          by_new c q a.1 a.0 (cell_at k.model s c q new) refl
      by_byte false e =
          stays (λ h. w.elsewhere c q e ∙ h)
          (λ x j h. let y = write_covers k.model s p c q x i (uncut x j)
          (ap (λ t. t && is_byte_of p c q) same ∙ e) h in (
            reformed (fate_by_write p) y.0,
            kept_in (fate_by_write p) new
                (left_by_write k.model p) k.cells x y.0 j y.1,
            y.2,
          ))

-- each cell after it is of one value
pub overwritten_each : {N : Type 0} (D : Ops N) (k : Known N) (p : ByteRange) (new : List (Cell N))
    → ((c : Cell N) → IsIn c k.cells → IsOneCell D c) → ((c : Cell N) → IsIn c new → IsOneCell D c) → (y : Cell N)
    → IsIn y (overwritten D p new k).cells → IsOneCell D y
overwritten_each {N = N} D k p new old each y i =
    let all = put_all new (each_becomes (left_by_write k.model p) k.cells) in
    let z = in_map (reformed (fate_by_write p)) y all i in
    subst (IsOneCell D) (sym z.is)
    (one_form D (fate_by_write p) z.origin
    (from z.origin (in_put_all new z.origin (each_becomes (left_by_write k.model p) k.cells) z.is_in)))
  where
    from : (z : Cell N) → IsIn z new ⊎ IsIn z (each_becomes (left_by_write k.model p) k.cells) → IsOneCell D z
    from z (inl h) = each z h
    from z (inr h) =
        let x = in_each (left_by_write k.model p) z k.cells h in
        let y = left_is k.model p x.origin z x.becomes in
        subst (IsOneCell D) (sym y.is) (one_side D x.origin y.side (old x.origin x.is_in))

pub overwrites_keep_one : {N : Type 0} (D : Ops N) (k : Known N) (m n : Memories) → IsOne D k m → (p : ByteRange)
    (new : List (Cell N)) → AreNew k.model p k.cells new
    → ((x : Cell N) → IsIn x k.cells → is_partly_in p (place_of k.model x) ≡ false)
    → ((c : Cell N) → IsIn c new → IsOneCell D c) → AreRewritten p m n → SayNew D k new m n
    → (on_left p.side ≡ true → IsFilled D k p new Left n.left)
    → (on_right p.side ≡ true → IsFilled D k p new Right n.right) → IsOne D (overwritten D p new k) n
overwrites_keep_one D k m n one p new are uncut each w says left_filled right_filled = record {
  cells = (of_overwrites D).cells k p new one.cells are;
  each = overwritten_each D k p new one.each each;
  left_outside = empty_after k.model Left k.cells (overwritten D p new k).cells m.left n.left one.left_outside
      (write_step D k Left p new m.left n.left tt uncut (on_left p.side) (share_left p.side) w.left left_filled);
  right_outside = empty_after k.model Right k.cells (overwritten D p new k).cells m.right n.right one.right_outside
      (write_step D k Right p new m.right n.right tt uncut (on_right p.side)
      (share_right p.side) w.right right_filled);
  holds = (of_overwrites D).holds k p new one.cells are m n one.holds w says;
}
