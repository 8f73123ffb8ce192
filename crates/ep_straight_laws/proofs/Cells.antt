-- What becomes of the cells of variables where one of them is written as a whole.
use Rattle.std.proofs.Common.{◌≡◌, ℕ, ◌+◌, Bool, true, false, ◌&&◌, not, cond, nat_eq, nat_lt, nat_le, List, [], ◌∷◌}
use Rattle.ep_reads.proofs.Members.{place_alike}
use Rattle.ep_cells.proofs.Basics.{filter-none}
use Rattle.ep_cells.proofs.WeakCells.{shared_all}
use Rattle.std.proofs.lemmas.Bool.{and_right}
use Rattle.std.proofs.Common.{refl, sym, ap, ◌∙◌, subst, Option, arith}
use Rattle.std.proofs.lemmas.Bool.{eq-eqb, le-leb}
use Rattle.ep_int.specs.declared.types.IntType.{IntType}
use Rattle.ep_int.specs.declared.types.Model.{Model}
use Rattle.ep_int.specs.declared.types.Scalar.TheVariants.{Int}
use Rattle.ep_int.specs.Types.{bytes_of, size_of}
use Rattle.ep_bitslice.specs.declared.cell.Side.{Side}
use Rattle.ep_bitslice.specs.declared.cell.Side.TheVariants.{Left, Right, Shared}
use Rattle.ep_domain.specs.Domain.{Ops}
use Rattle.ep_cells.specs.declared.cell.Cell.{Cell}
use Rattle.ep_cells.specs.declared.cell.Value.{Value}
use Rattle.ep_cells.specs.declared.place.ByteRange.{ByteRange}
use Rattle.ep_cells.specs.Cells.{place_of, touches, meets, share_memory, is_partly_in, is_same_cell, side_without}
use Rattle.ep_cells.specs.Cells.{with_side, IsIn, first, put, each_becomes}
use Rattle.ep_cells.specs.Forms.{reformed, common_form}
use Rattle.ep_cells.specs.States.{Known, AreCells}
use Rattle.ep_cells.specs.Write.{left_by_write, fate_by_write}
use Rattle.ep_cells.proofs.Lists.{map_in, each_in, put_there, put_keeps}
use Rattle.ep_cells.proofs.Both.{alike_same}
use Rattle.ep_reads.specs.Split.{split_all}
use Rattle.ep_reads.proofs.Sides.{others_apart}
use Rattle.ep_cell_ranges.specs.Ranges.{on_cell_side, with_cells, with_form, form_by_cut, split_at, cut, overwritten}
use Rattle.ep_cell_ranges.specs.Ranges.{replaced}
use Rattle.ep_cell_ranges.specs.Spots.{is_same_spot, all_spots}
use Rattle.ep_cell_ranges.specs.Sound.{IsPlaced}
use Rattle.ep_equalities.specs.declared.pair.Mode.TheVariants.{Both}
use Rattle.ep_transfers.specs.Writes.{Item, underway, shared_cell, write_shared, write_shared_each, write_both}
use Rattle.ep_transfers.specs.Writes.{write_now}

-- the place of a variable, on both sides
abbrev pub whole : (block : ℕ) → IntType → ByteRange
whole b t = record { side = Shared; block = b; offset = 0; bytes = bytes_of t }

pub placed_at : {N : Type 0} (d : Model) (b : ℕ) (t : IntType) (x : Cell N) → IsPlaced Shared b 0 (Int t) x
    → place_of d x ≡ whole b t
placed_at d b t x q = rw (q.side, q.block, q.offset, q.what) refl

not_met : (s q : Side) (t e : Bool) → (share_memory Shared q && t) ≡ false → ((share_memory s q && t) && e) ≡ false
not_met s q true e h = absurd (let k : (share_memory Shared q && true) ≡ true = rw (shared_all q) refl in cc)
not_met s q false e h = rw (and_right (share_memory s q) false refl) refl

-- a cell of a variable, with this value
pub record IsCellOf {N : Type 0} (k : Known N) (b : ℕ) (t : IntType) (v : Option (Value N)) (maybe : Bool) : Type 0
  where
    pub cell : Cell N
    pub is_in : IsIn cell k.cells
    pub placed : IsPlaced Shared b 0 (Int t) cell
    pub value : cell.value ≡ v
    pub sure : cell.maybe ≡ maybe

module _ {N : Type 0} (D : Ops N) (k : Known N) (cells : AreCells k.model k.cells) where
  none_by : (s : Side) (b : ℕ) (t : IntType) (x z : Cell N) → IsPlaced Shared b 0 (Int t) x → IsIn x k.cells
      → IsIn z k.cells → (same : Bool) → is_same_cell z x ≡ same
      → is_partly_in (on_cell_side s (whole b t)) (place_of k.model z) ≡ false
  none_by s b t x z q i j true e =
      let a : place_of k.model z ≡ whole b t = place_alike k.model z x (alike_same z x e)
      ∙ placed_at k.model b t x q in
      subst (λ u. is_partly_in (on_cell_side s (whole b t)) u ≡ false) (sym a)
      (and_right (meets (on_cell_side s (whole b t)) (whole b t)) _ (inside (bytes_of t)))
    where
      inside : (n : ℕ) → not (nat_le 0 0 && nat_le (0 + n) (0 + n)) ≡ false
      inside n = rw (le-leb (0 + n) (0 + n) (omega arith)) refl
  none_by s b t x z q i j false e =
      let a = others_apart k.model x z k.cells cells.pairs i j e in
      let m : meets (whole b t) (place_of k.model z) ≡ false
      = subst (λ u. meets u (place_of k.model z) ≡ false) (placed_at k.model b t x q) a in
      not_met s z.side (touches (whole b t) (place_of k.model z)) _ m

  module _ (b : ℕ) (t : IntType) (v : Option (Value N)) (maybe : Bool) (old : IsCellOf k b t v maybe) where
    none_cut : (s : Side) (z : Cell N) → IsIn z k.cells
        → is_partly_in (on_cell_side s (whole b t)) (place_of k.model z) ≡ false
    none_cut s z j = none_by s b t old.cell z old.placed old.is_in j (is_same_cell z old.cell) refl

    split_same : (s : Side) → split_at D (on_cell_side s (whole b t)) k ≡ k
    split_same s =
        ap (λ xs. with_cells k (split_all D k s xs k.cells))
        (filter-none (λ x. is_partly_in (on_cell_side s (whole b t)) (place_of k.model x)) k.cells (none_cut s))

    cut_same : cut D (whole b t) k ≡ k
    cut_same = ap (split_at D (on_cell_side Right (whole b t))) (split_same Left) ∙ split_same Right

    module _ (c : Cell N) (q : IsPlaced Shared b 0 (Int t) c) where
      abbrev formed_new : Cell N
      formed_new = with_form (form_by_cut D (whole b t) k) c

      abbrev after : Known N
      after = replaced D (whole b t) (c ∷ []) k

      over_is : after ≡ overwritten D (whole b t) (formed_new ∷ []) k
      over_is = ap (λ l. overwritten D (whole b t) (formed_new ∷ []) l) cut_same

      abbrev left_there : List (Cell N)
      left_there = each_becomes (left_by_write k.model (whole b t)) k.cells

      -- the new cell is there
      pub new_there : IsCellOf after b t c.value c.maybe
      new_there =
          subst (λ l. IsCellOf l b t c.value c.maybe) (sym over_is) (record {
            cell = reformed (fate_by_write (whole b t)) formed_new;
            is_in = map_in (reformed (fate_by_write (whole b t))) formed_new (put formed_new left_there)
                (put_there formed_new left_there);
            placed = record { side = q.side; block = q.block; offset = q.offset; what = q.what };
            value = refl;
            sure = refl;
          })

      other_left : (y : Cell N) → nat_eq b y.block ≡ false → IsIn y (left_by_write k.model (whole b t) y)
      other_left y e =
          subst (λ z. IsIn y (cond (z && (nat_lt 0 (y.offset + size_of k.model y.what) && nat_lt y.offset
          (0 + bytes_of t)))
          (with_side y (side_without Shared y.side)) (y ∷ []))) (sym e) (first [])

      -- and those of other variables stay
      pub other_there : (d : ℕ) (u : IntType) (w : Option (Value N)) (m : Bool) → nat_eq b d ≡ false
          → IsCellOf k d u w m
          → IsCellOf after d u w m
      other_there d u w m e o =
          subst (λ l. IsCellOf l d u w m) (sym over_is) (record {
            cell = reformed (fate_by_write (whole b t)) o.cell;
            is_in = map_in (reformed (fate_by_write (whole b t))) o.cell (put formed_new left_there)
                (put_keeps formed_new o.cell left_there
                (each_in (left_by_write k.model (whole b t)) o.cell o.cell k.cells o.is_in
                (other_left o.cell (ap (nat_eq b) o.placed.block ∙ e))));
            placed = record { side = o.placed.side; block = o.placed.block; offset = o.placed.offset; what = o.placed.what };
            value = o.value;
            sure = o.sure;
          })

-- one thing for both sides goes to the one place of a variable
pub written_is : {N : Type 0} (D : Ops N) (k : Known N) (b : ℕ) (t : IntType) (i : Item N) → i.same ≡ true
    → write_now D Both true (Int t) (record { left = (b, 0) ∷ []; right = (b, 0) ∷ [] }) i k
    ≡ replaced D (whole b t)
    (shared_cell D (Int t) i (common_form i.pair.left.form i.pair.right.form) (b, 0) ∷ []) k
written_is D k b t i e =
    ap (λ s. (write_both D s (Int t) (record { left = (b, 0) ∷ []; right = (b, 0) ∷ [] }) (underway k i)).known) e
    ∙ ap (λ s. (cond s (write_shared D (Int t) (b, 0) (underway k i))
    (write_shared_each D (Int t) (all_spots ((b, 0) ∷ []) ((b, 0) ∷ [])) (underway k i))).known)
    (let f : is_same_spot (b, 0) (b, 0) ≡ true = rw (eq-eqb b b refl) refl in f)
