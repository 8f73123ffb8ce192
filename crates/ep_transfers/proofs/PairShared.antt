-- Where the sources of a piece are Shared cells on both sides, the machines have one thing there.
use Rattle.std.proofs.Common.{◌≡◌, ℕ, ◌+◌, ◌-◌, ◌<◌, ◌≤◌, Bool, true, false, ◌&&◌, nat_eq, nat_lt, cond, List, []}
use Rattle.ep_bitslice.proofs.Joining.{side_back}
use Rattle.std.proofs.Common.{◌∷◌, Option, Some, None, refl, sym, ap, ◌∙◌, subst, arith}
use Rattle.std.specs.Option.{option_map_or}
use Rattle.std.proofs.lemmas.Bool.{and_from, and_parts, both_ways, eqb-true, eq-eqb, lt-ltb}
use Rattle.ep_int.specs.declared.types.IntType.{IntType}
use Rattle.ep_int.specs.declared.types.IntType.TheVariants.{U8}
use Rattle.ep_int.specs.declared.types.Order.{Order}
use Rattle.ep_int.specs.declared.types.Scalar.{Scalar}
use Rattle.ep_int.specs.declared.types.Scalar.TheVariants.{Int, Pointer}
use Rattle.ep_int.specs.Types.{bytes_of, size_of, wrapped}
use Rattle.ep_int.specs.Memory.{Memory, Value as Datum, int, null, pointer, broken}
use Rattle.ep_int.proofs.Wrapping.{wrapped_in_range}
use Rattle.ep_bitslice.specs.declared.cell.Side.{Side as CellSide}
use Rattle.ep_bitslice.specs.declared.cell.Side.TheVariants as cell_side
use Rattle.ep_bitslice.specs.Bits.{side_number}
use Rattle.ep_domain.specs.Domain.{Ops}
use Rattle.ep_cells.specs.declared.cell.Cell.{Cell}
use Rattle.ep_cells.specs.declared.cell.Value.{Value}
use Rattle.ep_cells.specs.declared.cell.Value.TheVariants.{Num, Ptr}
use Rattle.ep_cells.specs.Cells.{place_of, meets, touches, share_memory, is_same_side, is_same_cell}
use Rattle.ep_cells.specs.Look.{cell_at}
use Rattle.ep_cells.specs.States.{Known, IsOfSort}
use Rattle.ep_cells.specs.Meaning.{Memories, Allows, HasBytes, Says}
use Rattle.ep_cells.proofs.Both.{alike_same, only_one}
use Rattle.ep_reads.specs.Bytes.{byte_of_cell}
use Rattle.ep_reads.specs.Bytes.{order_on as order_of}
use Rattle.ep_reads.specs.Read.{is_same_sort, is_exact, whole_read, integer_read, read}
use Rattle.ep_reads.proofs.Found.{covering}
use Rattle.ep_reads.proofs.Sides.{others_apart}
use Rattle.ep_core.specs.Runs.{Side, left, right}
use Rattle.ep_evaluation.specs.Given.{cells_of}
use Rattle.ep_evaluation.proofs.Spots.{Among, here as at_head, behind}
use Rattle.ep_cell_ranges.specs.Spots.{Spot}
use Rattle.ep_transfers.specs.Places.{moved_spots}
use Rattle.ep_transfers.specs.Copies.{exact_at, whole_source, fragment_source, may_point, byte_source, leaf_sources}
use Rattle.ep_transfers.specs.Copies.{byte_sources, is_shared_whole, are_shared_whole}
use Rattle.ep_transfers.specs.Laws.{CellLaws}
use Rattle.ep_transfers.proofs.Changes.{IsOne, here, there, IsKnown}
use Rattle.ep_transfers.proofs.Puts.{order_on, memory_on}
use Rattle.ep_transfers.proofs.PieceReads.{stands_on, read_is}
use Rattle.ep_transfers.proofs.PieceSources.{SourceAs}
use Rattle.ep_transfers.proofs.BrokenBytes.{value_there}
use Rattle.ep_transfers.proofs.OneByte.{lacking, converted_has, sized_has}

-- what stands in one byte, read as a byte
abbrev pub as_byte : Option Datum → Option Datum
as_byte None = None
as_byte (Some (int z)) = Some (int (wrapped U8 z))
as_byte (Some null) = Some null
as_byte (Some (pointer b q)) = Some (pointer b q)

low_end : (x y p s : ℕ) → x ≤ p → p < y + s → x < y + s
low_end x y p s a b = omega (arith, a, b)

module _ {N : Type 0} (D : Ops N) (laws : CellLaws D) (k : Known N) (m : Memories) (i : IsKnown D k m) where
  -- a Shared cell that has a place whole
  pub record SharedAt (s : Side) (w : Scalar) (b q : ℕ) : Type 0 where
    pub cell : Cell N
    pub at : cell_at k.model (cells_of s) b q k.cells ≡ Some cell
    pub exact : is_exact k.model w q cell ≡ true
    pub shared : cell.side ≡ cell_side.Shared

  shared_by : (s : Side) (w : Scalar) (b q : ℕ) (c : Option (Cell N)) → cell_at k.model (cells_of s) b q k.cells ≡ c
      → is_shared_whole D k w (b, q) c ≡ true → SharedAt s w b q
  shared_by s w b q None at e = absurd (let z : false ≡ true = e in cc)
  shared_by s w b q (Some x) at e =
      let r = and_parts (is_exact k.model w q x) (is_same_side x.side cell_side.Shared) e in
      record {
        cell = x;
        at = at;
        exact = r.0;
        shared = side_back x.side cell_side.Shared
            (eqb-true (side_number x.side) (side_number cell_side.Shared) r.1);
      }

  pub shared_there : (s : Side) (w : Scalar) (o : ℕ) (p : Spot) (ps : List Spot) → IsOne p ps
      → are_shared_whole D k (cells_of s) w (moved_spots o ps) ≡ true → SharedAt s w p.0 (p.1 + o)
  shared_there s w o p _ (here qs) e =
      let c = cell_at k.model (cells_of s) p.0 (p.1 + o) k.cells in
      shared_by s w p.0 (p.1 + o) c refl
      (and_parts (is_shared_whole D k w (p.0, p.1 + o) c) (are_shared_whole D k (cells_of s) w (moved_spots o qs)) e).0
  shared_there s w o p _ (there q qs one) e =
      let c = cell_at k.model (cells_of s) q.0 (q.1 + o) k.cells in
      shared_there s w o p qs one
      (and_parts (is_shared_whole D k w (q.0, q.1 + o) c) (are_shared_whole D k (cells_of s) w (moved_spots o qs)) e).1

  -- there is one such cell
  one_cell : (w : Scalar) (b q : ℕ) (x : SharedAt left w b q) (y : SharedAt right w b q) → x.cell ≡ y.cell
  one_cell w b q x y = by_test (is_same_cell y.cell x.cell) refl
    where
      by_test : (t : Bool) → is_same_cell y.cell x.cell ≡ t → x.cell ≡ y.cell
      by_test true e =
          let c = covering k.model cell_side.Left b q k.cells x.cell x.at in
          let d = covering k.model cell_side.Right b q k.cells y.cell y.at in
          sym (only_one k.model y.cell x.cell k.cells i.cells.pairs d.is_in c.is_in (alike_same y.cell x.cell e))
      by_test false e =
          let c = covering k.model cell_side.Left b q k.cells x.cell x.at in
          let d = covering k.model cell_side.Right b q k.cells y.cell y.at in
          let far = others_apart k.model x.cell y.cell k.cells i.cells.pairs c.is_in d.is_in e in
          let share : share_memory x.cell.side y.cell.side ≡ true
          = ap (λ (z : CellSide). share_memory z y.cell.side) x.shared
          ∙ ap (λ (z : CellSide). share_memory cell_side.Shared z) y.shared in
          let near : touches (place_of k.model x.cell) (place_of k.model y.cell) ≡ true
          = and_from (nat_eq x.cell.block y.cell.block)
          (nat_lt x.cell.offset (y.cell.offset + size_of k.model y.cell.what)
          && nat_lt y.cell.offset (x.cell.offset + size_of k.model x.cell.what))
          (eq-eqb x.cell.block y.cell.block (c.in_block ∙ sym d.in_block))
          (and_from (nat_lt x.cell.offset (y.cell.offset + size_of k.model y.cell.what))
          (nat_lt y.cell.offset (x.cell.offset + size_of k.model x.cell.what))
          (lt-ltb x.cell.offset (y.cell.offset + size_of k.model y.cell.what)
          (low_end x.cell.offset y.cell.offset q (size_of k.model y.cell.what) c.low d.high))
          (lt-ltb y.cell.offset (x.cell.offset + size_of k.model x.cell.what)
          (low_end y.cell.offset x.cell.offset q (size_of k.model x.cell.what) d.low c.high))) in
          absurd (both_ways (meets (place_of k.model x.cell) (place_of k.model y.cell)) far
          (and_from (share_memory x.cell.side y.cell.side)
          (touches (place_of k.model x.cell) (place_of k.model y.cell)) share near))

  -- the one cell, for both sides
  pub record BothAt (w : Scalar) (b q : ℕ) : Type 0 where
    pub cell : Cell N
    pub at_left : cell_at k.model cell_side.Left b q k.cells ≡ Some cell
    pub at_right : cell_at k.model cell_side.Right b q k.cells ≡ Some cell
    pub exact : is_exact k.model w q cell ≡ true
    pub says : Says D k.orders k.model m cell

  pub both_at : (w : Scalar) (b q : ℕ) → SharedAt left w b q → SharedAt right w b q → BothAt w b q
  both_at w b q x y = record {
    cell = x.cell;
    at_left = x.at;
    at_right = y.at ∙ ap Some (sym (one_cell w b q x y));
    exact = x.exact;
    says = i.holds.cells x.cell (covering k.model cell_side.Left b q k.cells x.cell x.at).is_in;
  }

  module _ (s : Side) (p : Spot) (n o : ℕ) where
    abbrev source_there : Memory
    source_there = broken k.model (memory_on s m) p.0 p.1 n

    further : (a j : ℕ) → a ≤ a + j
    further a j = omega arith

    within_it : (a j z : ℕ) → j + z ≤ n → a + j + z ≤ a + n
    within_it a j z l = omega (arith, l)

    -- a cell of the leaf's type
    pub whole_as : (w : Scalar) (x : Cell N) → cell_at k.model (cells_of s) p.0 (p.1 + o) k.cells ≡ Some x
        → x.offset ≡ p.1 + o → x.what ≡ w → o + size_of k.model w ≤ n → (says : Says D k.orders k.model m x)
        → SourceAs D laws.domain (order_on s k.orders) (size_of k.model w) w (whole_source D x) p.0 (p.1 + o)
        source_there says.datum
    whole_as w x at begins what hi says =
        let c = covering k.model (cells_of s) p.0 (p.1 + o) k.cells x at in
        let ord = order_on s k.orders in
        let h1 = stands_on D s k m x c.sides says in
        let h2 : HasBytes ord (memory_on s m) (size_of k.model w) w x.maybe x.block x.offset says.datum
        = subst (λ v. HasBytes ord (memory_on s m)
        (size_of k.model v) v x.maybe x.block x.offset says.datum) what h1 in
        let h3 : HasBytes ord (memory_on s m) (size_of k.model w) w x.maybe p.0 (p.1 + o) says.datum
        = subst (λ b. HasBytes ord (memory_on s m) (size_of k.model w) w x.maybe b (p.1 + o) says.datum) c.in_block
        (subst (λ j. HasBytes ord (memory_on s m) (size_of k.model w) w x.maybe x.block j says.datum) begins h2) in
        record {
          allowed = subst (λ v. Allows D v x.value x.maybe says.datum) what says.allowed;
          stands = value_there ord k.model (memory_on s m) p.0 p.1 n p.0 (p.1 + o) (further p.1 o) w x.maybe says.datum
              (within_it p.1 o (size_of k.model w) hi) h3;
          unset = λ e. (i.cells.each x c.is_in).fits.undefined e;
        }

    pub leaf_among : (w : Scalar) (ps : List Spot) → IsOne p ps
        → Among (option_map_or (whole_source D) (exact_at D k (cells_of s) w (p.0, p.1 + o)) (fragment_source D))
        (leaf_sources D k (cells_of s) w (moved_spots o ps))
    leaf_among w _ (here qs) = at_head (leaf_sources D k (cells_of s) w (moved_spots o qs))
    leaf_among w _ (there q qs one) =
        behind (option_map_or (whole_source D) (exact_at D k (cells_of s) w (q.0, q.1 + o)) (fragment_source D))
        (leaf_sources D k (cells_of s) w (moved_spots o qs)) (leaf_among w qs one)

    pub byte_among : (ps : List Spot) → IsOne p ps
        → Among (byte_source D k (cells_of s) (p.0, p.1 + o)
        (cell_at k.model (cells_of s) p.0 (p.1 + o) k.cells)) (byte_sources D k (cells_of s) (moved_spots o ps))
    byte_among _ (here qs) = at_head (byte_sources D k (cells_of s) (moved_spots o qs))
    byte_among _ (there q qs one) =
        behind (byte_source D k (cells_of s) (q.0, q.1 + o) (cell_at k.model (cells_of s) q.0 (q.1 + o) k.cells))
        (byte_sources D k (cells_of s) (moved_spots o qs)) (byte_among qs one)

    -- ---- a cell of one byte

    byte_by : (ord : Order) (mem : Memory) (x : Cell N) (t : IntType) (u : Option (Value N)) (v : Option Datum)
        → x.value ≡ u → bytes_of t ≡ bytes_of U8 → IsOfSort (Int t) u → (u ≡ None → x.maybe ≡ true)
        → Allows D (Int t) u x.maybe v → HasBytes ord mem (bytes_of t) (Int t) x.maybe p.0 (p.1 + o) v
        → SourceAs D laws.domain ord 1 (Int U8) (whole_read D (Int U8) x) p.0 (p.1 + o) mem (as_byte v)
    byte_by ord mem x t u None f e so un a h =
        let set = unset u un a in
        record {
          allowed = lacking D laws.domain (Int U8) (whole_read D (Int U8) x).value x.maybe set;
          stands = sized_has ord mem (Int t) x.maybe (bytes_of t) 1 p.0 (p.1 + o) None e h;
          unset = λ z. set;
        }
      where
        unset : (u : Option (Value N)) → (u ≡ None → x.maybe ≡ true) → Allows D (Int t) u x.maybe None
            → x.maybe ≡ true
        unset None un a = un refl
        unset (Some y) un a = a
    byte_by ord mem x t None (Some y) f e so un a h = absurd (let z : Some y ≡ None = a in cc)
    byte_by ord mem x t (Some (Ptr c)) (Some y) f e so un a h = absurd so
    byte_by ord mem x t (Some (Num c)) (Some null) f e so un a h = absurd a
    byte_by ord mem x t (Some (Num c)) (Some (pointer y z)) f e so un a h = absurd a
    byte_by ord mem x t (Some (Num c)) (Some (int z)) f e so un a h =
        let r = whole_read D (Int U8) x in
        let ev : r.value ≡ Some (Num (D.convert c U8)) = rw f refl in
        record {
          allowed = subst (λ u. Allows D (Int U8) u x.maybe (Some (int (wrapped U8 z)))) (sym ev)
              (wrapped_in_range U8 z, laws.domain.convert_holds c U8 z a.1);
          stands = converted_has ord mem t x.maybe p.0 (p.1 + o) z e h;
          unset = λ k. absurd (let y : Some (Num (D.convert c U8)) ≡ None = sym ev ∙ k in cc);
        }

    points_not : (t : IntType) (u : Option (Value N)) → IsOfSort (Int t) u → may_point D u ≡ false
    points_not t None so = refl
    points_not t (Some (Num c)) so = refl
    points_not t (Some (Ptr c)) so = absurd so

    read_as : (t : IntType) (x : Cell N) → cell_at k.model (cells_of s) p.0 (p.1 + o) k.cells ≡ Some x
        → is_exact k.model (Int U8) (p.1 + o) x ≡ true → IsOfSort (Int t) x.value
        → byte_source D k (cells_of s) (p.0, p.1 + o) (Some x) ≡ whole_read D (Int U8) x
    read_as t x at e so =
        ap (λ z. cond z (fragment_source D) (read D k (cells_of s) p.0 (p.1 + o) (Int U8))) (points_not t x.value so)
        ∙ (read_is D k (cells_of s) p.0 (p.1 + o) x at ∙ ap (λ z. cond z (whole_read D (Int U8) x)
        (integer_read D U8 (byte_of_cell D (order_of (cells_of s) k.orders) x (p.1 + o - x.offset) ∷ []))) e)

    pub byte_as : (x : Cell N) → cell_at k.model (cells_of s) p.0 (p.1 + o) k.cells ≡ Some x
        → is_exact k.model (Int U8) (p.1 + o) x ≡ true → o + 1 ≤ n → (says : Says D k.orders k.model m x)
        → SourceAs D laws.domain (order_on s k.orders) 1 (Int U8)
        (byte_source D k (cells_of s) (p.0, p.1 + o) (cell_at k.model (cells_of s) p.0 (p.1 + o) k.cells)) p.0
        (p.1 + o) source_there (as_byte says.datum)
    byte_as x at e hi says =
        let r = and_parts (nat_eq x.offset (p.1 + o))
        (nat_eq (size_of k.model x.what) (bytes_of U8) && is_same_sort x.what (Int U8)) e in
        let t = and_parts (nat_eq (size_of k.model x.what) (bytes_of U8)) (is_same_sort x.what (Int U8)) r.1 in
        by_what x.what refl t.1 (eqb-true (size_of k.model x.what) (bytes_of U8) t.0)
        (eqb-true x.offset (p.1 + o) r.0)
      where
        by_what : (w : Scalar) → x.what ≡ w → is_same_sort w (Int U8) ≡ true → size_of k.model w ≡ bytes_of U8
            → x.offset ≡ p.1 + o
            → SourceAs D laws.domain (order_on s k.orders) 1 (Int U8)
            (byte_source D k (cells_of s) (p.0, p.1 + o) (cell_at k.model (cells_of s) p.0 (p.1 + o) k.cells)) p.0
            (p.1 + o) source_there (as_byte says.datum)
        by_what Pointer f g z begins = absurd (let y : false ≡ true = g in cc)
        by_what (Int t) f g z begins =
            let w = whole_as (Int t) x at begins f (subst (λ y. o + y ≤ n) (sym z) hi) says in
            let c = covering k.model (cells_of s) p.0 (p.1 + o) k.cells x at in
            let cell = i.cells.each x c.is_in in
            let so = subst (λ v. IsOfSort v x.value) f cell.fits.sort in
            subst (λ y. SourceAs D laws.domain (order_on s k.orders) 1 (Int U8) y p.0 (p.1 + o) source_there
            (as_byte says.datum))
            (sym (ap (λ y. byte_source D k (cells_of s) (p.0, p.1 + o) y) at ∙ read_as t x at e so))
            (byte_by (order_on s k.orders) source_there x t x.value says.datum refl z so cell.fits.undefined w.allowed
            w.stands)
