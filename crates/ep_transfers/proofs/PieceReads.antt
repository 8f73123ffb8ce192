-- What is read of each piece of an aggregate on one side allows the bytes that a machine copies.
use Rattle.std.proofs.Common.{◌≡◌, ℕ, ◌+◌, ◌-◌, ◌<◌, ◌≤◌, Bool, true, false, ◌&&◌, ◌||◌, nat_eq, cond, is_some, List}
use Rattle.ep_cell_ranges.proofs.Moved.{bytes_moved}
use Rattle.ep_transfers.proofs.Patches.{part_of, whole_of}
use Rattle.ep_cells.proofs.Entry.{leaf_by, leaf_inside, leaves_end}
use Rattle.std.proofs.Common.{[], ◌∷◌, Option, Some, None, refl, sym, ap, ◌∙◌, subst, arith}
use Rattle.std.specs.Option.{option_map_or}
use Rattle.std.proofs.lemmas.Bool.{and_parts, eqb-true}
use Rattle.ep_int.specs.declared.types.IntType.TheVariants.{U8}
use Rattle.ep_int.specs.declared.types.Order.{Order}
use Rattle.ep_int.specs.declared.types.Order.TheVariants.{Little, Big, SwappedWords}
use Rattle.ep_int.specs.declared.types.Scalar.{Scalar}
use Rattle.ep_int.specs.declared.types.Scalar.TheVariants.{Int, Pointer}
use Rattle.ep_int.specs.Types.{bytes_of, size_of}
use Rattle.ep_int.specs.Encoding.{place}
use Rattle.ep_int.specs.Memory.{Byte, number, Memory, broken}
use Rattle.ep_layout.specs.declared.types.Leaf.{Leaf}
use Rattle.ep_bitslice.specs.declared.cell.Side.{Side as CellSide}
use Rattle.ep_bitslice.specs.declared.cell.Side.TheVariants as cell_side
use Rattle.ep_domain.specs.Domain.{Ops}
use Rattle.ep_cells.specs.declared.cell.Cell.{Cell}
use Rattle.ep_cells.specs.Cells.{is_same_side, is_same_scalar}
use Rattle.ep_cells.specs.Kill.{leaf_at, AreLeavesIn}
use Rattle.ep_cells.specs.Look.{cell_at}
use Rattle.ep_cells.specs.States.{Known, IsOfSort}
use Rattle.ep_cells.specs.Meaning.{Memories, Allows, HasBytes, Says}
use Rattle.ep_cells.proofs.Both.{scalar_same}
use Rattle.ep_reads.specs.declared.read.ReadValue.{ReadValue}
use Rattle.ep_reads.specs.Bytes.{byte_of_cell}
use Rattle.ep_reads.specs.Bytes.{order_on as order_of}
use Rattle.ep_reads.specs.Read.{is_same_sort, is_exact, whole_read, byte_read, byte_there, integer_read, read_with}
use Rattle.ep_reads.specs.Read.{read}
use Rattle.ep_reads.proofs.Found.{covering, stands_there}
use Rattle.ep_core.specs.Runs.{Side, left, right}
use Rattle.ep_evaluation.specs.Given.{cells_of}
use Rattle.ep_evaluation.specs.Accesses.{joined_reads}
use Rattle.ep_evaluation.proofs.Spots.{Among, here as at_head, behind}
use Rattle.ep_cell_ranges.specs.Spots.{Spot}
use Rattle.ep_transfers.specs.Places.{Places, at_side, moved_spots}
use Rattle.ep_transfers.specs.Writes.{lacks}
use Rattle.ep_transfers.specs.Copies.{Piece, none, leaf, byte, exact_cell, exact_at, are_exact, is_in_whole}
use Rattle.ep_transfers.specs.Copies.{whole_source, fragment_source, may_point, byte_source, leaf_sources}
use Rattle.ep_transfers.specs.Copies.{byte_sources, some_maybe}
use Rattle.ep_transfers.specs.Laws.{CellLaws}
use Rattle.ep_transfers.proofs.Changes.{IsOne, here, there, IsKnown}
use Rattle.ep_transfers.proofs.Puts.{order_on, memory_on}
use Rattle.ep_transfers.proofs.Copied.{AreBelow, broken_below}
use Rattle.ep_transfers.proofs.PieceWrites.{bytes_as, piece_of, IfPiece}
use Rattle.ep_transfers.proofs.PieceWrites.{Says as SaysPiece}
use Rattle.ep_transfers.proofs.PieceEnds.{AllPieces}
use Rattle.ep_transfers.proofs.PieceSources.{FitsSource, AllFit, IsSource, joined_sort, joined_rising, are_joined}
use Rattle.ep_transfers.proofs.PieceMisses.{leaf_is}
use Rattle.ep_transfers.proofs.BrokenBytes.{value_there}
use Rattle.ep_transfers.proofs.OneByte.{fragment_is, alone_is, cell_byte_is, whole_byte_is}

pub order_is : (s : Side) (os : Order × Order) → order_of (cells_of s) os ≡ order_on s os
order_is left os = refl
order_is right os = refl

pub place_zero : (o : Order) → place o 1 0 ≡ 0
place_zero Little = refl
place_zero Big = refl
place_zero SwappedWords = refl

pub no_further : (q : ℕ) → q + 0 ≡ q
no_further q = omega arith

-- ---- leaves lie in the place

module _ {N : Type 0} (D : Ops N) where
  pub stands_on : (s : Side) (k : Known N) (m : Memories) (x : Cell N)
      → (is_same_side x.side (cells_of s) || is_same_side x.side cell_side.Shared) ≡ true
      → (says : Says D k.orders k.model m x)
      → HasBytes (order_on s k.orders) (memory_on s m) (size_of k.model x.what) x.what x.maybe x.block x.offset
      says.datum
  stands_on left k m x e says = stands_there D k m cell_side.Left x e says
  stands_on right k m x e says = stands_there D k m cell_side.Right x e says

  -- a read of one byte
  pub read_is : (k : Known N) (s : CellSide) (b q : ℕ) (x : Cell N) → cell_at k.model s b q k.cells ≡ Some x
      → read D k s b q (Int U8)
      ≡ cond (is_exact k.model (Int U8) q x) (whole_read D (Int U8) x)
      (integer_read D U8 (byte_of_cell D (order_of s k.orders) x (q - x.offset) ∷ []))
  read_is k s b q x e =
      let at : q + place (order_of s k.orders) 1 0 ≡ q
      = ap (λ z. q + z) (place_zero (order_of s k.orders)) ∙ no_further q in
      let there : byte_there D k s b (q + place (order_of s k.orders) 1 0)
      ≡ byte_of_cell D (order_of s k.orders) x (q - x.offset)
      = ap (λ z. byte_there D k s b z) at ∙ ap (λ z. byte_read D (order_of s k.orders) q z) e in
      ap (λ z. read_with D k s b q (Int U8) z) e
      ∙ ap (λ z. cond (is_exact k.model (Int U8) q x) (whole_read D (Int U8) x) (integer_read D U8 (z ∷ []))) there

  -- one of what is read is what a machine has there
  pub record OneSource (laws : CellLaws D) (o : Order) (size : ℕ) (w : Scalar) (rs : List (ReadValue N)) (b q : ℕ)
      (m : Memory) : Type 0
    where
      pub source : ReadValue N
      pub among : Among source rs
      pub is : IsSource D laws.domain o size w source b q m

  module _ (laws : CellLaws D) (s : Side) (k : Known N) (m : Memories) (i : IsKnown D k m) (p : Spot) (n : ℕ)
      (below : AreBelow (memory_on s m)) where
    abbrev o : Order
    o = order_on s k.orders

    abbrev pub source_memory : Memory
    source_memory = broken k.model (memory_on s m) p.0 p.1 n

    -- ---- a cell that goes as a whole

    whole_is : (w : Scalar) (q : Spot) (x : Cell N) → cell_at k.model (cells_of s) q.0 q.1 k.cells ≡ Some x
        → x.offset ≡ q.1 → x.what ≡ w → p.1 ≤ q.1 → q.1 + size_of k.model w ≤ p.1 + n
        → IsSource D laws.domain o (size_of k.model w) w (whole_source D x) q.0 q.1 source_memory
    whole_is w q x at begins what lo hi =
        let c = covering k.model (cells_of s) q.0 q.1 k.cells x at in
        let says = i.holds.cells x c.is_in in
        let h1 = stands_on s k m x c.sides says in
        let h2 : HasBytes o (memory_on s m) (size_of k.model w) w x.maybe x.block x.offset says.datum
        = subst (λ v. HasBytes o (memory_on s m) (size_of k.model v) v x.maybe x.block x.offset says.datum) what h1 in
        let h3 : HasBytes o (memory_on s m) (size_of k.model w) w x.maybe q.0 q.1 says.datum
        = subst (λ b. HasBytes o (memory_on s m) (size_of k.model w) w x.maybe b q.1 says.datum) c.in_block
        (subst (λ j. HasBytes o (memory_on s m) (size_of k.model w) w x.maybe x.block j says.datum) begins h2) in
        record {
          datum = says.datum;
          allowed = subst (λ v. Allows D v x.value x.maybe says.datum) what says.allowed;
          stands = value_there o k.model (memory_on s m) p.0 p.1 n q.0 q.1 lo w x.maybe says.datum hi h3;
          unset = λ e. (i.cells.each x c.is_in).fits.undefined e;
        }

    leaf_is_source : (w : Scalar) (q : Spot) → p.1 ≤ q.1 → q.1 + size_of k.model w ≤ p.1 + n
        → (c : Option (Cell N)) → cell_at k.model (cells_of s) q.0 q.1 k.cells ≡ c
        → is_some (exact_cell D w q.1 c) ≡ true
        → IsSource D laws.domain o (size_of k.model w) w
        (option_map_or (whole_source D) (exact_cell D w q.1 c) (fragment_source D)) q.0 q.1 source_memory
    leaf_is_source w q lo hi None at e = absurd (let z : false ≡ true = e in cc)
    leaf_is_source w q lo hi (Some x) at e = by_test (nat_eq x.offset q.1 && is_same_scalar x.what w) refl e
      where
        by_test : (t : Bool) → (nat_eq x.offset q.1 && is_same_scalar x.what w) ≡ t
            → is_some (cond t (Some x) None) ≡ true
            → IsSource D laws.domain o (size_of k.model w) w
            (option_map_or (whole_source D) (cond t (Some x) None) (fragment_source D)) q.0 q.1 source_memory
        by_test true f g =
            let r = and_parts (nat_eq x.offset q.1) (is_same_scalar x.what w) f in
            whole_is w q x at (eqb-true x.offset q.1 r.0) (scalar_same x.what w r.1) lo hi
        by_test false f g = absurd (let z : false ≡ true = g in cc)

    leaf_fits_by : (w : Scalar) (q : Spot) → (c : Option (Cell N))
        → cell_at k.model (cells_of s) q.0 q.1 k.cells ≡ c → is_some (exact_cell D w q.1 c) ≡ true
        → FitsSource D laws.domain w (option_map_or (whole_source D) (exact_cell D w q.1 c) (fragment_source D))
    leaf_fits_by w q None at e = absurd (let z : false ≡ true = e in cc)
    leaf_fits_by w q (Some x) at e = by_test (nat_eq x.offset q.1 && is_same_scalar x.what w) refl e
      where
        by_test : (t : Bool) → (nat_eq x.offset q.1 && is_same_scalar x.what w) ≡ t
            → is_some (cond t (Some x) None) ≡ true
            → FitsSource D laws.domain w (option_map_or (whole_source D) (cond t (Some x) None) (fragment_source D))
        by_test true f g =
            let r = and_parts (nat_eq x.offset q.1) (is_same_scalar x.what w) f in
            let c = covering k.model (cells_of s) q.0 q.1 k.cells x at in
            let cell = i.cells.each x c.is_in in
            let what = scalar_same x.what w r.1 in
            record {
              sort = subst (λ v. IsOfSort v x.value) what cell.fits.sort;
              rising = cell.rising;
            }
        by_test false f g = absurd (let z : false ≡ true = g in cc)

    pub leaf_fit : (w : Scalar) (j : ℕ) (ps : List Spot) → are_exact D k (cells_of s) j w ps ≡ true
        → AllFit D laws.domain w (leaf_sources D k (cells_of s) w (moved_spots j ps))
    leaf_fit w j [] e = tt
    leaf_fit w j (q ∷ qs) e =
        let r = and_parts (is_some (exact_at D k (cells_of s) w (q.0, q.1 + j))) (are_exact D k (cells_of s) j w qs) e
        in (
          leaf_fits_by w (q.0, q.1 + j) (cell_at k.model (cells_of s) q.0 (q.1 + j) k.cells) refl r.0,
          leaf_fit w j qs r.1,
        )

    pub further : (a j : ℕ) → a ≤ a + j
    further a j = omega arith

    pub within_it : (a j z : ℕ) → j + z ≤ n → a + j + z ≤ a + n
    within_it a j z l = omega (arith, l)

    pub leaf_one : (w : Scalar) (j : ℕ) (ps : List Spot) → IsOne p ps → are_exact D k (cells_of s) j w ps ≡ true
        → j + size_of k.model w ≤ n
        → OneSource laws o (size_of k.model w) w (leaf_sources D k (cells_of s) w (moved_spots j ps)) p.0 (p.1 + j)
        source_memory
    leaf_one w j _ (here qs) e l =
        let r = and_parts (is_some (exact_at D k (cells_of s) w (p.0, p.1 + j))) (are_exact D k (cells_of s) j w qs) e
        in
        record {
          source = option_map_or (whole_source D) (exact_at D k (cells_of s) w (p.0, p.1 + j)) (fragment_source D);
          among = at_head (leaf_sources D k (cells_of s) w (moved_spots j qs));
          is = leaf_is_source w (p.0, p.1 + j) (further p.1 j) (within_it p.1 j (size_of k.model w) l)
              (cell_at k.model (cells_of s) p.0 (p.1 + j) k.cells) refl r.0;
        }
    leaf_one w j _ (there q qs one) e l =
        let r = and_parts (is_some (exact_at D k (cells_of s) w (q.0, q.1 + j))) (are_exact D k (cells_of s) j w qs) e
        in
        let t = leaf_one w j qs one r.1 l in
        record {
          source = t.source;
          among = behind (option_map_or (whole_source D) (exact_at D k (cells_of s) w (q.0, q.1 + j))
              (fragment_source D)) (leaf_sources D k (cells_of s) w (moved_spots j qs)) t.among;
          is = t.is;
        }

    -- ---- a byte

    any_below : (b q v : ℕ) → source_memory b q ≡ number v → v < 256
    any_below b q v e = broken_below k.model (memory_on s m) p.0 p.1 n below b q v e

    exact_byte : (q : Spot) (x : Cell N) → cell_at k.model (cells_of s) q.0 q.1 k.cells ≡ Some x → p.1 ≤ q.1
        → q.1 + 1 ≤ p.1 + n → is_exact k.model (Int U8) q.1 x ≡ true
        → IsSource D laws.domain o 1 (Int U8) (whole_read D (Int U8) x) q.0 q.1 source_memory
    exact_byte q x at lo hi e =
        let r = and_parts (nat_eq x.offset q.1)
        (nat_eq (size_of k.model x.what) (bytes_of U8) && is_same_sort x.what (Int U8)) e in
        let t = and_parts (nat_eq (size_of k.model x.what) (bytes_of U8)) (is_same_sort x.what (Int U8)) r.1 in
        by_what x.what refl t.1 (eqb-true (size_of k.model x.what) (bytes_of U8) t.0) (eqb-true x.offset q.1 r.0)
      where
        by_what : (w : Scalar) → x.what ≡ w → is_same_sort w (Int U8) ≡ true → size_of k.model w ≡ bytes_of U8
            → x.offset ≡ q.1
            → IsSource D laws.domain o 1 (Int U8) (whole_read D (Int U8) x) q.0 q.1 source_memory
        by_what Pointer f g z begins = absurd (let y : false ≡ true = g in cc)
        by_what (Int t) f g z begins =
            let c = covering k.model (cells_of s) q.0 q.1 k.cells x at in
            let says = i.holds.cells x c.is_in in
            let cell = i.cells.each x c.is_in in
            let low : p.1 ≤ x.offset = subst (λ y. p.1 ≤ y) (sym begins) lo in
            let high : x.offset + size_of k.model (Int t) ≤ p.1 + n
            = subst (λ y. x.offset + y ≤ p.1 + n) (sym z) (subst (λ y. y + 1 ≤ p.1 + n) (sym begins) hi) in
            let h1 = subst (λ v. HasBytes o (memory_on s m) (size_of k.model v) v x.maybe x.block x.offset says.datum)
            f (stands_on s k m x c.sides says) in
            let h2 = value_there o k.model (memory_on s m) p.0 p.1 n x.block x.offset low
            (Int t) x.maybe says.datum high
            h1 in
            let is = whole_byte_is D laws.domain o source_memory x t says.datum f z
            (subst (λ v. IsOfSort v x.value) f cell.fits.sort) cell.fits.undefined
            (subst (λ v. Allows D v x.value x.maybe says.datum) f says.allowed) h2 in
            subst (λ b. IsSource D laws.domain o 1 (Int U8) (whole_read D (Int U8) x) b q.1 source_memory) c.in_block
            (subst (λ j. IsSource D laws.domain o 1 (Int U8) (whole_read D (Int U8) x) x.block j source_memory) begins
            is)

    part_byte : (q : Spot) (x : Cell N) → cell_at k.model (cells_of s) q.0 q.1 k.cells ≡ Some x
        → may_point D x.value ≡ false
        → IsSource D laws.domain o 1 (Int U8)
        (integer_read D U8 (byte_of_cell D (order_of (cells_of s) k.orders) x (q.1 - x.offset) ∷ [])) q.0 q.1
        source_memory
    part_byte q x at f =
        let c = covering k.model (cells_of s) q.0 q.1 k.cells x at in
        let says = i.holds.cells x c.is_in in
        let cell = i.cells.each x c.is_in in
        let j = q.1 - x.offset in
        let is = cell_byte_is D laws.domain k.model o (memory_on s m) p.0 p.1 n x j x.what x.value says.datum
        cell.fits.sort f says.allowed (stands_on s k m x c.sides says)
        (part_of x.offset q.1 (size_of k.model x.what) c.low c.high) in
        let there = subst (λ b. IsSource D laws.domain o 1 (Int U8) (byte_of_cell D o x j) b q.1 source_memory)
        c.in_block
        (subst (λ y. IsSource D laws.domain o 1 (Int U8) (byte_of_cell D o x j) x.block y source_memory)
        (whole_of x.offset q.1 c.low) is) in
        subst (λ y. IsSource D laws.domain o 1 (Int U8) (integer_read D U8 (byte_of_cell D y x j ∷ [])) q.0 q.1
        source_memory) (sym (order_is s k.orders))
        (alone_is D laws.domain o source_memory q.0 q.1 (byte_of_cell D o x j) there)

    byte_is_source : (q : Spot) → p.1 ≤ q.1 → q.1 + 1 ≤ p.1 + n → (c : Option (Cell N))
        → cell_at k.model (cells_of s) q.0 q.1 k.cells ≡ c
        → IsSource D laws.domain o 1 (Int U8) (byte_source D k (cells_of s) q c) q.0 q.1 source_memory
    byte_is_source q lo hi None at = fragment_is D laws.domain o source_memory q.0 q.1 (λ v e. any_below q.0 q.1 v e)
    byte_is_source q lo hi (Some x) at = by_test (may_point D x.value) refl
      where
        by_exact : (t : Bool) → is_exact k.model (Int U8) q.1 x ≡ t → may_point D x.value ≡ false
            → IsSource D laws.domain o 1 (Int U8)
            (cond t (whole_read D (Int U8) x)
            (integer_read D U8 (byte_of_cell D (order_of (cells_of s) k.orders) x (q.1 - x.offset) ∷ []))) q.0 q.1
            source_memory
        by_exact true e f = exact_byte q x at lo hi e
        by_exact false e f = part_byte q x at f

        by_test : (t : Bool) → may_point D x.value ≡ t
            → IsSource D laws.domain o 1 (Int U8)
            (cond t (fragment_source D) (read D k (cells_of s) q.0 q.1 (Int U8))) q.0 q.1 source_memory
        by_test true f = fragment_is D laws.domain o source_memory q.0 q.1 (λ v e. any_below q.0 q.1 v e)
        by_test false f =
            subst (λ r. IsSource D laws.domain o 1 (Int U8) r q.0 q.1 source_memory)
            (sym (read_is k (cells_of s) q.0 q.1 x at)) (by_exact (is_exact k.model (Int U8) q.1 x) refl f)

    byte_fits_by : (q : Spot) (c : Option (Cell N))
        → FitsSource D laws.domain (Int U8) (byte_source D k (cells_of s) q c)
    byte_fits_by q None = record { sort = tt; rising = tt }
    byte_fits_by q (Some x) = by_test (may_point D x.value)
      where
        by_test : (t : Bool)
            → FitsSource D laws.domain (Int U8)
            (cond t (fragment_source D) (read D k (cells_of s) q.0 q.1 (Int U8)))
        by_test true = record { sort = tt; rising = tt }
        by_test false =
            let r = laws.reads.fits k (cells_of s) q.0 q.1 (Int U8) i.cells in
            record { sort = r.sort; rising = r.rising }

    pub byte_fit : (j : ℕ) (ps : List Spot)
        → AllFit D laws.domain (Int U8) (byte_sources D k (cells_of s) (moved_spots j ps))
    byte_fit j [] = tt
    byte_fit j (q ∷ qs) = (
      byte_fits_by (q.0, q.1 + j) (cell_at k.model (cells_of s) q.0 (q.1 + j) k.cells),
      byte_fit j qs,
    )

    pub byte_one : (j : ℕ) (ps : List Spot) → IsOne p ps → j + 1 ≤ n
        → OneSource laws o 1 (Int U8) (byte_sources D k (cells_of s) (moved_spots j ps)) p.0 (p.1 + j) source_memory
    byte_one j _ (here qs) l = record {
      source = byte_source D k (cells_of s) (p.0, p.1 + j) (cell_at k.model (cells_of s) p.0 (p.1 + j) k.cells);
      among = at_head (byte_sources D k (cells_of s) (moved_spots j qs));
      is = byte_is_source (p.0, p.1 + j) (further p.1 j) (within_it p.1 j 1 l)
          (cell_at k.model (cells_of s) p.0 (p.1 + j) k.cells) refl;
    }
    byte_one j _ (there q qs one) l =
        let t = byte_one j qs one l in
        record {
          source = t.source;
          among = behind (byte_source D k (cells_of s) (q.0, q.1 + j)
              (cell_at k.model (cells_of s) q.0 (q.1 + j) k.cells)) (byte_sources D k (cells_of s) (moved_spots j qs))
              t.among;
          is = t.is;
        }

    -- ---- all pieces

    module _ (to from : Places) (leaves : List Leaf) (one : IsOne p (at_side from s))
        (apart : AreLeavesIn k.model 0 n leaves) where
      -- the bytes that the machine copies
      abbrev pub copied_bytes : ℕ → Byte
      copied_bytes t = source_memory p.0 (p.1 + t)

      pub further_on : (a b c : ℕ) → a + (b + c) ≡ a + b + c
      further_on a b c = omega arith

      piece_says : (j : ℕ) (w : Scalar) (rs : List (ReadValue N)) → AllFit D laws.domain w rs
          → OneSource laws o (size_of k.model w) w rs p.0 (p.1 + j) source_memory
          → SaysPiece D laws o k.model w (joined_reads D rs) (some_maybe D rs) j
          copied_bytes
      piece_says j w rs fit t =
          let a = are_joined D laws.domain o (size_of k.model w) w rs t.source p.0 (p.1 + j) source_memory fit t.among
          t.is in
          record {
            datum = a.datum;
            allowed = a.allowed;
            stands = bytes_moved o source_memory (bytes_as copied_bytes) (size_of k.model w) w
                (lacks (some_maybe D rs) (joined_reads D rs)) p.0 (p.1 + j) 0 j
                a.datum (λ y l. ap (λ z. source_memory p.0 z) (further_on p.1 j y)) a.stands;
          }

      pub leaf_exact : (j : ℕ) (w : Scalar) → piece_of D laws k to from leaves n s j ≡ leaf w
          → (leaf_at leaves j ≡ Some w) × (are_exact D k (cells_of s) j w (at_side from s) ≡ true)
      leaf_exact j w e =
          let l = leaf_is D
          (option_map_or (λ w. are_exact D k (cells_of s) j w (at_side from s)) (leaf_at leaves j) false)
          (is_in_whole D k (cells_of s) (at_side from s) j leaves) (leaf_at leaves j) w e in (
            l.there,
            sym (ap (λ (z : Option Scalar). option_map_or
                (λ w. are_exact D k (cells_of s) j w (at_side from s)) z false) l.there) ∙ l.whole,
          )

      one_inside : (j : ℕ) → j < n → j + 1 ≤ n
      one_inside j l = omega (arith, l)

      pub all_say : AllPieces D laws k to from leaves n s copied_bytes
      all_say j l = by_piece (piece_of D laws k to from leaves n s j) refl
        where
          by_piece : (c : Piece D) → piece_of D laws k to from leaves n s j ≡ c
              → IfPiece D laws k to from leaves n s copied_bytes j c
          by_piece none e = tt
          by_piece (leaf w) e =
              let x = leaf_exact j w e in
              let hi = leaf_inside k.model 0 n j leaves w apart x.0 in
              let rs = leaf_sources D k (cells_of s) w (moved_spots j (at_side from s)) in
              let fit = leaf_fit w j (at_side from s) x.1 in
              record {
                inside = hi;
                fits = record {
                  sort = joined_sort D laws.domain w rs fit;
                  rising = joined_rising D laws.domain w rs fit;
                };
                says = piece_says j w rs fit (leaf_one w j (at_side from s) one x.1 hi);
              }
          by_piece byte e =
              let hi = one_inside j l in
              let rs = byte_sources D k (cells_of s) (moved_spots j (at_side from s)) in
              let fit = byte_fit j (at_side from s) in
              record {
                inside = hi;
                fits = record {
                  sort = joined_sort D laws.domain (Int U8) rs fit;
                  rising = joined_rising D laws.domain (Int U8) rs fit;
                };
                says = piece_says j (Int U8) rs fit (byte_one j (at_side from s) one hi);
              }
