-- The cells with which a program begins are cells in order, and say what the bytes of its memories are.
use Rattle.std.proofs.Common.{◌≡◌, ℕ, ◌+◌, ◌<◌, ◌≤◌, ℤ, pos, Bool, true, false, ◌&&◌, ◌||◌, nat_eq, nat_lt, nat_le}
use Rattle.ep_int.proofs.Basics.{size_positive}
use Rattle.ep_int.proofs.Arithmetic.{zero_in_range}
use Rattle.std.proofs.Common.{if◌then◌else◌, List, [], ◌∷◌, slice_get, Option, Some, None, IfSome, unwrap_or, refl}
use Rattle.std.proofs.Common.{sym, ap, ◌∙◌, subst, arith}
use Rattle.std.specs.List.{list_all, list_any}
use Rattle.std.proofs.lemmas.Bool.{and_left, and_right, and_parts, eqb-true, ne_eqb, false_from_ne_true, leb-true}
use Rattle.std.proofs.lemmas.Bool.{ltb-true}
use Rattle.ep_int.specs.declared.types.IntType.{IntType}
use Rattle.ep_int.specs.declared.types.IntType.TheVariants.{U8}
use Rattle.ep_int.specs.declared.types.Order.{Order}
use Rattle.ep_int.specs.declared.types.Scalar.{Scalar}
use Rattle.ep_int.specs.declared.types.Scalar.TheVariants.{Int, Pointer}
use Rattle.ep_int.specs.Arith.{is_in_range}
use Rattle.ep_int.specs.Types.{size_of, InRange}
use Rattle.ep_int.specs.Memory.{undefined, number, Value as Datum, int, null, bytes_of_value}
use Rattle.ep_int.proofs.Arithmetic.{in_range_from_true}
use Rattle.ep_layout.specs.declared.types.Leaf.{Leaf}
use Rattle.ep_layout.specs.Table as table
use Rattle.ep_domain.specs.Domain.{Ops}
use Rattle.ep_cells.specs.Kill.{AreLeavesIn, leaf_at, is_in_leaf}
use Rattle.ep_core.specs.Program.{Block, Init, Program}
use Rattle.ep_core.specs.Exec.{result_in}
use Rattle.ep_core.specs.Runs.{Side, is_global, is_result, blank, main_function, initial}
use Rattle.ep_core.specs.WellFormed.{is_leaf_at, init_fits, blocks_fit}
use Rattle.ep_transfers.specs.Ends.{value_in, main_result}
use Rattle.ep_transfers.proofs.Kills.{room}
use Rattle.ep_transfers.proofs.FirstBytes.{ArePlain, plain_if, zero_bytes, Meeting, is_one, before, behind}
use Rattle.ep_transfers.proofs.FirstBytes.{leaves_meet, outside_leaf, covers, AllOff, begun_off, Standing, here}
use Rattle.ep_transfers.proofs.FirstBytes.{beside, AllStand, byte_or, AreBytes, begun_at}

-- bytes before a place, and behind it
before_off : (o n q j : ℕ) → o + n ≤ q → (nat_le o (q + j) && nat_lt (q + j) (o + n)) ≡ false
before_off o n q j h =
    and_right (nat_le o (q + j)) (nat_lt (q + j) (o + n))
    (false_from_ne_true (nat_lt (q + j) (o + n))
    (λ e. absurd (let l = ltb-true (q + j) (o + n) e in omega (arith, l, h))))

behind_off : (o n q m j : ℕ) → q + m ≤ o → j < m → (nat_le o (q + j) && nat_lt (q + j) (o + n)) ≡ false
behind_off o n q m j h l =
    and_left (nat_le o (q + j)) (nat_lt (q + j) (o + n))
    (false_from_ne_true (nat_le o (q + j)) (λ e. absurd (let g = leb-true o (q + j) e in omega (arith, g, h, l))))

-- ---- first values

module _ (p : Program) where
  -- a first value stands at a leaf of a global block
  pub record InitAt (i : Init) : Type 0 where
    pub block : Block
    pub is : slice_get p.blocks i.block ≡ Some block
    pub global : block.global ≡ true
    pub leaf : list_any (is_leaf_at i.offset (Int i.t)) (table.leaves p.types block.ty) ≡ true
    pub range : InRange i.t i.value

  init_at : (i : Init) → init_fits p.types p.blocks i ≡ true → InitAt i
  init_at i h = by_block (slice_get p.blocks i.block) refl
    where
      by_block : (o : Option Block) → slice_get p.blocks i.block ≡ o → InitAt i
      by_block None q = absurd (let g : false ≡ true = (and_parts _ (is_in_range i.t i.value) (rw q at h)).0 in cc)
      by_block (Some x) q =
          let g = and_parts _ (is_in_range i.t i.value) (rw q at h) in
          let f = and_parts x.global (list_any (is_leaf_at i.offset (Int i.t)) (table.leaves p.types x.ty)) g.0 in
          record {
            block = x;
            is = q;
            global = f.0;
            leaf = f.1;
            range = in_range_from_true i.t i.value g.1;
          }

  module _ {N : Type 0} (D : Ops N) (o : Order) where
    pub all_off : (c q : ℕ) → ((i : Init) → InitAt i → covers D p o i c q ≡ false) → (is : List Init)
        → list_all (init_fits p.types p.blocks) is ≡ true → AllOff D p o is c q
    all_off c q h [] f = tt
    all_off c q h (i ∷ is) f =
        let g = and_parts (init_fits p.types p.blocks i) (list_all (init_fits p.types p.blocks) is) f in
        (h i (init_at i g.0), all_off c q h is g.1)

    all_stand : (b q : ℕ) (t : IntType) → ((i : Init) → InitAt i → Standing D p o b q t i) → (is : List Init)
        → list_all (init_fits p.types p.blocks) is ≡ true → AllStand D p o b q t is
    all_stand b q t h [] f = tt
    all_stand b q t h (i ∷ is) f =
        let g = and_parts (init_fits p.types p.blocks i) (list_all (init_fits p.types p.blocks) is) f in
        let a = init_at i g.0 in
        ((h i a, a.range), all_stand b q t h is g.1)

    pub blank_plain : ArePlain (blank p.blocks (result_in (main_function o p)))
    blank_plain b q =
        plain_if (is_global (slice_get p.blocks b) || is_result (result_in (main_function o p)) b) (number 0) undefined
        tt tt

    -- ---- at a leaf, and at a byte outside of all leaves, of a block that is global or main's result

    module _ (fit : blocks_fit p.types p.blocks ≡ true) (ord : Side → Order)
        (firsts : list_all (init_fits p.types p.blocks) p.init ≡ true) (b : ℕ) (x : Block)
        (at : slice_get p.blocks b ≡ Some x) (shown : (x.global || is_result (main_result D p) b) ≡ true) where
      abbrev leaves : List Leaf
      leaves = table.leaves p.types x.ty

      leaves_in : AreLeavesIn p.types.model 0 x.size leaves
      leaves_in = (room D p ord fit b (Some x) at).leaves

      leaf_of : (i : Init) (a : InitAt i) → nat_eq i.block b ≡ true
          → list_any (is_leaf_at i.offset (Int i.t)) leaves ≡ true
      leaf_of i a e =
          let same : Some a.block ≡ Some x =
          sym a.is ∙ ap (slice_get p.blocks) (eqb-true i.block b e) ∙ at in
          let q : a.block ≡ x = cc in
          subst (λ (y : Block). list_any (is_leaf_at i.offset (Int i.t)) (table.leaves p.types y.ty) ≡ true) q a.leaf

      zero_there : (q : ℕ) → blank p.blocks (result_in (main_function o p)) b q ≡ number 0
      zero_there q =
          ap (λ (y : Option Block). if is_global y || is_result (result_in (main_function o p)) b then number 0
          else undefined) at
          ∙ ap (λ (t : Bool). if t then number 0 else undefined) shown

      not_before : (i : Init) (q : ℕ) → i.offset + size_of p.types.model (Int i.t) ≤ q
          → (nat_eq i.block b && nat_eq i.offset q) ≡ false
      not_before i q h =
          and_right (nat_eq i.block b) (nat_eq i.offset q)
          (ne_eqb i.offset q (λ e. let s = size_positive p.types.model (Int i.t) in omega (arith, e, h, s)))

      not_behind : (i : Init) (q : ℕ) (w : Scalar) → q + size_of p.types.model w ≤ i.offset
          → (nat_eq i.block b && nat_eq i.offset q) ≡ false
      not_behind i q w h =
          and_right (nat_eq i.block b) (nat_eq i.offset q)
          (ne_eqb i.offset q (λ e. let s = size_positive p.types.model w in omega (arith, e, h, s)))

      same_type : (t u : IntType) → Int t ≡ Int u → t ≡ u
      same_type t u e = cc

      stands_by : (q : ℕ) (t : IntType) (i : Init) → nat_eq i.block b ≡ true
          → Meeting p.types.model i.offset i.t q (Int t) → Standing D p o b q t i
      stands_by q t i e (is_one f g) = here (eqb-true i.block b e) f (same_type i.t t g)
      stands_by q t i e (before h) =
          beside (not_before i q h)
          (λ j l. and_right (nat_eq i.block b) (nat_le i.offset (q + j)
          && nat_lt (q + j) (i.offset + size_of p.types.model (Int i.t)))
          (before_off i.offset (size_of p.types.model (Int i.t)) q j h))
      stands_by q t i e (behind h) =
          beside (not_behind i q (Int t) h)
          (λ j l. and_right (nat_eq i.block b) (nat_le i.offset (q + j)
          && nat_lt (q + j) (i.offset + size_of p.types.model (Int i.t)))
          (behind_off i.offset (size_of p.types.model (Int i.t)) q (size_of p.types.model (Int t)) j h l))

      stands : (q : ℕ) (t : IntType) → leaf_at leaves q ≡ Some (Int t) → (i : Init) → InitAt i
          → Standing D p o b q t i
      stands q t h i a = by_test (nat_eq i.block b) refl
        where
          by_test : (u : Bool) → nat_eq i.block b ≡ u → Standing D p o b q t i
          by_test true e =
              stands_by q t i e
              (leaves_meet p.types.model x.size i.offset i.t q (Int t) 0 leaves leaves_in h (leaf_of i a e))
          by_test false e =
              beside (and_left (nat_eq i.block b) (nat_eq i.offset q) e)
              (λ j l. and_left (nat_eq i.block b) (nat_le i.offset (q + j)
              && nat_lt (q + j) (i.offset + size_of p.types.model (Int i.t))) e)

      -- no first value stands at a pointer
      off_by : (q j : ℕ) → j < size_of p.types.model Pointer → (i : Init)
          → Meeting p.types.model i.offset i.t q Pointer
          → (nat_le i.offset (q + j) && nat_lt (q + j) (i.offset + size_of p.types.model (Int i.t))) ≡ false
      off_by q j l i (is_one f g) = absurd (let h : Int i.t ≡ Pointer = g in cc)
      off_by q j l i (before h) = before_off i.offset (size_of p.types.model (Int i.t)) q j h
      off_by q j l i (behind h) =
          behind_off i.offset (size_of p.types.model (Int i.t)) q (size_of p.types.model Pointer) j h l

      off_pointer : (q : ℕ) → leaf_at leaves q ≡ Some Pointer → (j : ℕ) → j < size_of p.types.model Pointer
          → (i : Init) → InitAt i → covers D p o i b (q + j) ≡ false
      off_pointer q h j l i a = by_test (nat_eq i.block b) refl
        where
          by_test : (u : Bool) → nat_eq i.block b ≡ u → covers D p o i b (q + j) ≡ false
          by_test true e =
              and_right (nat_eq i.block b) _
              (off_by q j l i
              (leaves_meet p.types.model x.size i.offset i.t q Pointer 0 leaves leaves_in h (leaf_of i a e)))
          by_test false e = and_left (nat_eq i.block b) _ e

      -- nor at a byte outside of all leaves
      off_byte : (q : ℕ) → is_in_leaf p.types.model leaves q ≡ false → (i : Init) → InitAt i
          → covers D p o i b q ≡ false
      off_byte q h i a = by_test (nat_eq i.block b) refl
        where
          by_test : (u : Bool) → nat_eq i.block b ≡ u → covers D p o i b q ≡ false
          by_test true e =
              and_right (nat_eq i.block b) _ (outside_leaf p.types.model i.offset i.t q leaves h (leaf_of i a e))
          by_test false e = and_left (nat_eq i.block b) _ e

      -- ---- its bytes

      abbrev pub first_datum : ℕ → Scalar → Datum
      first_datum q (Int t) = int (unwrap_or (value_in D p p.init b q) (pos 0))
      first_datum q Pointer = null

      number_bytes : (q : ℕ) (t : IntType) → leaf_at leaves q ≡ Some (Int t)
          → AreBytes D p o b q t p.init (blank p.blocks (result_in (main_function o p)))
      number_bytes q t h = begun_at D p o b q t p.init (blank p.blocks (result_in (main_function o p))) blank_plain
          (all_stand b q t (stands q t h) p.init firsts)

      byte_of_value : (q : ℕ) (t : IntType) (u : Option ℤ) (j : ℕ)
          → byte_or D p o b q t u j (number 0) ≡ bytes_of_value o (Int t) (int (unwrap_or u (pos 0))) j
      byte_of_value q t None j = ap number (sym (zero_bytes o t j))
      byte_of_value q t (Some v) j = refl

      pub leaf_bytes : (q : ℕ) (w : Scalar) → leaf_at leaves q ≡ Some w → (j : ℕ) → j < size_of p.types.model w
          → initial o p b (q + j) ≡ bytes_of_value o w (first_datum q w) j
      leaf_bytes q (Int t) h j l =
          (number_bytes q t h).bytes j l
          ∙ ap (byte_or D p o b q t (value_in D p p.init b q) j) (zero_there (q + j))
          ∙ byte_of_value q t (value_in D p p.init b q) j
      leaf_bytes q Pointer h j l =
          begun_off D p o p.init (blank p.blocks (result_in (main_function o p))) blank_plain b (q + j)
          (all_off b (q + j) (off_pointer q h j l) p.init firsts)
          ∙ zero_there (q + j)

      pub leaf_range : (q : ℕ) (t : IntType) → leaf_at leaves q ≡ Some (Int t)
          → InRange t (unwrap_or (value_in D p p.init b q) (pos 0))
      leaf_range q t h = by_value (value_in D p p.init b q) (number_bytes q t h).range
        where
          by_value : (u : Option ℤ) → IfSome u (InRange t) → InRange t (unwrap_or u (pos 0))
          by_value None r = zero_in_range t
          by_value (Some v) r = r

      pub outer_byte : (q : ℕ) → is_in_leaf p.types.model leaves q ≡ false → (j : ℕ) → j < 1
          → initial o p b (q + j) ≡ bytes_of_value o (Int U8) (int (pos 0)) j
      outer_byte q h j l =
          let same : q ≡ q + j = omega (arith, l) in
          begun_off D p o p.init (blank p.blocks (result_in (main_function o p))) blank_plain b (q + j)
          (all_off b (q + j) (off_byte (q + j) (subst (λ z. is_in_leaf p.types.model leaves z ≡ false) same h)) p.init
          firsts)
          ∙ zero_there (q + j) ∙ ap number (sym (zero_bytes o U8 j))
