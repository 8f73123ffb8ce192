-- The cells that globals and main's result begin with: undefined ones that get the numbers of their places.
use Rattle.std.proofs.Common.{◌≡◌, ℕ, zero, suc, ◌+◌, ℤ, pos, Bool, true, false, ◌&&◌, ◌||◌, nat_eq, nat_lt, nat_le}
use Rattle.ep_int.proofs.Basics.{size_positive}
use Rattle.ep_int.proofs.Arithmetic.{zero_in_range}
use Rattle.std.proofs.Common.{List, [], ◌∷◌, ◌++◌, map, slice_get, Option, Some, None, unwrap_or, refl, sym, ap, ◌∙◌}
use Rattle.std.proofs.Common.{subst, arith}
use Rattle.std.specs.List.{list_any}
use Rattle.std.proofs.lemmas.Bool.{and_left, and_right, and_parts, and_from, both_ways, false_from_ne_true, eqb-true}
use Rattle.std.proofs.lemmas.Bool.{le-leb, lt-ltb}
use Rattle.ep_int.specs.declared.types.IntType.TheVariants.{U8}
use Rattle.ep_int.specs.declared.types.Order.{Order}
use Rattle.ep_int.specs.declared.types.Order.TheVariants.{Little}
use Rattle.ep_int.specs.declared.types.Scalar.{Scalar}
use Rattle.ep_int.specs.declared.types.Scalar.TheVariants.{Int, Pointer}
use Rattle.ep_int.specs.Types.{size_of}
use Rattle.ep_layout.specs.declared.types.Leaf.{Leaf}
use Rattle.ep_layout.specs.Table as table
use Rattle.ep_bitslice.specs.declared.cell.Side.TheVariants.{Shared}
use Rattle.ep_domain.specs.Domain.{Ops}
use Rattle.ep_cells.specs.declared.cell.Cell.{Cell}
use Rattle.ep_cells.specs.Kill.{AreLeavesIn, undefined_cell, leaf_at, is_in_leaf, cell_here, cells_from}
use Rattle.ep_cells.specs.States.{Each}
use Rattle.ep_core.specs.Program.{Block, Init, Program}
use Rattle.ep_core.specs.Runs.{Side, is_result}
use Rattle.ep_core.specs.WellFormed.{is_leaf_at, is_well_formed}
use Rattle.ep_core.proofs.Operands.{sizes, first_values_fit}
use Rattle.ep_transfers.specs.Ends.{value_in, first_cell, zero_byte, first_here, first_from, main_result}
use Rattle.ep_transfers.proofs.Kills.{room}
use Rattle.ep_transfers.proofs.FirstBytes.{outside_leaf, covers, AllOff}
use Rattle.ep_transfers.proofs.FirstCells.{InitAt, all_off, leaf_range}
use Rattle.ep_transfer_entry.specs.First.{IsOfType, cell_with}
use Rattle.ep_transfer_entry.proofs.Lookups.{value_more}

module _ {N : Type 0} (D : Ops N) (p : Program) where
  abbrev pub number_at : (block offset : ℕ) → ℤ
  number_at b q = unwrap_or (value_in D p p.init b q) (pos 0)

  -- what an undefined cell becomes
  abbrev pub begun : Cell N → Cell N
  begun c = cell_with D (number_at c.block c.offset) c.block c.offset c.what

  abbrev pub HasNumber : Cell N → Type 0
  HasNumber c = IsOfType c.what (number_at c.block c.offset)

  begun_is : (b q : ℕ) (w : Scalar) → begun (undefined_cell Shared b q w) ≡ first_cell D p b q w
  begun_is b q (Int t) = refl
  begun_is b q Pointer = refl

  module _ (formed : is_well_formed p ≡ true) (b : ℕ) (x : Block) (at : slice_get p.blocks b ≡ Some x)
      (begins : (x.global || is_result (main_result D p) b) ≡ true) where
    abbrev order : Side → Order
    order s = Little

    abbrev leaves : List Leaf
    leaves = table.leaves p.types x.ty

    pub leaves_in : AreLeavesIn p.types.model 0 x.size leaves
    leaves_in = (room D p order (sizes p formed) b (Some x) at).leaves

    -- ---- no first value stands at a byte outside of all leaves

    leaf_of : (i : Init) (a : InitAt p i) → nat_eq i.block b ≡ true
        → list_any (is_leaf_at i.offset (Int i.t)) leaves ≡ true
    leaf_of i a e =
        let same : Some a.block ≡ Some x =
        sym a.is ∙ ap (slice_get p.blocks) (eqb-true i.block b e) ∙ at in
        let q : a.block ≡ x = cc in
        subst (λ (y : Block). list_any (is_leaf_at i.offset (Int i.t)) (table.leaves p.types y.ty) ≡ true) q a.leaf

    off_byte : (q : ℕ) → is_in_leaf p.types.model leaves q ≡ false → (i : Init) → InitAt p i
        → covers D p Little i b q ≡ false
    off_byte q h i a = by_test (nat_eq i.block b) refl
      where
        by_test : (u : Bool) → nat_eq i.block b ≡ u → covers D p Little i b q ≡ false
        by_test true e =
            and_right (nat_eq i.block b) _ (outside_leaf p.types.model i.offset i.t q leaves h (leaf_of i a e))
        by_test false e = and_left (nat_eq i.block b) _ e

    elsewhere : (q : ℕ) (i : Init) → covers D p Little i b q ≡ false
        → (nat_eq i.block b && nat_eq i.offset q) ≡ false
    elsewhere q i h =
        false_from_ne_true (nat_eq i.block b && nat_eq i.offset q) (λ e.
        (let s = and_parts (nat_eq i.block b) (nat_eq i.offset q) e in
        let o = eqb-true i.offset q s.1 in
        let l = size_positive p.types.model (Int i.t) in
        let z = i.offset + size_of p.types.model (Int i.t) in
        both_ways (covers D p Little i b q) h
        (and_from (nat_eq i.block b) (nat_le i.offset q && nat_lt q z) s.0
        (and_from (nat_le i.offset q) (nat_lt q z) (le-leb i.offset q (omega (arith, o)))
        (lt-ltb q z (omega (arith, o, l)))))))

    none_of : (q : ℕ) (is : List Init) → AllOff D p Little is b q → value_in D p is b q ≡ None
    none_of q [] a = refl
    none_of q (i ∷ is) a = value_more D p b q i is None (none_of q is a.1) ∙ rw (elsewhere q i a.0) refl

    no_value : (q : ℕ) → is_in_leaf p.types.model leaves q ≡ false → value_in D p p.init b q ≡ None
    no_value q h = none_of q p.init (all_off p D Little b q (off_byte q h) p.init (first_values_fit p formed))

    -- ---- each undefined cell of the block has a number of its type

    has_leaf : (q : ℕ) (w : Scalar) → leaf_at leaves q ≡ Some w → IsOfType w (number_at b q)
    has_leaf q (Int t) h =
        leaf_range p D Little (sizes p formed) order (first_values_fit p formed) b x at begins q t h
    has_leaf q Pointer h = tt

    has_byte : (q : ℕ) → is_in_leaf p.types.model leaves q ≡ false → IsOfType (Int U8) (number_at b q)
    has_byte q h =
        subst (λ (u : Option ℤ). IsOfType (Int U8) (unwrap_or u (pos 0))) (sym (no_value q h)) (zero_in_range U8)

    have_here : (q : ℕ) (o : Option Scalar) (t : Bool) → leaf_at leaves q ≡ o → is_in_leaf p.types.model leaves q ≡ t
        → (cs : List (Cell N)) → Each HasNumber cs → Each HasNumber (cell_here Shared b q o t ++ cs)
    have_here q (Some w) t e f cs h = (has_leaf q w e, h)
    have_here q None true e f cs h = h
    have_here q None false e f cs h = (has_byte q f, h)

    pub have_numbers : (q n : ℕ) → Each HasNumber (cells_from p.types.model Shared b leaves q n)
    have_numbers q zero = tt
    have_numbers q (suc n) =
        have_here q (leaf_at leaves q) (is_in_leaf p.types.model leaves q) refl refl
        (cells_from p.types.model Shared b leaves (q + 1) n) (have_numbers (q + 1) n)

    -- ---- with these they are the first cells

    begun_byte : (q : ℕ) → is_in_leaf p.types.model leaves q ≡ false
        → begun (undefined_cell Shared b q (Int U8)) ≡ zero_byte D p b q
    begun_byte q h = ap (λ (u : Option ℤ). cell_with D (unwrap_or u (pos 0)) b q (Int U8)) (no_value q h)

    begun_here : (q : ℕ) (o : Option Scalar) (t : Bool) → leaf_at leaves q ≡ o → is_in_leaf p.types.model leaves q ≡ t
        → (us cs : List (Cell N)) → map begun us ≡ cs
        → map begun (cell_here Shared b q o t ++ us) ≡ first_here D p b q o t ++ cs
    begun_here q (Some w) t e f us cs h =
        ap (λ c. c ∷ map begun us) (begun_is b q w) ∙ ap (λ z. first_cell D p b q w ∷ z) h
    begun_here q None true e f us cs h = h
    begun_here q None false e f us cs h =
        ap (λ c. c ∷ map begun us) (begun_byte q f) ∙ ap (λ z. zero_byte D p b q ∷ z) h

    pub begun_from : (q n : ℕ)
        → map begun (cells_from p.types.model Shared b leaves q n) ≡ first_from D p b leaves q n
    begun_from q zero = refl
    begun_from q (suc n) =
        begun_here q (leaf_at leaves q) (is_in_leaf p.types.model leaves q) refl refl
        (cells_from p.types.model Shared b leaves (q + 1) n) (first_from D p b leaves (q + 1) n) (begun_from (q + 1) n)
