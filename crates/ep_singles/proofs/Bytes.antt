-- A byte that a machine finds defined is read as one number, or is a part of a pointer that a cell has.
use Rattle.std.proofs.Common.{◌≡◌, ℕ, ◌+◌, ◌-◌, ◌<◌, ◌≤◌, ℤ, pos, Bool, true, false, Option, Some, None, refl, sym}
use Rattle.std.proofs.Common.{◌∙◌, ap, subst, arith}
use Rattle.std.specs.Option.{option_map}
use Rattle.std.proofs.lemmas.Int.{ints}
use Rattle.ep_int.specs.declared.types.Order.{Order}
use Rattle.ep_int.specs.declared.types.Model.{Model}
use Rattle.ep_int.specs.declared.types.Scalar.{Scalar}
use Rattle.ep_int.specs.declared.types.Scalar.TheVariants.{Int, Pointer}
use Rattle.ep_int.specs.Types.{bytes_of, size_of, InRange}
use Rattle.ep_int.specs.Memory.{Byte, undefined, fragment, Memory, Value as Datum, int, null, pointer, is_undefined}
use Rattle.ep_int.proofs.Places.{width_of, place_below}
use Rattle.ep_bitslice.specs.declared.cell.Side.{Side}
use Rattle.ep_range_laws.specs.Ranges.{LiesIn}
use Rattle.ep_domain.specs.Domain.{Ops, Holds, IsSingle, Lawful}
use Rattle.ep_pointers.specs.Value.{Pointers, null_alone, one_target, only_null, only_place}
use Rattle.ep_cells.specs.declared.cell.Cell.{Cell}
use Rattle.ep_cells.specs.declared.cell.Value.{Value}
use Rattle.ep_cells.specs.declared.cell.Value.TheVariants.{Num, Ptr}
use Rattle.ep_cells.specs.Look.{cell_at}
use Rattle.ep_cells.specs.States.{Known, IsOfSort}
use Rattle.ep_cells.specs.Meaning.{Memories, Allows, HasBytes, Says}
use Rattle.ep_reads.specs.declared.read.ReadValue.{ReadValue}
use Rattle.ep_reads.specs.Bytes.{order_on, byte_of_value, pointer_byte, byte_at}
use Rattle.ep_reads.specs.Read.{byte_read, byte_there}
use Rattle.ep_reads.specs.Laws.{memory_on}
use Rattle.ep_reads.proofs.Numbers.{small_number}
use Rattle.ep_reads.proofs.Found.{Covering, covering, stands_there}
use Rattle.ep_singles.specs.Cells.{IsOneValue, one_number, one_pointer, IsOneCell, no_value, one_value}
use Rattle.ep_singles.specs.Cells.{IsEmptyOutside, IsOne}
use Rattle.ep_singles.proofs.Sums.{byte_single}

-- the number that a single value holds
pub held_single : {N : Type 0} (D : Ops N) → Lawful D → (n : N) (x z : ℤ) → IsSingle D n x → Holds D n z → z ≡ x
held_single D law n x z e h = at_ends (D.range n) e (law.range_encloses n z h)
  where
    at_ends : (r : ℤ × ℤ) → r ≡ (x, x) → LiesIn r z → z ≡ x
    at_ends r i l =
        let a : r.0 ≡ x = ap (λ (y : ℤ × ℤ). y.0) i in
        let b : r.1 ≡ x = ap (λ (y : ℤ × ℤ). y.1) i in omega (arith, ints, a, b, l.low, l.high)

module _ {N : Type 0} (D : Ops N) where
  -- it is read without a doubt as a single number
  pub record IsOneNumber (r : ReadValue N) : Type 0 where
    pub sure : r.maybe ≡ false
    pub unmixed : r.mixed ≡ false
    pub one : N
    pub reads : r.value ≡ Some (Num one)
    pub at : ℤ
    pub single : IsSingle D one at

  -- what byte j of a cell of such a type is read as
  pub data IsOneByte (w : Scalar) (r : ReadValue N) (y : Byte) (j : ℕ) : Type 0 where
    a_number : IsOneNumber r → IsOneByte w r y j
    a_part : w ≡ Pointer → (c q : ℕ) → y ≡ fragment c q j → IsOneByte w r y j

  module _ (law : Lawful D) where
    not_undefined : (A : Type 0) (y : Byte) → y ≡ undefined → is_undefined y ≡ false → A
    not_undefined A y e h = absurd (let d : true ≡ false = sym (ap is_undefined e) ∙ h in cc)

    not_maybe : (A : Type 0) (b : Bool) → b ≡ true → b ≡ false → A
    not_maybe A b e h = absurd (let d : true ≡ false = sym e ∙ h in cc)

    pub in_range : {t : _} (n : N) (z : ℤ) (maybe : Bool) (v : Option Datum) → maybe ≡ false → IsSingle D n z
        → Allows D (Int t) (Some (Num n)) maybe v → InRange t z
    in_range n z maybe None s e a = not_maybe _ maybe a s
    in_range {t = t} n z maybe (Some (int x)) s e a = subst (InRange t) (held_single D law n z x e a.1) a.0
    in_range n z maybe (Some null) s e a = absurd a
    in_range n z maybe (Some (pointer c q)) s e a = absurd a

    -- a part of a pointer
    part : (o : Order) (m : Memory) (d : Model) (c : ℕ) (n : N) (maybe : Bool) (b q j : ℕ) (r : ReadValue N)
        (v : Option Datum) → maybe ≡ false → j < size_of d Pointer
        → Allows D Pointer (Some (Ptr (one_target c n))) maybe v
        → HasBytes o m (size_of d Pointer) Pointer maybe b q v → IsOneByte Pointer r (m b (q + j)) j
    part o m d c n maybe b q j r None s l a h = not_maybe _ maybe a s
    part o m d c n maybe b q j r (Some (int x)) s l a h = absurd a
    part o m d c n maybe b q j r (Some null) s l a h = absurd (let e : false ≡ true = a in cc)
    part o m d c n maybe b q j r (Some (pointer i p)) s l a h =
        a_part refl i p
        (subst (λ t. HasBytes o m (size_of d Pointer) Pointer t b q (Some (pointer i p))) s h j l)

    nulls : (o : Order) (x : Cell N) (w : Scalar) (y : Byte) (j : ℕ) (p : Pointers N) → x.maybe ≡ false
        → p ≡ null_alone → IsOneByte w (pointer_byte D x.maybe p) y j
    nulls o x w y j p s e =
        subst (λ i. IsOneByte w (pointer_byte D x.maybe i) y j) (sym e)
        (a_number (record {
          sure = s;
          unmixed = refl;
          one = D.single (pos 0);
          reads = refl;
          at = pos 0;
          single = law.single_range (pos 0) (small_number 0 (omega arith));
        }))

    pub none_there : (A : Type 0) (o : Order) (m : Memory) (n : ℕ) (w : Scalar) (maybe : Bool) (b q j : ℕ)
        (v : Option Datum)
        → v ≡ None → j < n → HasBytes o m n w maybe b q v → is_undefined (m b (q + j)) ≡ false → A
    none_there A o m n w maybe b q j v e l h u =
        not_undefined A (m b (q + j)) (subst (λ z. HasBytes o m n w maybe b q z) e h j l) u

    of_value : (o : Order) (m : Memory) (d : Model) (x : Cell N) (w : Scalar) (value : Option (Value N)) (b q j : ℕ)
        (v : Option Datum) → x.maybe ≡ false → IsOneValue D value → IsOfSort w value → j < size_of d w
        → Allows D w value x.maybe v → HasBytes o m (size_of d w) w x.maybe b q v
        → IsOneByte w (byte_of_value D o x w value j) (m b (q + j)) j
    of_value o m d x (Int t) None b q j v s i f l a h = elim i [ ]
    of_value o m d x Pointer None b q j v s i f l a h = elim i [ ]
    of_value o m d x (Int t) (Some (Num n)) b q j v s (one_number _ z e) f l a h =
        let g = byte_single D law t (byte_at o t j) n z (place_below o (bytes_of t) j (width_of t) l)
        (in_range {t = t} n z x.maybe v s e a) e in
        a_number (record {
          sure = s;
          unmixed = refl;
          one = g.one;
          reads = ap (option_map Num) g.is;
          at = _;
          single = g.holds;
        })
    of_value o m d x (Int t) (Some (Ptr p)) b q j v s (one_pointer _ e) f l a h = absurd f
    of_value o m d x Pointer (Some (Num n)) b q j v s (one_number _ z e) f l a h = absurd f
    of_value o m d x Pointer (Some (Ptr p)) b q j v s (one_pointer _ (only_null e)) f l a h =
        nulls o x Pointer (m b (q + j)) j p s e
    of_value o m d x Pointer (Some (Ptr p)) b q j v s (one_pointer _ (only_place c n z e i)) f l a h =
        part o m d c n x.maybe b q j (pointer_byte D x.maybe p) v s l
        (subst (λ p. Allows D Pointer (Some (Ptr p)) x.maybe v) e a) h

    -- ---- at a place

    -- what the byte at offset p is read as
    pub data IsReadThere (r : ReadValue N) (y : Byte) (p : ℕ) (o : Option (Cell N)) : Type 0 where
      there_number : IsOneNumber r → IsReadThere r y p o
      there_part : (x : Cell N) → o ≡ Some x → x.what ≡ Pointer → x.offset ≤ p → (c q : ℕ)
          → y ≡ fragment c q (p - x.offset) → IsReadThere r y p o

    as_there : (x : Cell N) (r : ReadValue N) (y : Byte) (p : ℕ) → x.offset ≤ p
        → IsOneByte x.what r y (p - x.offset) → IsReadThere r y p (Some x)
    as_there x r y p l (a_number h) = there_number h
    as_there x r y p l (a_part e c q i) = there_part x refl e l c q i

    module _ (k : Known N) (m : Memories) (one : IsOne D k m) (s : Side)
        (outside : IsEmptyOutside D s k (memory_on s m)) where
      by_cell : (b p : ℕ) (o : Option (Cell N)) → cell_at k.model s b p k.cells ≡ o
          → is_undefined (memory_on s m b p) ≡ false
          → IsReadThere (byte_read D (order_on s k.orders) p o) (memory_on s m b p) p o
      by_cell b p None e u = not_undefined _ (memory_on s m b p) (outside b p e) u
      by_cell b p (Some x) e u = of_cell (one.each x (covering k.model s b p k.cells x e).is_in)
        where
          c : Covering k.model s b p k.cells x
          c = covering k.model s b p k.cells x e

          R : ReadValue N
          R = byte_read D (order_on s k.orders) p (Some x)

          says : Says D k.orders k.model m x
          says = one.holds.cells x (covering k.model s b p k.cells x e).is_in

          stands : (z : Says D k.orders k.model m x)
              → HasBytes (order_on s k.orders) (memory_on s m) (size_of k.model x.what) x.what x.maybe x.block x.offset
              z.datum
          stands z = stands_there D k m s x (covering k.model s b p k.cells x e).sides z

          at : x.offset + (p - x.offset) ≡ p
          at = omega (arith, (covering k.model s b p k.cells x e).low)

          within : p - x.offset < size_of k.model x.what
          within =
              omega
              (arith, (covering k.model s b p k.cells x e).low, (covering k.model s b p k.cells x e).high)

          same : memory_on s m x.block (x.offset + (p - x.offset)) ≡ memory_on s m b p
          same =
              ap (λ i. memory_on s m x.block i) at
              ∙ ap (λ i. memory_on s m i p) (covering k.model s b p k.cells x e).in_block

          of_cell : IsOneCell D x → IsReadThere R (memory_on s m b p) p (Some x)
          of_cell (no_value n) =
              none_there _ (order_on s k.orders) (memory_on s m)
              (size_of k.model x.what) x.what x.maybe x.block x.offset
              (p - x.offset) says.datum
              (subst (λ z. Allows D x.what z x.maybe says.datum) n says.allowed) within (stands says)
              (ap is_undefined same ∙ u)
          of_cell (one_value t v) =
              as_there x R (memory_on s m b p) p c.low
              (subst (λ y. IsOneByte x.what R y (p - x.offset)) same
              (of_value (order_on s k.orders) (memory_on s m) k.model x x.what x.value x.block x.offset (p - x.offset)
              says.datum t v (one.cells.each x c.is_in).fits.sort within says.allowed (stands says)))

      pub read_there : (b p : ℕ) → is_undefined (memory_on s m b p) ≡ false
          → IsReadThere (byte_there D k s b p) (memory_on s m b p) p (cell_at k.model s b p k.cells)
      read_there b p u = by_cell b p (cell_at k.model s b p k.cells) refl u
