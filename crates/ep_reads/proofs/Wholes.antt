-- Reads of a whole cell, and values that stand in a memory.
use Rattle.std.proofs.Common.{◌≡◌, ℕ, ℤ, zero, suc, ◌+◌, ◌*◌, ◌%◌, ◌^◌, ◌<◌, ◌≤◌, zero-add, add-zero, Bool, true}
use Rattle.std.proofs.Common.{false, cond, IfSome, List, ◌∷◌, Option, Some, None, refl, sym, ◌∙◌, ap, subst, arith}
use Rattle.std.specs.Option.{option_map}
use Rattle.std.specs.List.{list_any}
use Rattle.std.proofs.Math.Nat.{zero-mod}
use Rattle.ep_int.specs.declared.types.IntType.{IntType}
use Rattle.ep_int.specs.declared.types.Order.{Order}
use Rattle.ep_int.specs.declared.types.Model.{Model}
use Rattle.ep_int.specs.declared.types.Scalar.{Scalar}
use Rattle.ep_int.specs.declared.types.Scalar.TheVariants.{Int, Pointer}
use Rattle.ep_int.specs.Types.{bytes_of, bits_of, size_of, pointer_bytes, residue, representation, wrapped}
use Rattle.ep_int.specs.Encoding.{place, byte_of, encoded}
use Rattle.ep_int.specs.Memory.{Memory, number, Value as Datum, int, null, pointer, Found, has, faults, uninitialised}
use Rattle.ep_int.specs.Memory.{bytes_from, is_undefined, value_of_bytes, loaded}
use Rattle.ep_int.proofs.Wrapping.{representation_below, representation_represented, wrapped_in_range}
use Rattle.ep_int.proofs.Memories.{loaded_inside, loaded_of, loaded_pointer_at, loaded_null_at}
use Rattle.ep_bitslice.specs.declared.cell.Side.{Side}
use Rattle.ep_bitslice.specs.declared.segment.Segment.{Segment}
use Rattle.ep_bitslice.specs.Segments.{width}
use Rattle.ep_domain.specs.Domain.{Ops, Lawful}
use Rattle.ep_cells.specs.declared.cell.Cell.{Cell}
use Rattle.ep_cells.specs.declared.cell.Value.{Value}
use Rattle.ep_cells.specs.declared.cell.Value.TheVariants.{Num, Ptr}
use Rattle.ep_cells.specs.States.{IsOfSort, HasRisingBlocks, HasWidth, IsFormOf}
use Rattle.ep_cells.specs.Meaning.{Memories, Allows, Has, HasBytes, StandsAt, numbers_of, name_of, HasNumber}
use Rattle.ep_cells.proofs.Bytes.{number_of_cell}
use Rattle.ep_reads.specs.Read.{is_same_sort, converted}
use Rattle.ep_reads.specs.Laws.{IsNumberOf, IsFormRead}
use Rattle.ep_reads.proofs.Bytes.{cell_of}

-- ---- values that stand are found

pub record IsFound (o : Order) (m : Memory) (w : Scalar) (b q n : ℕ) (v : Datum) : Type 0 where
  pub defined : list_any is_undefined (bytes_from m b q n) ≡ false
  pub found : value_of_bytes o w (bytes_from m b q n) ≡ has v

-- the bytes from q on are those of a memory that begins there
abbrev from_here : Memory → ℕ → Memory
from_here m q = λ c p. m c (q + p)

bytes_shifted : (m : Memory) (b q i n : ℕ) → bytes_from (from_here m q) b i n ≡ bytes_from m b (q + i) n
bytes_shifted m b q i zero = refl
bytes_shifted m b q i (suc n) =
    let e : q + (i + 1) ≡ q + i + 1 = omega arith in
    ap (λ xs. m b (q + i) ∷ xs) (bytes_shifted m b q (i + 1) n ∙ ap (λ k. bytes_from m b k n) e)

record IsDefined (t : Bool) (x : Found) (v : Datum) : Type 0 where
  defined : t ≡ false
  found : x ≡ has v

defined_by : (t : Bool) (x : Found) (v : Datum) → cond t (faults uninitialised) x ≡ has v → IsDefined t x v
defined_by true x v e = absurd (let f : faults uninitialised ≡ has v = e in cc)
defined_by false x v e = record { defined = refl; found = e }

found_by : (o : Order) (d : Model) (m : Memory) (w : Scalar) (b q : ℕ) (v : Datum)
    → loaded o d (size_of d w) (from_here m q) w b 0 ≡ has v → IsFound o m w b q (size_of d w) v
found_by o d m w b q v h =
    let n = size_of d w in
    let fits : 0 + size_of d w ≤ size_of d w = omega arith in
    let same : bytes_from (from_here m q) b 0 (size_of d w) ≡ bytes_from m b q (size_of d w) =
    bytes_shifted m b q 0 n ∙ ap (λ k. bytes_from m b k n) (add-zero q) in
    let is = loaded_inside o d n (from_here m q) w b 0 fits (zero-mod n) in
    let r = defined_by (list_any is_undefined (bytes_from (from_here m q) b 0 n)) (value_of_bytes o w (bytes_from
    (from_here m q) b 0 n)) v (sym is ∙ h) in
    record {
      defined = ap (list_any is_undefined) (sym same) ∙ r.defined;
      found = ap (value_of_bytes o w) (sym same) ∙ r.found;
    }

pub found_of : {N : Type 0} (D : Ops N) (d : Model) (o : Order) (m : Memory) (w : Scalar) (b q : ℕ) (v : Option (Value
    N)) (u : Datum) → Allows D w v false (Some u) → Has o m w b q (size_of d w) u → IsFound o m w b q (size_of d w) u
found_of D d o m (Int t) b q None u a h = absurd (let e : Some u ≡ None = a in cc)
found_of D d o m Pointer b q None u a h = absurd (let e : Some u ≡ None = a in cc)
found_of D d o m (Int t) b q (Some (Num n)) (int z) a h =
    found_by o d m (Int t) b q (int z) (loaded_of o d (bytes_of t) (from_here m q) t b z a.0 (omega arith) h)
found_of D d o m (Int t) b q (Some (Num n)) null a h = absurd a
found_of D d o m (Int t) b q (Some (Num n)) (pointer c r) a h = absurd a
found_of D d o m (Int t) b q (Some (Ptr p)) (int z) a h = absurd a
found_of D d o m (Int t) b q (Some (Ptr p)) null a h = absurd a
found_of D d o m (Int t) b q (Some (Ptr p)) (pointer c r) a h = absurd a
found_of D d o m Pointer b q (Some (Num n)) (int z) a h = absurd a
found_of D d o m Pointer b q (Some (Num n)) null a h = absurd a
found_of D d o m Pointer b q (Some (Num n)) (pointer c r) a h = absurd a
found_of D d o m Pointer b q (Some (Ptr p)) (int z) a h = absurd a
found_of D d o m Pointer b q (Some (Ptr p)) null a h =
    let fits : 0 + pointer_bytes d ≤ pointer_bytes d = omega arith in
    found_by o d m Pointer b q null (loaded_null_at o d (pointer_bytes d) (from_here m q) b 0 fits (zero-mod
    (pointer_bytes d)) (λ k l u. h k (omega arith)))
found_of D d o m Pointer b q (Some (Ptr p)) (pointer c r) a h =
    let fits : 0 + pointer_bytes d ≤ pointer_bytes d = omega arith in
    found_by o d m Pointer b q (pointer c r) (loaded_pointer_at o d (pointer_bytes d) (from_here m q) b 0 c r fits
    (zero-mod (pointer_bytes d)) (λ k l. ap (from_here m q b) (zero-add k) ∙ h k l))

-- ---- what stands at a place

-- The bytes of a value that was read. What is known of numbers of forms is so of this value.
pub record Stands {N : Type 0} (D : Ops N) (o : Order) (m : Memory) (d : Model) (w : Scalar) (b q : ℕ) (v : Option
    (Value N)) (K : ℕ → Type 0) : Type 0 where
  pub datum : Datum
  pub stands : Has o m w b q (size_of d w) datum
  pub allowed : Allows D w v false (Some datum)
  pub numbers : (k : ℕ) → K k → IsNumberOf w datum k

-- a number has the bytes of the one to which it is converted, of a type with as many
pub converted_bytes : (o : Order) (t u : IntType) (z : ℤ) (p : ℕ) → bytes_of t ≡ bytes_of u
    → encoded o t z p ≡ encoded o u (wrapped u z) p
converted_bytes o t u z p e =
    ap (λ w. byte_of (place o w p) (residue (2 ^ (8 * w)) z)) e
    ∙ ap (byte_of (place o (bytes_of u) p)) (sym (representation_represented u (representation u z)
    (representation_below u z)))

converted_number : (t u : IntType) (z : ℤ) (k : ℕ) → bytes_of t ≡ bytes_of u
    → residue (2 ^ bits_of t) z ≡ k % 2 ^ bits_of t → residue (2 ^ bits_of u) (wrapped u z) ≡ k % 2 ^ bits_of u
converted_number t u z k e h =
    representation_represented u (representation u z) (representation_below u z)
    ∙ subst (λ w. residue (2 ^ (8 * w)) z ≡ k % 2 ^ (8 * w)) e h

pub whole_holds : {N : Type 0} (D : Ops N) → Lawful D → (os : Order × Order) (d : Model) (m : Memories) (o : Order)
    (here : Memory) (w : Scalar) (s : Side) (b q : ℕ) (u : Scalar) (v : Option (Value N)) (f : Option (List Segment))
    (y : Option Datum) → IsOfSort u v → (v ≡ None → false ≡ true) → size_of d u ≡ size_of d w
    → is_same_sort u w ≡ true → Allows D u v false y → StandsAt os d m (cell_of s b q u v false f) y
    → HasBytes o here (size_of d u) u false b q y
    → Stands D o here d w b q (option_map (converted D w) v) (λ k. HasNumber os m (cell_of s b q u v false f) u k)
whole_holds D law os d m o here w s b q u None f y i n e k a g h = absurd (let c : false ≡ true = n refl in cc)
whole_holds D law os d m o here w s b q (Int t) (Some (Ptr p)) f y i n e k a g h = absurd i
whole_holds D law os d m o here w s b q Pointer (Some (Num p)) f y i n e k a g h = absurd i
whole_holds D law os d m o here Pointer s b q (Int t) (Some (Num p)) f y i n e k a g h = absurd (let c : false ≡ true
    = k in cc)
whole_holds D law os d m o here (Int t) s b q Pointer (Some (Ptr p)) f y i n e k a g h = absurd (let c : false ≡ true
    = k in cc)
whole_holds D law os d m o here (Int r) s b q (Int t) (Some (Num p)) f None i n e k a g h = absurd (let c : false ≡
    true = a in cc)
whole_holds D law os d m o here (Int r) s b q (Int t) (Some (Num p)) f (Some null) i n e k a g h = absurd a
whole_holds D law os d m o here (Int r) s b q (Int t) (Some (Num p)) f (Some (pointer c l)) i n e k a g h = absurd a
whole_holds D law os d m o here (Int r) s b q (Int t) (Some (Num p)) f (Some (int z)) i n e k a g h =
    let is : numbers_of os m (name_of (cell_of s b q (Int t) (Some (Num p)) false f) t) ≡ z = number_of_cell os d m
    (cell_of s b q (Int t) (Some (Num p)) false f) t z refl refl a.0 g in
    record {
      datum = int (wrapped r z);
      stands = λ j l. h j (subst (λ x. j < x) (sym e) l) ∙ ap number (converted_bytes o t r z j e);
      allowed = (wrapped_in_range r z, law.convert_holds p r z a.1);
      numbers = λ x c. converted_number t r z x e (sym (ap (residue (2 ^ bits_of t)) is) ∙ c);
    }
whole_holds D law os d m o here Pointer s b q Pointer (Some (Ptr p)) f None i n e k a g h = absurd (let c : false ≡
    true = a in cc)
whole_holds D law os d m o here Pointer s b q Pointer (Some (Ptr p)) f (Some (int z)) i n e k a g h = absurd a
whole_holds D law os d m o here Pointer s b q Pointer (Some (Ptr p)) f (Some null) i n e k a g h = record {
  datum = null;
  stands = h;
  allowed = a;
  numbers = λ x c. c;
}
whole_holds D law os d m o here Pointer s b q Pointer (Some (Ptr p)) f (Some (pointer c l)) i n e k a g h = record {
  datum = pointer c l;
  stands = h;
  allowed = a;
  numbers = λ x y. y;
}

-- ---- that it fits

pub whole_sort : {N : Type 0} (D : Ops N) (u w : Scalar) (v : Option (Value N)) → IsOfSort u v
    → is_same_sort u w ≡ true → IsOfSort w (option_map (converted D w) v)
whole_sort D u (Int r) None i k = tt
whole_sort D u Pointer None i k = tt
whole_sort D (Int t) (Int r) (Some (Num n)) i k = tt
whole_sort D (Int t) Pointer (Some (Num n)) i k = absurd (let c : false ≡ true = k in cc)
whole_sort D Pointer w (Some (Num n)) i k = absurd i
whole_sort D (Int t) w (Some (Ptr p)) i k = absurd i
whole_sort D Pointer (Int r) (Some (Ptr p)) i k = absurd (let c : false ≡ true = k in cc)
whole_sort D Pointer Pointer (Some (Ptr p)) i k = tt

pub whole_rising : {N : Type 0} (D : Ops N) (w : Scalar) (v : Option (Value N)) → HasRisingBlocks v
    → HasRisingBlocks (option_map (converted D w) v)
whole_rising D w None h = tt
whole_rising D (Int r) (Some (Num n)) h = tt
whole_rising D Pointer (Some (Num n)) h = tt
whole_rising D (Int r) (Some (Ptr p)) h = h
whole_rising D Pointer (Some (Ptr p)) h = h

same_width : (d : Model) (u w : Scalar) (n : ℕ) → size_of d u ≡ size_of d w → is_same_sort u w ≡ true → HasWidth u n
    → HasWidth w n
same_width d (Int t) (Int r) n e k h = ap (λ x. 8 * x) (sym e) ∙ h
same_width d (Int t) Pointer n e k h = absurd (let c : false ≡ true = k in cc)
same_width d Pointer w n e k h = absurd h

pub whole_form : {N : Type 0} (d : Model) (cs : List (Cell N)) (x : Cell N) (w : Scalar) (o : Option (List Segment))
    → size_of d x.what ≡ size_of d w → is_same_sort x.what w ≡ true → IfSome o (IsFormOf cs x)
    → IfSome o (IsFormRead cs w x.maybe)
whole_form d cs x w None e k h = tt
whole_form d cs x w (Some ss) e k h = record {
  sure = h.sure;
  wide = same_width d x.what w (width ss) e k h.wide;
  form = h.form;
  mentioned = h.mentioned;
}
