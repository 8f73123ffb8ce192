-- A memory that fits stays so, and what is read from it fits.
use Rattle.std.proofs.Common.{◌≡◌, ℕ, zero, suc, ◌+◌, ◌-◌, ◌^◌, ◌<◌, Bool, true, false, ◌&&◌, not, nat_eq, nat_lt}
use Rattle.std.proofs.Common.{nat_le, if◌then◌else◌, List, [], ◌∷◌, slice_index_or, subst, arith}
use Rattle.std.specs.List.{AllByRecursion, list_all, list_any, fold}
use Rattle.std.proofs.lemmas.Bool.{and_parts}
use Rattle.ep_int.specs.declared.types.IntType.{IntType}
use Rattle.ep_int.specs.declared.types.Model.{Model}
use Rattle.ep_int.specs.declared.types.Order.{Order}
use Rattle.ep_int.specs.declared.types.Scalar.{Scalar}
use Rattle.ep_int.specs.declared.types.Scalar.TheVariants.{Int, Pointer}
use Rattle.ep_int.specs.Types.{bytes_of, size_of, InRange, representation}
use Rattle.ep_int.specs.Arith.{is_in_range}
use Rattle.ep_int.specs.Encoding.{place, sum_of_bytes}
use Rattle.ep_int.specs.Memory.{Byte, undefined, number, fragment, Memory, Value, int, null, pointer, Found, has}
use Rattle.ep_int.specs.Memory.{faults, uninitialised, bounds, alignment, pointer_part, broken, lies_partly, replaced}
use Rattle.ep_int.specs.Memory.{bytes_of_value, stored, filled, copied, contains, forgotten, killed, bytes_from}
use Rattle.ep_int.specs.Memory.{is_undefined, is_number, is_zero, number_in, are_parts, pointer_in, number_of}
use Rattle.ep_int.specs.Memory.{value_of_bytes, is_outside, is_aligned, loaded}
use Rattle.ep_int.proofs.Wrapping.{represented_in_range}
use Rattle.ep_int.proofs.Encodings.{byte_below, bytes_pow, sum_of_bytes_below}
use Rattle.ep_int.proofs.Arithmetic.{in_range_from_true}
use Rattle.ep_core.specs.Program.{Init, Program}
use Rattle.ep_core.specs.Exec.{model, cleared, cleared_byte, bytes_in, result_in}
use Rattle.ep_core.specs.Runs.{blank, initial, main_function}
use Rattle.ep_core.specs.WellFormed.{init_fits}
use Rattle.ep_core.specs.Typed.{IsNumber, IsAddress, ValueFits, IfHas, ByteFits, MemoryFits}

module _ (p : Program) where
  -- ---- writing

  byte_choice : (t : Bool) (x y : Byte) → ByteFits p x → ByteFits p y → ByteFits p (if t then x else y)
  byte_choice true x y h i = h
  byte_choice false x y h i = i

  broken_bytes : (d : Model) (m : Memory) (b here n : ℕ) → MemoryFits p m → MemoryFits p (broken d m b here n)
  broken_bytes d m b here n h c q = byte_choice (nat_eq b c && lies_partly d here n (m c q) q) undefined (m c q) tt
      (h c q)

  pub replaced_bytes : (d : Model) (m : Memory) (b here n : ℕ) (new : ℕ → Byte) → MemoryFits p m
      → ((k : ℕ) → ByteFits p (new k)) → MemoryFits p (replaced d m b here n new)
  replaced_bytes d m b here n new h i c q =
      byte_choice (nat_eq b c && (nat_le here q && nat_lt q (here + n))) (new (q - here)) (broken d m b here n c q)
      (i (q - here)) (broken_bytes d m b here n h c q)

  value_bytes : (o : Order) (what : Scalar) (v : Value) (q : ℕ) → ValueFits p what v
      → ByteFits p (bytes_of_value o what v q)
  value_bytes o (Int t) (int v) q h = byte_below (place o (bytes_of t) q) (representation t v)
  value_bytes o (Int t) null q h = tt
  value_bytes o (Int t) (pointer b r) q h = tt
  value_bytes o Pointer (int v) q h = tt
  value_bytes o Pointer null q h = omega arith
  value_bytes o Pointer (pointer b r) q h = h

  pub stored_bytes : (o : Order) (d : Model) (m : Memory) (what : Scalar) (b here : ℕ) (v : Value) → MemoryFits p m
      → ValueFits p what v → MemoryFits p (stored o d m what b here v)
  stored_bytes o d m what b here v h i = replaced_bytes d m b here (size_of d what) (bytes_of_value o what v) h
      (λ q. value_bytes o what v q i)

  pub filled_bytes : (d : Model) (m : Memory) (b here n v : ℕ) → v < 256 → MemoryFits p m
      → MemoryFits p (filled d m b here n v)
  filled_bytes d m b here n v l h = replaced_bytes d m b here n (λ k. number v) h (λ k. l)

  pub copied_bytes : (d : Model) (m : Memory) (b here c from n : ℕ) → MemoryFits p m
      → MemoryFits p (copied d m b here c from n)
  copied_bytes d m b here c from n h =
      replaced_bytes d m b here n (λ k. broken d m c from n c (from + k)) h
      (λ k. broken_bytes d m c from n h c (from + k))

  forgotten_byte : (bs : List ℕ) (x : Byte) → ByteFits p x → ByteFits p (forgotten bs x)
  forgotten_byte bs undefined h = tt
  forgotten_byte bs (number v) h = h
  forgotten_byte bs (fragment b o k) h = byte_choice (contains b bs) undefined (fragment b o k) tt h

  pub killed_bytes : (bs : List ℕ) (m : Memory) → MemoryFits p m → MemoryFits p (killed bs m)
  killed_bytes bs m h b q = byte_choice (contains b bs) undefined (forgotten bs (m b q)) tt
      (forgotten_byte bs (m b q) (h b q))

  module _ (o : Order) where
    pub cleared_bytes : (ty : ℕ) (m : Memory) (b here : ℕ) → MemoryFits p m → MemoryFits p (cleared o p ty m b here)
    cleared_bytes ty m b here h =
        replaced_bytes (model o p) m b here (bytes_in o p ty) (cleared_byte o p ty) h
        (λ k. byte_choice _ (number 0) undefined (omega arith) tt)

    first_values : (is : List Init) (m : Memory) → list_all (init_fits p.types p.blocks) is ≡ true → MemoryFits p m
        → MemoryFits p (fold
        (λ (m : Memory) (i : Init). stored o (model o p) m (Int i.t) i.block i.offset (int i.value)) m is)
    first_values [] m f h = h
    first_values (i ∷ is) m f h =
        let s = and_parts _ (list_all (init_fits p.types p.blocks) is) f in
        let v = in_range_from_true i.t i.value (and_parts _ (is_in_range i.t i.value) s.0).1 in
        first_values is (stored o (model o p) m (Int i.t) i.block i.offset (int i.value)) s.1
        (stored_bytes o (model o p) m (Int i.t) i.block i.offset (int i.value) h v)

    pub initial_bytes : list_all (init_fits p.types p.blocks) p.init ≡ true → MemoryFits p (initial o p)
    initial_bytes f =
        first_values p.init (blank p.blocks (result_in (main_function o p))) f
        (λ b q. byte_choice _ (number 0) undefined (omega arith) tt)

  -- ---- reading

  pub found_choice : (t : Bool) (x y : Found) (P : Value → Type 0) → IfHas x P → IfHas y P
      → IfHas (if t then x else y) P
  found_choice true x y P h i = h
  found_choice false x y P h i = i

  read_bytes : (m : Memory) (b here n : ℕ) → MemoryFits p m → AllByRecursion (ByteFits p) (bytes_from m b here n)
  read_bytes m b here zero h = tt
  read_bytes m b here (suc n) h = (h b here, read_bytes m b (here + 1) n h)

  byte_at : (bs : List Byte) (q : ℕ) → AllByRecursion (ByteFits p) bs → ByteFits p (slice_index_or bs q undefined)
  byte_at [] q h = tt
  byte_at (x ∷ bs) zero h = h.0
  byte_at (x ∷ bs) (suc q) h = byte_at bs q h.1

  number_below : (x : Byte) → ByteFits p x → number_in x < 256
  number_below undefined h = omega arith
  number_below (number v) h = h
  number_below (fragment b o k) h = omega arith

  number_in_range : (o : Order) (t : IntType) (bs : List Byte) → AllByRecursion (ByteFits p) bs
      → InRange t (number_of o t bs)
  number_in_range o t bs h =
      let placed : ℕ → ℕ = λ k. number_in (slice_index_or bs (place o (bytes_of t) k) undefined) in
      let below : sum_of_bytes placed (bytes_of t) < 256 ^ bytes_of t
      = sum_of_bytes_below placed (bytes_of t) (λ k l. number_below _ (byte_at bs (place o (bytes_of t) k) h)) in
      represented_in_range t (sum_of_bytes placed (bytes_of t))
      (subst (λ n. sum_of_bytes placed (bytes_of t) < n) (bytes_pow (bytes_of t)) below)

  pointer_found : (bs : List Byte) → AllByRecursion (ByteFits p) bs → IfHas (pointer_in bs) (IsAddress p)
  pointer_found [] h = tt
  pointer_found (undefined ∷ more) h = tt
  pointer_found (number v ∷ more) h = tt
  pointer_found (fragment b o k ∷ more) h = found_choice (are_parts b o 0 (fragment b o k ∷ more)) (has (pointer b o))
      (faults pointer_part) (IsAddress p) h.0 tt

  bytes_fit : (o : Order) (what : Scalar) (bs : List Byte) → AllByRecursion (ByteFits p) bs
      → IfHas (value_of_bytes o what bs) (ValueFits p what)
  bytes_fit o (Int t) bs h = found_choice (list_all is_number bs) (has (int (number_of o t bs))) (faults pointer_part)
      (IsNumber (InRange t)) (number_in_range o t bs h) tt
  bytes_fit o Pointer bs h = found_choice (list_all is_zero bs) (has null) (pointer_in bs) (IsAddress p) tt
      (pointer_found bs h)

  -- what is read as a scalar fits it
  pub loaded_fits : (o : Order) (d : Model) (size : ℕ) (m : Memory) (what : Scalar) (b here : ℕ) → MemoryFits p m
      → IfHas (loaded o d size m what b here) (ValueFits p what)
  loaded_fits o d size m what b here h =
      let bs = bytes_from m b here (size_of d what) in
      found_choice (is_outside size here (size_of d what)) (faults bounds) _ (ValueFits p what) tt
      (found_choice (not (is_aligned d what here)) (faults alignment) _ (ValueFits p what) tt
      (found_choice (list_any is_undefined bs) (faults uninitialised) (value_of_bytes o what bs) (ValueFits p what) tt
      (bytes_fit o what bs (read_bytes m b here (size_of d what) h))))
