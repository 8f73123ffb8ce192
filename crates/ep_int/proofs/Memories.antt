-- What is read from a memory, and what a write leaves.
use Rattle.std.proofs.Common.{◌≡◌, ℕ, zero, suc, ◌+◌, ◌-◌, ◌%◌, ◌<◌, ◌≤◌, ℤ, Bool, true, false, ◌&&◌, ◌==◌, nat_eq}
use Rattle.std.proofs.lemmas.Bool.{eqb-true}
use Rattle.std.proofs.Common.{nat_lt, nat_le, if◌then◌else◌, slice_index_or, ◌⊎◌, ⊎_elim, zero-add, add-zero, length}
use Rattle.std.proofs.Common.{List, [], ◌∷◌, refl, sym, ◌∙◌, ap, subst, arith}
use Rattle.std.specs.List.{list_any, list_all}
use Rattle.std.proofs.lemmas.Bool.{cases_lt, le-ltb, lt-ltb, le-leb, lt-leb, eq-eqb, and_parts, and_left, and_right}
use Rattle.std.proofs.lemmas.Bool.{and_from, or_from, or_left, or_right}
use Rattle.std.proofs.Math.Nat.{zero-mod}
use Rattle.ep_int.specs.declared.types.IntType.{IntType}
use Rattle.ep_int.specs.declared.types.Model.{Model}
use Rattle.ep_int.specs.declared.types.Model.TheVariants.{Ilp32, Lp64}
use Rattle.ep_int.specs.declared.types.Order.{Order}
use Rattle.ep_int.specs.declared.types.Scalar.{Scalar}
use Rattle.ep_int.specs.declared.types.Scalar.TheVariants.{Int, Pointer}
use Rattle.ep_int.specs.Types.{bytes_of, size_of, pointer_bytes, InRange}
use Rattle.ep_int.specs.Encoding.{encoded, decoded}
use Rattle.ep_int.specs.Memory.{Byte, undefined, number, fragment, Memory, Value, int, null, pointer, has, faults}
use Rattle.ep_int.specs.Memory.{uninitialised, lies_partly, replaced, stored, bytes_of_value, bytes_from}
use Rattle.ep_int.specs.Memory.{is_undefined, is_number, is_zero, are_parts, pointer_in, number_in, value_of_bytes}
use Rattle.ep_int.specs.Memory.{loaded}
use Rattle.ep_int.proofs.Wrapping.{bytes_of_positive}
use Rattle.ep_int.proofs.Encodings.{decoded_same, decoded_encoded}

-- ---- the bytes of a place

-- each byte from here on is read
pub slice_index_or-bytes_from : (m : Memory) (b here n p : ℕ) (d : Byte) → p < n
    → slice_index_or (bytes_from m b here n) p d ≡ m b (here + p)
slice_index_or-bytes_from m b here zero p d h = absurd (omega arith)
slice_index_or-bytes_from m b here (suc n) zero d h = ap (m b) (omega arith)
slice_index_or-bytes_from m b here (suc n) (suc p) d h =
    slice_index_or-bytes_from m b (here + 1) n p d (omega arith) ∙ ap (m b) (omega arith)

pub list_all-bytes_from : (test : Byte → Bool) (m : Memory) (b here n : ℕ)
    → ((q : ℕ) → here ≤ q → q < here + n → test (m b q) ≡ true) → list_all test (bytes_from m b here n) ≡ true
list_all-bytes_from test m b here zero h = refl
list_all-bytes_from test m b here (suc n) h =
    and_from (test (m b here)) (list_all test (bytes_from m b (here + 1) n)) (h here (omega arith) (omega arith))
    (list_all-bytes_from test m b (here + 1) n (λ q l u. h q (omega arith) (omega arith)))

-- no byte passes
pub list_any-bytes_from : (test : Byte → Bool) (m : Memory) (b here n : ℕ)
    → ((q : ℕ) → here ≤ q → q < here + n → test (m b q) ≡ false) → list_any test (bytes_from m b here n) ≡ false
list_any-bytes_from test m b here zero h = refl
list_any-bytes_from test m b here (suc n) h =
    or_from (test (m b here)) (list_any test (bytes_from m b (here + 1) n)) (h here (omega arith) (omega arith))
    (list_any-bytes_from test m b (here + 1) n (λ q l u. h q (omega arith) (omega arith)))

-- one byte fails
pub list_all-bytes_from_at : (test : Byte → Bool) (m : Memory) (b here n q : ℕ) → here ≤ q → q < here + n
    → test (m b q) ≡ false → list_all test (bytes_from m b here n) ≡ false
list_all-bytes_from_at test m b here zero q l u h = absurd (omega arith)
list_all-bytes_from_at test m b here (suc n) q l u h =
    ⊎_elim
    (λ later. and_right (test (m b here)) (list_all test (bytes_from m b (here + 1) n))
    (list_all-bytes_from_at test m b (here + 1) n q (omega arith) (omega arith) h))
    (λ now.
    let same : q ≡ here = omega arith in
    and_left (test (m b here)) (list_all test (bytes_from m b (here + 1) n)) (subst (λ x. test (m b x) ≡ false) same h))
    (cases_lt here q)

-- one byte passes
pub list_any-bytes_from_at : (test : Byte → Bool) (m : Memory) (b here n q : ℕ) → here ≤ q → q < here + n
    → test (m b q) ≡ true → list_any test (bytes_from m b here n) ≡ true
list_any-bytes_from_at test m b here zero q l u h = absurd (omega arith)
list_any-bytes_from_at test m b here (suc n) q l u h =
    ⊎_elim
    (λ later. or_right (test (m b here)) (list_any test (bytes_from m b (here + 1) n))
    (list_any-bytes_from_at test m b (here + 1) n q (omega arith) (omega arith) h))
    (λ now.
    let same : q ≡ here = omega arith in
    or_left (test (m b here)) (list_any test (bytes_from m b (here + 1) n)) (subst (λ x. test (m b x) ≡ true) same h))
    (cases_lt here q)

-- ---- reading

-- a read in bounds and at a multiple of the size
pub loaded_inside : (o : Order) (d : Model) (size : ℕ) (m : Memory) (what : Scalar) (b here : ℕ)
    → here + size_of d what ≤ size → here % size_of d what ≡ 0
    → loaded o d size m what b here
    ≡ (if list_any is_undefined
    (bytes_from m b here (size_of d what)) then faults uninitialised else value_of_bytes o what
    (bytes_from m b here (size_of d what)))
loaded_inside o d size m what b here fits aligned =
    let inside : nat_lt size (here + size_of d what) ≡ false = le-ltb size (here + size_of d what) fits in
    let multiple : (here % size_of d what == 0) ≡ true = eq-eqb (here % size_of d what) 0 aligned in
    rw (inside, multiple) refl

-- the bytes of a number are read as this number
pub loaded_at : (o : Order) (d : Model) (size : ℕ) (m : Memory) (t : IntType) (b here : ℕ) (v : ℤ) → InRange t v
    → here + bytes_of t ≤ size → here % bytes_of t ≡ 0
    → ((p : ℕ) → p < bytes_of t → m b (here + p) ≡ number (encoded o t v p))
    → loaded o d size m (Int t) b here ≡ has (int v)
loaded_at o d size m t b here v ranged fits aligned h =
    let w = bytes_of t in
    let bs = bytes_from m b here w in
    let at : (q : ℕ) → here ≤ q → q < here + w → m b q ≡ number (encoded o t v (q - here)) =
    λ q l u.
    let split : here + (q - here) ≡ q = omega arith in
    subst (λ x. m b x ≡ number (encoded o t v (q - here))) split (h (q - here) (omega arith)) in
    let defined : list_any is_undefined bs ≡ false = list_any-bytes_from is_undefined m b here w
    (λ q l u. ap is_undefined (at q l u)) in
    let numbers : list_all is_number bs ≡ true = list_all-bytes_from is_number m b here w
    (λ q l u. ap is_number (at q l u)) in
    let same : decoded o t (λ p. number_in (slice_index_or bs p undefined)) ≡ decoded o t (encoded o t v) =
    decoded_same o t (λ p. number_in (slice_index_or bs p undefined)) (encoded o t v)
    (λ p l. ap number_in (slice_index_or-bytes_from m b here w p undefined l ∙ h p l)) in
    loaded_inside o d size m (Int t) b here fits aligned
    ∙ rw (defined, numbers) (ap (λ z. has (int z)) (same ∙ decoded_encoded o t v ranged))

-- one undefined byte makes a read undefined
pub loaded_undefined_at : (o : Order) (d : Model) (size : ℕ) (m : Memory) (t : IntType) (b here p : ℕ)
    → here + bytes_of t ≤ size → here % bytes_of t ≡ 0 → p < bytes_of t → m b (here + p) ≡ undefined
    → loaded o d size m (Int t) b here ≡ faults uninitialised
loaded_undefined_at o d size m t b here p fits aligned l h =
    let missing : list_any is_undefined (bytes_from m b here (bytes_of t)) ≡ true =
    list_any-bytes_from_at is_undefined m b here (bytes_of t) (here + p) (omega arith) (omega arith)
    (ap is_undefined h) in
    loaded_inside o d size m (Int t) b here fits aligned ∙ rw missing refl

-- ---- the same at the start of a block

pub loaded_of : (o : Order) (d : Model) (size : ℕ) (m : Memory) (t : IntType) (b : ℕ) (v : ℤ) → InRange t v
    → bytes_of t ≤ size → ((p : ℕ) → p < bytes_of t → m b p ≡ number (encoded o t v p))
    → loaded o d size m (Int t) b 0 ≡ has (int v)
loaded_of o d size m t b v ranged fits h =
    let inside : 0 + bytes_of t ≤ size = omega arith in
    loaded_at o d size m t b 0 v ranged inside (zero-mod (bytes_of t)) (λ p l. ap (m b) (zero-add p) ∙ h p l)

pub loaded_undefined : (o : Order) (d : Model) (size : ℕ) (m : Memory) (t : IntType) (b : ℕ)
    → ((p : ℕ) → p < bytes_of t → m b p ≡ undefined) → bytes_of t ≤ size
    → loaded o d size m (Int t) b 0 ≡ faults uninitialised
loaded_undefined o d size m t b h fits =
    let inside : 0 + bytes_of t ≤ size = omega arith in
    loaded_undefined_at o d size m t b 0 0 inside (zero-mod (bytes_of t)) (bytes_of_positive t) (ap (m b) (zero-add 0)
    ∙ h 0 (bytes_of_positive t))

-- ---- pointers

-- the parts of a pointer from part k on, in order
are_parts_from : (m : Memory) (b here n c q k : ℕ) → ((j : ℕ) → j < n → m b (here + j) ≡ fragment c q (k + j))
    → are_parts c q k (bytes_from m b here n) ≡ true
are_parts_from m b here zero c q k h = refl
are_parts_from m b here (suc n) c q k h =
    let first : m b here ≡ fragment c q k = ap (m b) (sym (add-zero here)) ∙ h 0 (omega arith)
    ∙ ap (fragment c q) (add-zero k) in
    let others : are_parts c q (k + 1) (bytes_from m b (here + 1) n) ≡ true =
    are_parts_from m b (here + 1) n c q (k + 1)
    (λ j l. (let p : here + 1 + j ≡ here + suc j = omega arith in let r : k + suc j ≡ k + 1 + j = omega arith in ap
    (m b) p ∙ h (suc j) (omega arith) ∙ ap (fragment c q) r)) in
    let block : nat_eq c c ≡ true = eq-eqb c c refl in
    let offset : nat_eq q q ≡ true = eq-eqb q q refl in
    let part : nat_eq k k ≡ true = eq-eqb k k refl in
    rw first (rw (block, offset, part) others)

pointer_of_parts : (c q : ℕ) (bs : List Byte) → 0 < length bs → are_parts c q 0 bs ≡ true
    → pointer_in bs ≡ has (pointer c q)
pointer_of_parts c q [] l h = absurd (omega arith)
pointer_of_parts c q (undefined ∷ more) l h = absurd cc
pointer_of_parts c q (number v ∷ more) l h = absurd cc
pointer_of_parts c q (fragment b o k ∷ more) l h =
    let parts = and_parts (nat_eq c b && nat_eq q o && nat_eq 0 k) (are_parts c q 1 more) h in
    let place = and_parts (nat_eq c b && nat_eq q o) (nat_eq 0 k) parts.0 in
    let both = and_parts (nat_eq c b) (nat_eq q o) place.0 in
    let block : c ≡ b = eqb-true c b both.0 in
    let offset : q ≡ o = eqb-true q o both.1 in
    let all : are_parts b o 0 (fragment b o k ∷ more) ≡ true = subst
    (λ x. are_parts x o 0 (fragment b o k ∷ more) ≡ true) block
    (subst (λ x. are_parts c x 0 (fragment b o k ∷ more) ≡ true) offset h) in
    rw all (ap (λ x. has (pointer x o)) (sym block) ∙ ap (λ x. has (pointer c x)) (sym offset))

length-bytes_from : (m : Memory) (b here n : ℕ) → length (bytes_from m b here n) ≡ n
length-bytes_from m b here zero = refl
length-bytes_from m b here (suc n) = ap suc (length-bytes_from m b (here + 1) n)

pub pointer_has_bytes : (d : Model) → 0 < pointer_bytes d
pointer_has_bytes Ilp32 = omega arith
pointer_has_bytes Lp64 = omega arith

-- all parts of a pointer in order are read as this pointer
pub loaded_pointer_at : (o : Order) (d : Model) (size : ℕ) (m : Memory) (b here c q : ℕ) → here + pointer_bytes d ≤ size
    → here % pointer_bytes d ≡ 0 → ((k : ℕ) → k < pointer_bytes d → m b (here + k) ≡ fragment c q k)
    → loaded o d size m Pointer b here ≡ has (pointer c q)
loaded_pointer_at o d size m b here c q fits aligned h =
    let n = pointer_bytes d in
    let bs = bytes_from m b here n in
    let at : (p : ℕ) → here ≤ p → p < here + n → m b p ≡ fragment c q (p - here) =
    λ p l u.
    let split : here + (p - here) ≡ p = omega arith in
    subst (λ x. m b x ≡ fragment c q (p - here)) split (h (p - here) (omega arith)) in
    let defined : list_any is_undefined bs ≡ false = list_any-bytes_from is_undefined m b here n
    (λ p l u. ap is_undefined (at p l u)) in
    let first : here < here + n = omega (arith, pointer_has_bytes d) in
    let other : list_all is_zero bs ≡ false = list_all-bytes_from_at is_zero m b here n here (omega arith) first
    (ap is_zero (at here (omega arith) first)) in
    let parts : are_parts c q 0 bs ≡ true = are_parts_from m b here n c q 0
    (λ j l. h j l ∙ ap (fragment c q) (sym (zero-add j))) in
    let some : 0 < length bs = rw length-bytes_from (pointer_has_bytes d) in
    loaded_inside o d size m Pointer b here fits aligned ∙ rw (defined, other) (pointer_of_parts c q bs some parts)

-- zero bytes are read as null
pub loaded_null_at : (o : Order) (d : Model) (size : ℕ) (m : Memory) (b here : ℕ) → here + pointer_bytes d ≤ size
    → here % pointer_bytes d ≡ 0 → ((q : ℕ) → here ≤ q → q < here + pointer_bytes d → m b q ≡ number 0)
    → loaded o d size m Pointer b here ≡ has null
loaded_null_at o d size m b here fits aligned h =
    let n = pointer_bytes d in
    let defined : list_any is_undefined (bytes_from m b here n) ≡ false = list_any-bytes_from is_undefined m b here n
    (λ q l u. ap is_undefined (h q l u)) in
    let zeros : list_all is_zero (bytes_from m b here n) ≡ true = list_all-bytes_from is_zero m b here n
    (λ q l u. ap is_zero (h q l u)) in
    loaded_inside o d size m Pointer b here fits aligned ∙ rw (defined, zeros) refl

-- ---- writing

pub replaced_covered : (d : Model) (m : Memory) (b here n : ℕ) (new : ℕ → Byte) (p : ℕ) → p < n
    → replaced d m b here n new b (here + p) ≡ new p
replaced_covered d m b here n new p l =
    let same : nat_eq b b ≡ true = eq-eqb b b refl in
    let after : nat_le here (here + p) ≡ true = le-leb here (here + p) (omega arith) in
    let before : nat_lt (here + p) (here + n) ≡ true = lt-ltb (here + p) (here + n) (omega arith) in
    let place : here + p - here ≡ p = omega arith in
    rw (same, after, before) (ap new place)

-- a byte of the block outside of the place, that is no part of a pointer cut by the write
pub replaced_beside : (d : Model) (m : Memory) (b here n : ℕ) (new : ℕ → Byte) (q : ℕ) → (q < here) ⊎ (here + n ≤ q)
    → lies_partly d here n (m b q) q ≡ false → replaced d m b here n new b q ≡ m b q
replaced_beside d m b here n new q outside whole =
    let out : (nat_le here q && nat_lt q (here + n)) ≡ false =
    ⊎_elim
    (λ l. and_left (nat_le here q) (nat_lt q (here + n)) (lt-leb here q l))
    (λ l. and_right (nat_le here q) (nat_lt q (here + n)) (le-ltb q (here + n) l))
    outside in
    let same : nat_eq b b ≡ true = eq-eqb b b refl in
    rw (same, out, whole) refl

-- another block stays as it was
pub replaced_elsewhere : (d : Model) (m : Memory) (b here n : ℕ) (new : ℕ → Byte) (c p : ℕ) → nat_eq b c ≡ false
    → replaced d m b here n new c p ≡ m c p
replaced_elsewhere d m b here n new c p apart = rw apart refl

pub stored_covered : (o : Order) (d : Model) (m : Memory) (what : Scalar) (b here : ℕ) (v : Value) (p : ℕ)
    → p < size_of d what → stored o d m what b here v b (here + p) ≡ bytes_of_value o what v p
stored_covered o d m what b here v p l = replaced_covered d m b here (size_of d what) (bytes_of_value o what v) p l

pub stored_inside : (o : Order) (d : Model) (m : Memory) (t : IntType) (b here : ℕ) (v : ℤ) (p : ℕ) → p < bytes_of t
    → stored o d m (Int t) b here (int v) b (here + p) ≡ number (encoded o t v p)
stored_inside o d m t b here v p l = stored_covered o d m (Int t) b here (int v) p l

-- the same at the start of a block
pub stored_first : (o : Order) (d : Model) (m : Memory) (t : IntType) (b : ℕ) (v : ℤ) (p : ℕ) → p < bytes_of t
    → stored o d m (Int t) b 0 (int v) b p ≡ number (encoded o t v p)
stored_first o d m t b v p l =
    ap (stored o d m (Int t) b 0 (int v) b) (sym (zero-add p)) ∙ stored_inside o d m t b 0 v p l

pub stored_beside : (o : Order) (d : Model) (m : Memory) (what : Scalar) (b here : ℕ) (v : Value) (q : ℕ)
    → (q < here) ⊎ (here + size_of d what ≤ q) → lies_partly d here (size_of d what) (m b q) q ≡ false
    → stored o d m what b here v b q ≡ m b q
stored_beside o d m what b here v q outside whole =
    replaced_beside d m b here (size_of d what) (bytes_of_value o what v) q outside whole

pub stored_elsewhere : (o : Order) (d : Model) (m : Memory) (what : Scalar) (b here : ℕ) (v : Value) (c p : ℕ)
    → nat_eq b c ≡ false → stored o d m what b here v c p ≡ m c p
stored_elsewhere o d m what b here v c p apart =
    replaced_elsewhere d m b here (size_of d what) (bytes_of_value o what v) c p apart

-- what is stored is read back
pub loaded_stored : (o : Order) (d : Model) (size : ℕ) (m : Memory) (t : IntType) (b here : ℕ) (v : ℤ) → InRange t v
    → here + bytes_of t ≤ size → here % bytes_of t ≡ 0
    → loaded o d size (stored o d m (Int t) b here (int v)) (Int t) b here ≡ has (int v)
loaded_stored o d size m t b here v ranged fits aligned =
    loaded_at o d size (stored o d m (Int t) b here (int v)) t b here v ranged fits aligned
    (λ p l. stored_inside o d m t b here v p l)

pub loaded_stored_pointer : (o : Order) (d : Model) (size : ℕ) (m : Memory) (b here c q : ℕ)
    → here + pointer_bytes d ≤ size → here % pointer_bytes d ≡ 0
    → loaded o d size (stored o d m Pointer b here (pointer c q)) Pointer b here ≡ has (pointer c q)
loaded_stored_pointer o d size m b here c q fits aligned =
    loaded_pointer_at o d size (stored o d m Pointer b here (pointer c q)) b here c q fits aligned
    (λ k l. stored_covered o d m Pointer b here (pointer c q) k l)
