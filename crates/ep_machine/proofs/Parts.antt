-- Parts of pointers that are written, copied and forgotten.
use Rattle.std.proofs.Common.{◌≡◌, ℕ, ◌+◌, ◌-◌, ◌<◌, Bool, true, false, ◌&&◌, nat_eq, nat_lt, nat_le, if◌then◌else◌}
use Rattle.std.proofs.Common.{List, refl, arith}
use Rattle.std.proofs.lemmas.Bool.{and_parts}
use Rattle.std.proofs.lemmas.Bool.Decides.{nat_tests}
use Rattle.ep_int.specs.declared.types.Model.{Model}
use Rattle.ep_int.specs.declared.types.Order.{Order}
use Rattle.ep_int.specs.declared.types.Scalar.{Scalar}
use Rattle.ep_int.specs.declared.types.Scalar.TheVariants.{Int, Pointer}
use Rattle.ep_int.specs.Types.{size_of}
use Rattle.ep_int.specs.Memory.{Byte, undefined, number, fragment, Memory, Value, int, null, pointer, broken}
use Rattle.ep_int.specs.Memory.{bytes_of_value}
use Rattle.ep_int.specs.Memory.{contains, copied, filled, forgotten, killed, lies_partly, replaced, stored}
use Rattle.ep_machine.specs.Machines.{IsPart, ArePartsOf}

choice : (d : Model) (t : Bool) (x y : Byte) → IsPart d x → IsPart d y → IsPart d (if t then x else y)
choice d true x y h k = h
choice d false x y h k = k

broken_parts : (d : Model) (m : Memory) (b here n : ℕ) → ArePartsOf d m → ArePartsOf d (broken d m b here n)
broken_parts d m b here n h c q = choice d (nat_eq b c && lies_partly d here n (m c q) q) undefined (m c q) tt (h c q)

pub replaced_parts : (d : Model) (m : Memory) (b here n : ℕ) (new : ℕ → Byte) → ArePartsOf d m
    → ((k : ℕ) → k < n → IsPart d (new k)) → ArePartsOf d (replaced d m b here n new)
replaced_parts d m b here n new h i c q = by_test (nat_eq b c && (nat_le here q && nat_lt q (here + n))) refl
  where
    by_test : (t : Bool) → (nat_eq b c && (nat_le here q && nat_lt q (here + n))) ≡ t
        → IsPart d (if t then new (q - here) else broken d m b here n c q)
    by_test true e =
        let p = and_parts (nat_le here q) (nat_lt q (here + n)) (and_parts (nat_eq b c) _ e).1 in
        i (q - here) (grind (arith, nat_tests, p.0, p.1))
    by_test false e = broken_parts d m b here n h c q

value_part : (o : Order) (d : Model) (what : Scalar) (v : Value) (k : ℕ) → k < size_of d what
    → IsPart d (bytes_of_value o what v k)
value_part o d (Int t) (int v) k h = tt
value_part o d (Int t) null k h = tt
value_part o d (Int t) (pointer b q) k h = tt
value_part o d Pointer (int v) k h = tt
value_part o d Pointer null k h = tt
value_part o d Pointer (pointer b q) k h = h

pub stored_parts : (o : Order) (d : Model) (m : Memory) (what : Scalar) (b here : ℕ) (v : Value) → ArePartsOf d m
    → ArePartsOf d (stored o d m what b here v)
stored_parts o d m what b here v h =
    replaced_parts d m b here (size_of d what) (bytes_of_value o what v) h (value_part o d what v)

pub filled_parts : (d : Model) (m : Memory) (b here n v : ℕ) → ArePartsOf d m → ArePartsOf d (filled d m b here n v)
filled_parts d m b here n v h = replaced_parts d m b here n (λ k. number v) h (λ k l. tt)

pub copied_parts : (d : Model) (m : Memory) (b here c from n : ℕ) → ArePartsOf d m
    → ArePartsOf d (copied d m b here c from n)
copied_parts d m b here c from n h =
    replaced_parts d m b here n (λ k. broken d m c from n c (from + k)) h
    (λ k l. broken_parts d m c from n h c (from + k))

forgotten_part : (d : Model) (bs : List ℕ) (x : Byte) → IsPart d x → IsPart d (forgotten bs x)
forgotten_part d bs undefined h = tt
forgotten_part d bs (number v) h = tt
forgotten_part d bs (fragment b o k) h = choice d (contains b bs) undefined (fragment b o k) tt h

pub killed_parts : (d : Model) (bs : List ℕ) (m : Memory) → ArePartsOf d m → ArePartsOf d (killed bs m)
killed_parts d bs m h b q = choice d (contains b bs) undefined (forgotten bs (m b q)) tt (forgotten_part d bs (m b q) (h b q))
