-- What stands in a place that is copied stands there too where pointers that lie partly in the place are undefined.
use Rattle.std.proofs.Common.{◌≡◌, ℕ, ◌+◌, ◌≤◌, Bool, true, false, ◌&&◌, not, nat_eq, nat_le, nat_lt, cond, Option}
use Rattle.std.proofs.Common.{Some, None, inl, inr, ⊎_elim, refl, ap, ◌∙◌, arith}
use Rattle.std.proofs.lemmas.Bool.{and_from, and_right, le-leb}
use Rattle.ep_int.specs.declared.types.IntType.{IntType}
use Rattle.ep_int.specs.declared.types.Model.{Model}
use Rattle.ep_int.specs.declared.types.Order.{Order}
use Rattle.ep_int.specs.declared.types.Scalar.{Scalar}
use Rattle.ep_int.specs.declared.types.Scalar.TheVariants.{Int, Pointer}
use Rattle.ep_int.specs.Types.{pointer_bytes, size_of}
use Rattle.ep_int.specs.Encoding.{encoded}
use Rattle.ep_int.specs.Memory.{Byte, undefined, number, fragment, Memory, Value as Datum, int, null, pointer}
use Rattle.ep_int.specs.Memory.{is_number, lies_partly, broken, bytes_of_value}
use Rattle.ep_cells.specs.Meaning.{HasBytes}
use Rattle.ep_reads.proofs.ByteCells.{IsLoose}

pub not_both : (a t : Bool) → t ≡ true → (a && not t) ≡ false
not_both a true e = and_right a false refl
not_both a false e = absurd (cc)

module _ (d : Model) (m : Memory) (b here n c p : ℕ) where
  abbrev breaks : Byte → Bool
  breaks y = nat_eq b c && lies_partly d here n y p

  kept_if : (y : Byte) → m c p ≡ y → breaks y ≡ false → broken d m b here n c p ≡ y
  kept_if y e f = ap (λ z. cond (breaks z) undefined z) e ∙ ap (λ t. cond t undefined y) f

  pub number_kept : (v : ℕ) → m c p ≡ number v → broken d m b here n c p ≡ number v
  number_kept v e = kept_if (number v) e (and_right (nat_eq b c) false refl)

  pub nothing_kept : m c p ≡ undefined → broken d m b here n c p ≡ undefined
  nothing_kept e = kept_if undefined e (and_right (nat_eq b c) false refl)

  none_if : (t : Bool) → is_number (m c p) ≡ false → is_number (cond t undefined (m c p)) ≡ false
  none_if true e = refl
  none_if false e = e

  pub others_kept : is_number (m c p) ≡ false → is_number (broken d m b here n c p) ≡ false
  others_kept e = none_if (breaks (m c p)) e

  pub integer_loose : (t : IntType) → IsLoose (Int t) (m c p) (broken d m b here n c p)
  integer_loose t = record {
    numbers = λ k e. number_kept k e;
    nothing = λ e. nothing_kept e;
    others = λ e. others_kept e;
    parts = λ e f. absurd (cc);
  }

low_part : (here q t : ℕ) → here ≤ q → here + t ≤ q + t
low_part here q t l = omega (arith, l)

high_part : (here q n t z : ℕ) → q + z ≤ here + n → q + t + z ≤ here + n + t
high_part here q n t z l = omega (arith, l)

part_kept : (d : Model) (m : Memory) (b here n c q e o t : ℕ) → here ≤ q → q + pointer_bytes d ≤ here + n
    → m c (q + t) ≡ fragment e o t → broken d m b here n c (q + t) ≡ fragment e o t
part_kept d m b here n c q e o t lo hi h =
    let z = pointer_bytes d in
    let own = nat_le (here + t) (q + t) && nat_le (q + t + z) (here + n + t) in
    let near = nat_lt (q + t) (here + n + t) && nat_lt (here + t) (q + t + z) in
    let whole : own ≡ true = and_from (nat_le (here + t) (q + t)) (nat_le (q + t + z) (here + n + t))
    (le-leb (here + t) (q + t) (low_part here q t lo)) (le-leb (q + t + z) (here + n + t) (high_part here q n t z hi))
    in
    kept_if d m b here n c (q + t) (fragment e o t) h
    (ap (λ x. nat_eq b c && x) (not_both near own whole) ∙ and_right (nat_eq b c) false refl)

module _ (o : Order) (d : Model) (m : Memory) (b here n c q : ℕ) (lo : here ≤ q) where
  value_kept : (w : Scalar) (v : Datum) (p : ℕ) → q + size_of d w ≤ here + n → m c (q + p) ≡ bytes_of_value o w v p
      → broken d m b here n c (q + p) ≡ bytes_of_value o w v p
  value_kept (Int t) (int z) p hi e = number_kept d m b here n c (q + p) (encoded o t z p) e
  value_kept (Int t) null p hi e = nothing_kept d m b here n c (q + p) e
  value_kept (Int t) (pointer x y) p hi e = nothing_kept d m b here n c (q + p) e
  value_kept Pointer (int z) p hi e = nothing_kept d m b here n c (q + p) e
  value_kept Pointer null p hi e = number_kept d m b here n c (q + p) 0 e
  value_kept Pointer (pointer x y) p hi e = part_kept d m b here n c q x y p lo hi e

  pub value_there : (w : Scalar) (maybe : Bool) (v : Option Datum) → q + size_of d w ≤ here + n
      → HasBytes o m (size_of d w) w maybe c q v → HasBytes o (broken d m b here n) (size_of d w) w maybe c q v
  value_there w maybe None hi h = λ p l. nothing_kept d m b here n c (q + p) (h p l)
  value_there w false (Some v) hi h = λ p l. value_kept w v p hi (h p l)
  value_there (Int t) true (Some v) hi h =
      λ p l. ⊎_elim (λ i. inl (value_kept (Int t) v p hi i)) (λ i. inr (others_kept d m b here n c (q + p) i)) (h p l)
  value_there Pointer true (Some v) hi h =
      ⊎_elim (λ i. inl (λ p l. value_kept Pointer v p hi (i p l)))
      (λ i. inr (λ p l. nothing_kept d m b here n c (q + p) (i p l))) h
