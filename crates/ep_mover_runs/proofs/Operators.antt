-- What the operators and conversions of movers give at numbers with these bytes.
use Rattle.std.proofs.Common.{◌≡◌, ℕ, zero, suc, ◌+◌, ◌*◌, ◌/◌, ◌%◌, ◌^◌, ◌<◌, ◌≤◌, ℤ, pos, ◌*ℤ◌, Bool, true}
use Rattle.std.proofs.Common.{false, ◌&&◌, ◌||◌, nat_eq, nat_lt, nat_le, not, if◌then◌else◌, List, Option, Some, None}
use Rattle.std.proofs.Common.{Result, Ok}
use Rattle.std.proofs.Common.{Err, refl, sym, ◌∙◌, ap, subst, arith, bit_and, bit_or}
use Rattle.std.specs.Prelude.{bit_xor, int_le, int_lt, unsigned_abs}
use Rattle.std.specs.Int.{int_shr}
use Rattle.std.proofs.lemmas.Bool.{and_parts, and_from, eqb-true, ltb-true, leb-true}
use Rattle.std.proofs.lemmas.Int.{ints}
use Rattle.std.proofs.lemmas.Nat.{and_comm, div-add-mod'}
use Rattle.std.proofs.Math.Nat.{mod-eq_of_lt}
use Rattle.ep_int.specs.declared.types.IntType.{IntType}
use Rattle.ep_int.specs.declared.types.IntType.TheVariants.{I8, U8, I16, U16, I32, U32, I64, U64}
use Rattle.ep_int.specs.declared.types.BinOp.{BinOp}
use Rattle.ep_int.specs.declared.types.BinOp.TheVariants.{Add, Sub, Mul, Div, Rem, And, Or, Xor, Shl, Shr}
use Rattle.ep_int.specs.declared.types.Undef.TheVariants.{Overflow, Shift}
use Rattle.ep_int.specs.Types.{bytes_of, bits_of, is_signed, InRange, residue, representation, represented, wrapped}
use Rattle.ep_int.specs.Arith.{is_in_range, is_amount, arith_of, settled}
use Rattle.ep_int.specs.Memory.{int, Found, has}
use Rattle.ep_int.proofs.Encodings.{bytes_pow}
use Rattle.ep_int.proofs.Wrapping.{represented_in_range, wrapped_same}
use Rattle.ep_int.proofs.Arithmetic.{le_test, in_range_from_true, settled_unsigned}
use Rattle.ep_core.specs.Exec.{result_of}
use Rattle.ep_movers.specs.declared.Stop.{Stop}
use Rattle.ep_movers.specs.declared.Stop.TheVariants.{Foreign, Faulty}
use Rattle.ep_movers.specs.Symbols.{Symbol, merged, masked, moved_up, moved_down, shifted, bytes_moved}
use Rattle.ep_movers.specs.Symbols.{resized, is_mask, masked_by, are_whole, operated}
use Rattle.ep_movers.specs.Forms.{is_operated_in, is_byte_amount, is_moving_op, is_small}
use Rattle.ep_mover_runs.specs.Following.{number_in, AreBytes, ValueFollows}
use Rattle.ep_mover_runs.proofs.Numbers.{Makes, number_below, merged_sum, merged_or, merged_xor, masked_made}
use Rattle.ep_mover_runs.proofs.Numbers.{merged_foreign}
use Rattle.ep_mover_runs.proofs.Numbers.{moved_up_made, moved_down_made, resized_made}

-- ---- unsigned types

pub bytes_few : (t : IntType) → bytes_of t ≤ 8
bytes_few I8 = omega arith
bytes_few U8 = omega arith
bytes_few I16 = omega arith
bytes_few U16 = omega arith
bytes_few I32 = omega arith
bytes_few U32 = omega arith
bytes_few I64 = omega arith
bytes_few U64 = omega arith

pub unsigned_represented : (t : IntType) (n : ℕ) → is_signed t ≡ false → represented t n ≡ pos n
unsigned_represented I8 n e = absurd cc
unsigned_represented U8 n e = refl
unsigned_represented I16 n e = absurd cc
unsigned_represented U16 n e = refl
unsigned_represented I32 n e = absurd cc
unsigned_represented U32 n e = refl
unsigned_represented I64 n e = absurd cc
unsigned_represented U64 n e = refl

pub unsigned_wrapped : (t : IntType) (n : ℕ) → is_signed t ≡ false → wrapped t (pos n) ≡ pos (n % 2 ^ bits_of t)
unsigned_wrapped t n e = unsigned_represented t (representation t (pos n)) e

pub unsigned_range : (t : IntType) (n : ℕ) → is_signed t ≡ false → n < 2 ^ bits_of t → InRange t (pos n)
unsigned_range t n e l = subst (InRange t) (unsigned_represented t n e) (represented_in_range t n l)

pub operated_unsigned : (t : IntType) → is_operated_in t ≡ true → is_signed t ≡ false
operated_unsigned I8 h = absurd cc
operated_unsigned U8 h = absurd cc
operated_unsigned I16 h = absurd cc
operated_unsigned U16 h = absurd cc
operated_unsigned I32 h = absurd cc
operated_unsigned U32 h = refl
operated_unsigned I64 h = absurd cc
operated_unsigned U64 h = refl

-- ---- operators at numbers

shl_at : (t : IntType) (x y : ℤ) → is_amount t y ≡ true → int_le (pos 0) x ≡ true
    → arith_of Shl t x y ≡ settled Shift t (x *ℤ pos (2 ^ unsigned_abs y))
shl_at t x y a b = rw (a, b) refl

shr_at : (t : IntType) (x y : ℤ) → is_amount t y ≡ true → arith_of Shr t x y ≡ Ok (int_shr x (unsigned_abs y))
shr_at t x y a = rw a refl

pub below_test : (a b : ℕ) → a < b → int_lt (pos a) (pos b) ≡ true
below_test a b l = grind (arith, ints)

amount_test : (t : IntType) (y : ℕ) → y < bits_of t → is_amount t (pos y) ≡ true
amount_test t y l =
    and_from (int_le (pos 0) (pos y)) (int_lt (pos y) (pos (bits_of t))) (le_test (pos 0) (pos y) (omega (arith, ints)))
    (below_test y (bits_of t) l)

-- an amount of whole bytes
record Amount (t : IntType) (y : ℕ) : Type 0 where
  bytes : ℕ
  is : bytes_moved (pos y) ≡ bytes
  bits : y ≡ 8 * bytes
  below : bytes < bytes_of t

amount_of : (t : IntType) (y : ℕ) → is_byte_amount t (Some (pos y)) ≡ true → Amount t y
amount_of t y h =
    let r = residue 256 (pos y) in
    let s = and_parts (is_in_range U8 (pos y)) (nat_eq (r % 8) 0 && nat_lt (r / 8) (bytes_of t)) h in
    let q = and_parts (nat_eq (r % 8) 0) (nat_lt (r / 8) (bytes_of t)) s.1 in
    let high = (in_range_from_true U8 (pos y) s.0).high in
    let small : y < 256 = omega (arith, ints, high) in
    let same : y % 256 ≡ y = mod-eq_of_lt small in
    let whole : y % 256 % 8 ≡ 0 = eqb-true (r % 8) 0 q.0 in
    let parts = div-add-mod' (y % 256) 8 in
    record {
      bytes = y % 256 / 8;
      is = refl;
      bits = omega (arith, same, whole, parts);
      below =
          ltb-true (r / 8) (bytes_of t) q.1;
    }

module _ (inputs : List ℕ) where
  pub from_made : (t : IntType) (n : ℕ) (zs : List Symbol) (v : Found) → is_signed t ≡ false
      → Makes inputs (bytes_of t) n zs → v ≡ has (int (pos n)) → ValueFollows inputs t (Ok zs) v
  from_made t n zs v e m q =
      let below : number_in inputs zs < 2 ^ bits_of t
      = subst (λ k. number_in inputs zs < k) (bytes_pow (bytes_of t)) (number_below inputs (bytes_of t) zs m.bytes) in
      (q ∙ ap (λ k. has (int (pos k))) (sym m.number), unsigned_range t (number_in inputs zs) e below, m.bytes)

  -- no number is larger than its bytes allow
  pub made_below : (t : IntType) (n : ℕ) (zs : List Symbol) → Makes inputs (bytes_of t) n zs → n < 2 ^ bits_of t
  made_below t n zs m = omega (arith, m.number, number_below inputs (bytes_of t) zs m.bytes, bytes_pow (bytes_of t))

  pub number_fits : (t : IntType) (xs : List Symbol) → AreBytes (bytes_of t) xs → number_in inputs xs < 2 ^ bits_of t
  number_fits t xs h = omega (arith, number_below inputs (bytes_of t) xs h, bytes_pow (bytes_of t))

  merged_follows : (t : IntType) (n : ℕ) (xs ys : List Symbol) (v : Found) → is_signed t ≡ false
      → ((zs : List Symbol) → merged xs ys ≡ Ok zs → Makes inputs (bytes_of t) n zs)
      → ((zs : List Symbol) → Makes inputs (bytes_of t) n zs → v ≡ has (int (pos n)))
      → ValueFollows inputs t (merged xs ys) v
  merged_follows t n xs ys v e made value = split (merged xs ys) refl
    where
      split : (r : Result (List Symbol) Stop) → merged xs ys ≡ r → ValueFollows inputs t r v
      split (Ok zs) q = let m = made zs q in from_made t n zs v e m (value zs m)
      split (Err Foreign) q = tt
      split (Err Faulty) q = absurd (let bad = merged_foreign xs ys Faulty q in cc)

  module _ (t : IntType) (u v : Option ℤ) (xs ys : List Symbol) (y : ℕ) (e : is_signed t ≡ false)
      (left : AreBytes (bytes_of t) xs) (right : AreBytes (bytes_of t) ys) (is : y ≡ number_in inputs ys)
    where
      x : ℕ
      x = number_in inputs xs

      y_fits : y < 2 ^ bits_of t
      y_fits = omega (arith, is, number_fits t ys right)

      add_follows : ValueFollows inputs t (merged xs ys)
          (result_of (arith_of Add t (pos (number_in inputs xs)) (pos y)))
      add_follows =
          merged_follows t (number_in inputs xs + y) xs ys
          (result_of (arith_of Add t (pos (number_in inputs xs)) (pos y))) e
          (λ zs q. subst (λ k. Makes inputs (bytes_of t) (number_in inputs xs + k) zs) (sym is)
          (merged_sum inputs (bytes_of t) xs ys zs left right q))
          (λ zs m. ap result_of (sym (settled_unsigned Overflow t (pos (number_in inputs xs + y)) e))
          ∙ ap (λ z. has (int z)) (unsigned_wrapped t (number_in inputs xs + y) e
          ∙ ap pos (mod-eq_of_lt (made_below t (number_in inputs xs + y) zs m))))

      both_bits : (op : ℕ → ℕ → ℕ)
          → op (representation t (pos (number_in inputs xs))) (representation t (pos y)) ≡ op (number_in inputs xs) y
      both_bits op =
          ap (λ k. op k (representation t (pos y))) (mod-eq_of_lt (number_fits t xs left))
          ∙ ap (op (number_in inputs xs)) (mod-eq_of_lt y_fits)

      bits_found : (n m : ℕ) → n ≡ m → has (int (represented t n)) ≡ has (int (pos m))
      bits_found n m q = ap (λ z. has (int z)) (unsigned_represented t n e ∙ ap pos q)

      or_follows : ValueFollows inputs t (merged xs ys) (result_of (arith_of Or t (pos (number_in inputs xs)) (pos y)))
      or_follows =
          merged_follows t (bit_or (number_in inputs xs) y) xs ys
          (result_of (arith_of Or t (pos (number_in inputs xs)) (pos y))) e
          (λ zs q. subst (λ k. Makes inputs (bytes_of t) (bit_or (number_in inputs xs) k) zs) (sym is)
          (merged_or inputs (bytes_of t) xs ys zs left right q))
          (λ zs m. bits_found _ _ (both_bits bit_or))

      xor_follows : ValueFollows inputs t (merged xs ys)
          (result_of (arith_of Xor t (pos (number_in inputs xs)) (pos y)))
      xor_follows =
          merged_follows t (bit_xor (number_in inputs xs) y) xs ys
          (result_of (arith_of Xor t (pos (number_in inputs xs)) (pos y))) e
          (λ zs q. subst (λ k. Makes inputs (bytes_of t) (bit_xor (number_in inputs xs) k) zs) (sym is)
          (merged_xor inputs (bytes_of t) xs ys zs left right q))
          (λ zs m. bits_found _ _ (both_bits bit_xor))

      to_powers : (n : ℕ) → n < 2 ^ bits_of t → n < 256 ^ bytes_of t
      to_powers n l = omega (arith, l, bytes_pow (bytes_of t))

      right_mask : (w : Option ℤ) → is_mask w ≡ true → ((c : ℤ) → w ≡ Some c → c ≡ pos y)
          → ValueFollows inputs t (masked_by w xs) (result_of (arith_of And t (pos (number_in inputs xs)) (pos y)))
      right_mask None h c = absurd cc
      right_mask (Some k) h c =
          let same = c k refl in
          subst (λ z. ValueFollows inputs t (Ok (masked z 0 xs))
          (result_of (arith_of And t (pos (number_in inputs xs)) (pos y))))
          (sym same)
          (from_made t (bit_and (number_in inputs xs) y) (masked (pos y) 0 xs)
          (result_of (arith_of And t (pos (number_in inputs xs)) (pos y))) e
          (masked_made inputs (bytes_of t) y xs left (bytes_few t) (to_powers y y_fits)
          (subst (λ z. are_whole z 0 8 ≡ true) same h))
          (bits_found _ _ (both_bits bit_and)))

      left_mask : (w : Option ℤ) → is_mask w ≡ true → ((c : ℤ) → w ≡ Some c → c ≡ pos (number_in inputs xs))
          → ValueFollows inputs t (masked_by w ys) (result_of (arith_of And t (pos (number_in inputs xs)) (pos y)))
      left_mask None h c = absurd cc
      left_mask (Some k) h c =
          let same = c k refl in
          let n = number_in inputs xs in
          let m = masked_made inputs (bytes_of t) n ys right (bytes_few t) (to_powers n (number_fits t xs left))
          (subst (λ z. are_whole z 0 8 ≡ true) same h) in
          subst (λ z. ValueFollows inputs t (Ok (masked z 0 ys)) (result_of (arith_of And t (pos n) (pos y))))
          (sym same)
          (from_made t (bit_and (number_in inputs ys) n) (masked (pos n) 0 ys)
          (result_of (arith_of And t (pos n) (pos y))) e m
          (bits_found _ _ (both_bits bit_and ∙ and_comm n y ∙ ap (λ k. bit_and k n) is)))

      and_follows : (is_mask v || is_mask u) ≡ true → ((c : ℤ) → u ≡ Some c → c ≡ pos (number_in inputs xs))
          → ((c : ℤ) → v ≡ Some c → c ≡ pos y)
          → ValueFollows inputs t (operated And u v xs ys)
          (result_of (arith_of And t (pos (number_in inputs xs)) (pos y)))
      and_follows h cu cv = split (is_mask v) refl h
        where
          split : (c : Bool) → is_mask v ≡ c → (c || is_mask u) ≡ true
              → ValueFollows inputs t (if c then masked_by v xs else masked_by u ys)
              (result_of (arith_of And t (pos (number_in inputs xs)) (pos y)))
          split true q h = right_mask v q cv
          split false q h = left_mask u h cu

  module _ (t : IntType) (xs : List Symbol) (y : ℕ) (e : is_signed t ≡ false) (left : AreBytes (bytes_of t) xs) where
    shl_value : (a : Amount t y) → result_of (arith_of Shl t (pos (number_in inputs xs)) (pos y))
        ≡ has (int (pos (number_in inputs xs * 256 ^ a.bytes % 256 ^ bytes_of t)))
    shl_value a =
        let n = number_in inputs xs in
        let few : y < bits_of t = omega (arith, a.bits, a.below) in
        let power : 2 ^ y ≡ 256 ^ a.bytes = ap (λ k. 2 ^ k) a.bits ∙ sym (bytes_pow a.bytes) in
        ap result_of (shl_at t (pos n) (pos y) (amount_test t y few) (le_test (pos 0) (pos n) (omega (arith, ints)))
        ∙ sym (settled_unsigned Shift t (pos (n * 2 ^ y)) e))
        ∙ ap (λ z. has (int z)) (unsigned_wrapped t (n * 2 ^ y) e
        ∙ ap (λ k. pos (n * k % 2 ^ bits_of t)) power
        ∙ ap (λ k. pos (n * 256 ^ a.bytes % k)) (sym (bytes_pow (bytes_of t))))

    shr_value : (a : Amount t y) → result_of (arith_of Shr t (pos (number_in inputs xs)) (pos y))
        ≡ has (int (pos (number_in inputs xs / 256 ^ a.bytes)))
    shr_value a =
        let n = number_in inputs xs in
        let few : y < bits_of t = omega (arith, a.bits, a.below) in
        let power : 2 ^ y ≡ 256 ^ a.bytes = ap (λ k. 2 ^ k) a.bits ∙ sym (bytes_pow a.bytes) in
        ap result_of (shr_at t (pos n) (pos y) (amount_test t y few)) ∙ ap (λ k. has (int (pos (n / k)))) power

    shl_follows : (v : Option ℤ) → is_byte_amount t v ≡ true → ((c : ℤ) → v ≡ Some c → c ≡ pos y)
        → ValueFollows inputs t (shifted moved_up v xs) (result_of (arith_of Shl t (pos (number_in inputs xs)) (pos y)))
    shl_follows None h c = absurd cc
    shl_follows (Some k) h c =
        let same = c k refl in
        let a = amount_of t y (subst (λ z. is_byte_amount t (Some z) ≡ true) same h) in
        subst (λ z. ValueFollows inputs t (Ok (moved_up (bytes_moved z) xs))
        (result_of (arith_of Shl t (pos (number_in inputs xs)) (pos y)))) (sym same)
        (subst (λ j. ValueFollows inputs t (Ok (moved_up j xs))
        (result_of (arith_of Shl t (pos (number_in inputs xs)) (pos y))))
        (sym a.is)
        (from_made t (number_in inputs xs * 256 ^ a.bytes % 256 ^ bytes_of t) (moved_up a.bytes xs)
        (result_of (arith_of Shl t (pos (number_in inputs xs)) (pos y))) e
        (moved_up_made inputs (bytes_of t) a.bytes xs left) (shl_value a)))

    shr_follows : (v : Option ℤ) → is_byte_amount t v ≡ true → ((c : ℤ) → v ≡ Some c → c ≡ pos y)
        → ValueFollows inputs t (shifted moved_down v xs)
        (result_of (arith_of Shr t (pos (number_in inputs xs)) (pos y)))
    shr_follows None h c = absurd cc
    shr_follows (Some k) h c =
        let same = c k refl in
        let a = amount_of t y (subst (λ z. is_byte_amount t (Some z) ≡ true) same h) in
        let few : a.bytes ≤ bytes_of t = omega (arith, a.below) in
        subst (λ z. ValueFollows inputs t (Ok (moved_down (bytes_moved z) xs))
        (result_of (arith_of Shr t (pos (number_in inputs xs)) (pos y)))) (sym same)
        (subst (λ j. ValueFollows inputs t (Ok (moved_down j xs))
        (result_of (arith_of Shr t (pos (number_in inputs xs)) (pos y))))
        (sym a.is)
        (from_made t (number_in inputs xs / 256 ^ a.bytes) (moved_down a.bytes xs)
        (result_of (arith_of Shr t (pos (number_in inputs xs)) (pos y))) e
        (moved_down_made inputs (bytes_of t) a.bytes xs left few) (shr_value a)))

  -- what is known of the right operand
  abbrev pub IsRight : BinOp → IntType → List Symbol → Type 0
  IsRight Shl t ys = Unit {0}
  IsRight Shr t ys = Unit {0}
  IsRight op t ys = AreBytes (bytes_of t) ys

  pub operated_follows : (op : BinOp) (t : IntType) (u v : Option ℤ) (xs ys : List Symbol)
      → is_moving_op op t u v ≡ true → AreBytes (bytes_of t) xs → IsRight op t ys
      → ((c : ℤ) → u ≡ Some c → c ≡ pos (number_in inputs xs)) → ((c : ℤ) → v ≡ Some c → c ≡ pos (number_in inputs ys))
      → ValueFollows inputs t (operated op u v xs ys)
      (result_of (arith_of op t (pos (number_in inputs xs)) (pos (number_in inputs ys))))
  operated_follows Add t u v xs ys h l r cu cv =
      add_follows t u v xs ys (number_in inputs ys) (operated_unsigned t h) l r refl
  operated_follows Or t u v xs ys h l r cu cv =
      or_follows t u v xs ys (number_in inputs ys) (operated_unsigned t h) l r refl
  operated_follows Xor t u v xs ys h l r cu cv =
      xor_follows t u v xs ys (number_in inputs ys) (operated_unsigned t h) l r refl
  operated_follows And t u v xs ys h l r cu cv =
      let s = and_parts (is_operated_in t) (is_mask v || is_mask u) h in
      and_follows t u v xs ys (number_in inputs ys) (operated_unsigned t s.0) l r refl s.1 cu cv
  operated_follows Shl t u v xs ys h l r cu cv =
      let s = and_parts (is_operated_in t) (is_byte_amount t v) h in
      shl_follows t xs (number_in inputs ys) (operated_unsigned t s.0) l v s.1 cv
  operated_follows Shr t u v xs ys h l r cu cv =
      let s = and_parts (is_operated_in t) (is_byte_amount t v) h in
      shr_follows t xs (number_in inputs ys) (operated_unsigned t s.0) l v s.1 cv
  operated_follows Sub t u v xs ys h l r cu cv = absurd cc
  operated_follows Mul t u v xs ys h l r cu cv = absurd cc
  operated_follows Div t u v xs ys h l r cu cv = absurd cc
  operated_follows Rem t u v xs ys h l r cu cv = absurd cc

  -- ---- conversions

  pub unsigned_follows : (t u : IntType) (xs : List Symbol) → is_signed t ≡ false → AreBytes (bytes_of u) xs
      → ValueFollows inputs t (Ok (resized t xs)) (has (int (wrapped t (pos (number_in inputs xs)))))
  unsigned_follows t u xs e h =
      from_made t (number_in inputs xs % 256 ^ bytes_of t) (resized t xs)
      (has (int (wrapped t (pos (number_in inputs xs))))) e
      (resized_made inputs (bytes_of t) (bytes_of u) xs h (bytes_few t))
      (ap (λ z. has (int z)) (unsigned_wrapped t (number_in inputs xs) e
      ∙ ap (λ k. pos (number_in inputs xs % k)) (sym (bytes_pow (bytes_of t)))))

  -- a promotion (C11 6.3.1.1)
  promoted_number : (n : ℕ) → n < 65536 → wrapped I32 (pos n) ≡ pos n
  promoted_number n l = wrapped_same I32 (pos n) (record { low = omega (arith, ints); high = omega (arith, ints) })

  promoted_from : (u : IntType) (xs : List Symbol) → bytes_of u ≤ 2 → AreBytes (bytes_of u) xs
      → ValueFollows inputs I32 (Ok (resized I32 xs)) (has (int (wrapped I32 (pos (number_in inputs xs)))))
  promoted_from u xs few h =
      let n = number_in inputs xs in
      let small : n < 65536 = small_below (bytes_of u) few (number_below inputs (bytes_of u) xs h) in
      let m = resized_made inputs 4 (bytes_of u) xs h (omega arith) in
      let wide : n < 256 ^ 4 = omega arith in
      let kept : n % 256 ^ 4 ≡ n = mod-eq_of_lt wide in
      let same : number_in inputs (resized I32 xs) ≡ n = m.number ∙ kept in (
        ap (λ z. has (int z)) (promoted_number n small ∙ ap pos (sym same)),
        (let low : number_in inputs (resized I32 xs) < 65536 = omega (arith, same, small) in
            record { low = omega (arith, ints); high = omega (arith, ints) }),
        m.bytes,
      )
    where
      small_below : (w : ℕ) → w ≤ 2 → number_in inputs xs < 256 ^ w → number_in inputs xs < 65536
      small_below zero l h = omega arith
      small_below (suc zero) l h = omega arith
      small_below (suc (suc zero)) l h = omega arith
      small_below (suc (suc (suc w))) l h = absurd (omega arith)

  pub promoted_follows : (u : IntType) (xs : List Symbol) → is_small u ≡ true → AreBytes (bytes_of u) xs
      → ValueFollows inputs I32 (Ok (resized I32 xs)) (has (int (wrapped I32 (pos (number_in inputs xs)))))
  promoted_follows u xs s h =
      promoted_from u xs (leb-true (bytes_of u) 2 (and_parts (not (is_signed u)) (nat_le (bytes_of u) 2) s).1) h
