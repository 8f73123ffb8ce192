-- What operators and conversions make of the bits of bytes.
use Rattle.std.proofs.Common.{◌≡◌, ℕ, zero, suc, ◌+◌, ◌-◌, ◌*◌, ◌/◌, ◌%◌, ◌^◌, ◌<◌, ◌≤◌, ℤ, pos, Bool, true}
use Rattle.std.proofs.Common.{false, cond, length-drop}
use Rattle.std.proofs.Common.{◌||◌, nat_lt, nat_eq, eqb-true, List, [], ◌∷◌, ◌++◌, length, take, drop, Result}
use Rattle.std.proofs.Common.{Ok, Err, sym, refl, ap, ◌∙◌, subst, arith, length-append}
use Rattle.std.specs.List.{list_all}
use Rattle.std.proofs.lemmas.Bool.{and_parts, and_from}
use Rattle.std.proofs.lemmas.List.{length-take-le, take-append-le}
use Rattle.std.proofs.lemmas.Nat.{mod-pow-add}
use Rattle.std.proofs.lemmas.Nat.Bits.{bit_at-zero, bit_at_ones}
use Rattle.std.proofs.Math.Nat.{pow-suc, div-div-eq-div-mul}
use Rattle.std.proofs.Math.Seq.{take-append_seam, take-append-add}
use Rattle.ep_int.specs.declared.types.IntType.{IntType}
use Rattle.ep_int.specs.declared.types.IntType.TheVariants.{I8, U8, I16, U16, I32, U32, I64, U64}
use Rattle.ep_int.specs.Types.{bytes_of, bits_of, residue, representation}
use Rattle.ep_int.proofs.Basics.{take-all}
use Rattle.ep_int.proofs.Encodings.{byte_below}
use Rattle.ep_bitslice.specs.Bits.{Bit, fixed, cell_bit, zeros, shifted_left, shifted_right, is_odd, are_disjoint}
use Rattle.ep_bitslice.specs.Bits.{either_of, extended, masked as masked_bits}
use Rattle.ep_bitslice.specs.Segments.{fixed_bits}
use Rattle.ep_bitslice.proofs.Joining.{fixed_bits-add}
use Rattle.ep_bitslice.proofs.Numbers.{residue-split}
use Rattle.ep_bitslice.proofs.Pieces.{fixed_bits-mod, fixed_zeros, masked-ones, masked-zeros, masked-append}
use Rattle.ep_bitslice.proofs.Pieces.{disjoint-append, either-append, disjoint-zeros, zeros-disjoint, either-zeros}
use Rattle.ep_movers.specs.Symbols.{Symbol, unset, fixed_byte, input_byte, goes_on, number_byte}
use Rattle.ep_movers.specs.declared.Stop.{Stop}
use Rattle.ep_movers.specs.declared.Stop.TheVariants.{Foreign}
use Rattle.ep_movers.specs.Symbols.{fixed_bytes, zeros as zero_list, is_zero, merged_byte, merged, masked, moved_up}
use Rattle.ep_movers.specs.Symbols.{moved_down, resized, are_whole}
use Rattle.ep_movers.specs.Movers.{input_bytes}
use Rattle.ep_mover_bits.specs.Laws.{Inputs, bits_of_symbol, bits_of_bytes, is_byte}
use Rattle.ep_mover_bits.proofs.Bytes.{length_byte, length_bytes, append_bytes, take_bytes, drop_bytes, zero_byte}
use Rattle.ep_mover_bits.proofs.Bytes.{zero_bytes}

pub bytes_most : (t : IntType) → bytes_of t ≤ 8
bytes_most I8 = omega arith
bytes_most U8 = omega arith
bytes_most I16 = omega arith
bytes_most U16 = omega arith
bytes_most I32 = omega arith
bytes_most U32 = omega arith
bytes_most I64 = omega arith
bytes_most U64 = omega arith

-- ---- lists of bytes

pub all_append : (xs ys : List Symbol) → list_all is_byte xs ≡ true → list_all is_byte ys ≡ true
    → list_all is_byte (xs ++ ys) ≡ true
all_append [] ys h k = k
all_append (x ∷ xs) ys h k =
    let p = and_parts (is_byte x) (list_all is_byte xs) h in
    and_from (is_byte x) (list_all is_byte (xs ++ ys)) p.0 (all_append xs ys p.1 k)

pub all_take : (n : ℕ) (xs : List Symbol) → list_all is_byte xs ≡ true → list_all is_byte (take n xs) ≡ true
all_take zero xs h = refl
all_take (suc n) [] h = refl
all_take (suc n) (x ∷ xs) h =
    let p = and_parts (is_byte x) (list_all is_byte xs) h in
    and_from (is_byte x) (list_all is_byte (take n xs)) p.0 (all_take n xs p.1)

pub all_drop : (n : ℕ) (xs : List Symbol) → list_all is_byte xs ≡ true → list_all is_byte (drop n xs) ≡ true
all_drop zero xs h = h
all_drop (suc n) [] h = refl
all_drop (suc n) (x ∷ xs) h = all_drop n xs (and_parts (is_byte x) (list_all is_byte xs) h).1

is_below : (n : ℕ) → n < 256 → nat_lt n 256 ≡ true
is_below n h = search arith

pub all_fixed : (v : ℤ) (k n : ℕ) → list_all is_byte (fixed_bytes v k n) ≡ true
all_fixed v k zero = refl
all_fixed v k (suc n) =
    and_from (nat_lt (number_byte v k) 256) (list_all is_byte (fixed_bytes v (suc k) n))
    (is_below (number_byte v k) (byte_below k (residue (2 ^ 64) v))) (all_fixed v (suc k) n)

pub all_input : (i k n : ℕ) → list_all is_byte (input_bytes i k n) ≡ true
all_input i k zero = refl
all_input i k (suc n) = all_input i (suc k) n

pub length_fixed : (v : ℤ) (k n : ℕ) → length (fixed_bytes v k n) ≡ n
length_fixed v k zero = refl
length_fixed v k (suc n) = ap suc (length_fixed v (suc k) n)

pub length_input : (i k n : ℕ) → length (input_bytes i k n) ≡ n
length_input i k zero = refl
length_input i k (suc n) = ap suc (length_input i (suc k) n)

take_fixed : (v : ℤ) (k m n : ℕ) → m ≤ n → take m (fixed_bytes v k n) ≡ fixed_bytes v k m
take_fixed v k zero n h = refl
take_fixed v k (suc m) zero h = absurd (omega arith)
take_fixed v k (suc m) (suc n) h =
    ap (λ xs. fixed_byte (number_byte v k) ∷ xs) (take_fixed v (suc k) m n (omega arith))

-- ---- bytes moved

pub up_list : (n : ℕ) (xs : List Symbol) → n ≤ length xs
    → moved_up n xs ≡ zero_list n ++ take (length xs - n) xs
up_list n xs h =
    let e : length xs ≡ length (zero_list n) + (length xs - n) = omega (arith, length_fixed (pos 0) 0 n) in
    ap (λ m. take m (zero_list n ++ xs)) e ∙ take-append-add (zero_list n) xs (length xs - n)

pub down_list : (n : ℕ) (xs : List Symbol) → n ≤ length xs → moved_down n xs ≡ drop n xs ++ zero_list n
down_list n xs h =
    take-all (length xs) (drop n xs ++ zero_list n)
    (omega (arith, length-append (drop n xs) (zero_list n), length-drop n xs, length_fixed (pos 0) 0 n))

pub length_up : (n : ℕ) (xs : List Symbol) → n ≤ length xs → length (moved_up n xs) ≡ length xs
length_up n xs h =
    let k : length xs - n ≤ length xs = omega arith in
    omega (
      arith,
      ap length (up_list n xs h),
      length-append (zero_list n) (take (length xs - n) xs),
      length_fixed (pos 0) 0 n,
      length-take-le (length xs - n) xs k,
    )

pub all_up : (n : ℕ) (xs : List Symbol) → n ≤ length xs → list_all is_byte xs ≡ true
    → list_all is_byte (moved_up n xs) ≡ true
all_up n xs h k =
    ap (list_all is_byte) (up_list n xs h)
    ∙ all_append (zero_list n) (take (length xs - n) xs) (all_fixed (pos 0) 0 n) (all_take (length xs - n) xs k)

-- ---- bytes of a mask

pub length_masked : (v : ℤ) (k : ℕ) (xs : List Symbol) → length (masked v k xs) ≡ length xs
length_masked v k [] = refl
length_masked v k (x ∷ xs) = ap suc (length_masked v (suc k) xs)

either_byte : (b : Bool) (x : Symbol) → is_byte x ≡ true → is_byte (cond b x (fixed_byte 0)) ≡ true
either_byte true x h = h
either_byte false x h = refl

pub all_masked : (v : ℤ) (k : ℕ) (xs : List Symbol) → list_all is_byte xs ≡ true
    → list_all is_byte (masked v k xs) ≡ true
all_masked v k [] h = refl
all_masked v k (x ∷ xs) h =
    let p = and_parts (is_byte x) (list_all is_byte xs) h in
    and_from (is_byte (cond (nat_eq (number_byte v k) 255) x (fixed_byte 0))) (list_all is_byte (masked v (suc k) xs))
    (either_byte (nat_eq (number_byte v k) 255) x p.0) (all_masked v (suc k) xs p.1)

pub whole_below : (v : ℤ) (k m n : ℕ) → m ≤ n → are_whole v k n ≡ true → are_whole v k m ≡ true
whole_below v k zero n h e = refl
whole_below v k (suc m) zero h e = absurd (omega arith)
whole_below v k (suc m) (suc n) h e =
    let p = and_parts (nat_eq (number_byte v k) 0 || nat_eq (number_byte v k) 255) (are_whole v (suc k) n) e in
    and_from (nat_eq (number_byte v k) 0 || nat_eq (number_byte v k) 255) (are_whole v (suc k) m) p.0
    (whole_below v (suc k) m n (omega arith) p.1)

-- Only so many bits of a mask count.
masked_low : (w m : ℕ) (bs : List Bit) → length bs ≤ w → masked_bits (m % 2 ^ w) bs ≡ masked_bits m bs
masked_low w m [] h = refl
masked_low zero m (b ∷ bs) h = absurd (omega arith)
masked_low (suc w) m (b ∷ bs) h =
    let e : suc w ≡ w + 1 = omega arith in
    let f : m % 2 ^ suc w ≡ (m / 2 ^ 1 % 2 ^ w) * 2 ^ 1 + m % 2 ^ 1 =
    ap (λ j. m % 2 ^ j) e ∙ mod-pow-add m w 1 in
    let low : m % 2 ^ suc w % 2 ≡ m % 2 = omega (arith, f) in
    let high : m % 2 ^ suc w / 2 ≡ m / 2 % 2 ^ w = omega (arith, f) in
    rw (low, high) (ap (λ xs. cond (is_odd m) b (fixed false) ∷ xs) (masked_low w (m / 2) bs (omega arith)))

-- ---- bytes of a number

pub above_byte : (n k : ℕ) → n / 256 ^ suc k ≡ n / 256 ^ k / 256
above_byte n k = ap (λ p. n / p) (pow-suc 256 k) ∙ sym (div-div-eq-div-mul n (256 ^ k) 256)

fixed_joined : (m w : ℕ) → fixed_bits 8 (m % 256) ++ fixed_bits w (m / 256) ≡ fixed_bits (8 + w) m
fixed_joined m w =
    let e : m % 256 + m / 256 * 2 ^ 8 ≡ m = omega arith in
    sym (fixed_bits-add 8 w (m % 256) (m / 256) (omega arith)) ∙ ap (fixed_bits (8 + w)) e

-- the low bits of a whole number are those that a type has
low_bits : (t : IntType) (v : ℤ) → residue (2 ^ 64) v % 2 ^ bits_of t ≡ representation t v
low_bits t v =
    let e : 64 ≡ 64 - bits_of t + bits_of t = omega (arith, bytes_most t) in
    ap (λ j. residue (2 ^ j) v % 2 ^ bits_of t) e ∙ residue-split (64 - bits_of t) (bits_of t) v

-- ---- one of both, and other widths

either_zero : (bs : List Bit) → either_of bs (zeros (length bs)) ≡ bs
either_zero [] = refl
either_zero (fixed true ∷ bs) = ap (λ cs. fixed true ∷ cs) (either_zero bs)
either_zero (fixed false ∷ bs) = ap (λ cs. fixed false ∷ cs) (either_zero bs)
either_zero (cell_bit c k ∷ bs) = ap (λ cs. cell_bit c k ∷ cs) (either_zero bs)

pub wider_list : (t : IntType) (xs : List Symbol) → length xs ≤ bytes_of t
    → resized t xs ≡ xs ++ zero_list (bytes_of t - length xs)
wider_list t xs h =
    let e : bytes_of t ≡ length xs + (bytes_of t - length xs) = omega arith in
    let k : bytes_of t - length xs ≤ 8 = omega (arith, bytes_most t) in
    ap (λ m. take m (xs ++ zero_list 8)) e ∙ take-append-add xs (zero_list 8) (bytes_of t - length xs)
    ∙ ap (λ ys. xs ++ ys) (take_fixed (pos 0) 0 (bytes_of t - length xs) 8 k)

pub same_list : (t : IntType) (xs : List Symbol) → bytes_of t ≡ length xs → resized t xs ≡ xs
same_list t xs e = ap (λ m. take m (xs ++ zero_list 8)) e ∙ take-append_seam xs (zero_list 8)

pub narrower_list : (t : IntType) (xs : List Symbol) → bytes_of t ≤ length xs → resized t xs ≡ take (bytes_of t) xs
narrower_list t xs h = take-append-le (bytes_of t) xs (zero_list 8) h

module _ (base : Inputs) where
  number_bits : (v : ℤ) (k n : ℕ)
      → bits_of_bytes base (fixed_bytes v k n) ≡ fixed_bits (8 * n) (residue (2 ^ 64) v / 256 ^ k)
  number_bits v k zero = refl
  number_bits v k (suc n) =
      let e : 8 + 8 * n ≡ 8 * suc n = omega arith in
      ap (λ bs. fixed_bits 8 (number_byte v k) ++ bs) (number_bits v (suc k) n)
      ∙ ap (λ q. fixed_bits 8 (number_byte v k) ++ fixed_bits (8 * n) q) (above_byte (residue (2 ^ 64) v) k)
      ∙ fixed_joined (residue (2 ^ 64) v / 256 ^ k) (8 * n)
      ∙ ap (λ w. fixed_bits w (residue (2 ^ 64) v / 256 ^ k)) e

  pub constant_bits : (t : IntType) (v : ℤ)
      → bits_of_bytes base (fixed_bytes v 0 (bytes_of t)) ≡ fixed_bits (bits_of t) (representation t v)
  constant_bits t v =
      let e : residue (2 ^ 64) v / 256 ^ 0 ≡ residue (2 ^ 64) v = omega arith in
      number_bits v 0 (bytes_of t) ∙ ap (fixed_bits (bits_of t)) e
      ∙ sym (fixed_bits-mod (bits_of t) (residue (2 ^ 64) v)) ∙ ap (fixed_bits (bits_of t)) (low_bits t v)

  -- ---- shifts

  pub up_bits : (n : ℕ) (xs : List Symbol) → n ≤ length xs
      → shifted_left (8 * n) (bits_of_bytes base xs) ≡ bits_of_bytes base (moved_up n xs)
  up_bits n xs h =
      let e : length (bits_of_bytes base xs) - 8 * n ≡ 8 * (length xs - n) = omega (arith, length_bytes base xs) in
      let k : length xs - n ≤ length xs = omega arith in
      ap (λ m. zeros (8 * n) ++ take m (bits_of_bytes base xs)) e
      ∙ ap (λ bs. zeros (8 * n) ++ bs) (take_bytes base (length xs - n) xs k)
      ∙ ap (λ bs. bs ++ bits_of_bytes base (take (length xs - n) xs)) (sym (zero_bytes base 0 n))
      ∙ sym (append_bytes base (zero_list n) (take (length xs - n) xs))
      ∙ ap (bits_of_bytes base) (sym (up_list n xs h))

  pub down_bits : (n : ℕ) (xs : List Symbol) → n ≤ length xs
      → shifted_right (8 * n) (bits_of_bytes base xs) ≡ bits_of_bytes base (moved_down n xs)
  down_bits n xs h =
      ap (λ bs. bs ++ zeros (8 * n)) (drop_bytes base n xs h)
      ∙ ap (λ bs. bits_of_bytes base (drop n xs) ++ bs) (sym (zero_bytes base 0 n))
      ∙ sym (append_bytes base (drop n xs) (zero_list n))
      ∙ ap (bits_of_bytes base) (sym (down_list n xs h))

  -- ---- masks

  byte_masked : (x : Symbol) (m : ℕ) → (nat_eq (m % 256) 0 || nat_eq (m % 256) 255) ≡ true
      → masked_bits m (bits_of_symbol base x) ≡ bits_of_symbol base (cond (nat_eq (m % 256) 255) x (fixed_byte 0))
  byte_masked x m h =
      sym (masked_low 8 m (bits_of_symbol base x) (omega (arith, length_byte base x)))
      ∙ by (m % 256) (nat_eq (m % 256) 0) (nat_eq (m % 256) 255) refl refl h
    where
      by : (r : ℕ) (a b : Bool) → nat_eq r 0 ≡ a → nat_eq r 255 ≡ b → (a || b) ≡ true
          → masked_bits r (bits_of_symbol base x) ≡ bits_of_symbol base (cond b x (fixed_byte 0))
      by r a true e f g =
          ap (λ n. masked_bits n (bits_of_symbol base x)) (eqb-true r 255 f)
          ∙ masked-ones 255 (bits_of_symbol base x) (λ i k. bit_at_ones 8 i (omega (arith, k, length_byte base x)))
      by r true false e f g =
          ap (λ n. masked_bits n (bits_of_symbol base x)) (eqb-true r 0 e)
          ∙ masked-zeros 0 (bits_of_symbol base x) (λ i k. bit_at-zero i)
          ∙ ap zeros (length_byte base x) ∙ sym (zero_byte base)
      by r false false e f g = absurd (cc)

  mask_bits : (v : ℤ) (k : ℕ) (xs : List Symbol) → are_whole v k (length xs) ≡ true
      → masked_bits (residue (2 ^ 64) v / 256 ^ k) (bits_of_bytes base xs) ≡ bits_of_bytes base (masked v k xs)
  mask_bits v k [] h = refl
  mask_bits v k (x ∷ xs) h =
      let p =
      and_parts (nat_eq (number_byte v k) 0 || nat_eq (number_byte v k) 255) (are_whole v (suc k) (length xs)) h in
      let m : ℕ = residue (2 ^ 64) v / 256 ^ k in
      let front : List Bit = masked_bits (residue (2 ^ 64) v / 256 ^ k) (bits_of_symbol base x) in
      masked-append m (bits_of_symbol base x) (bits_of_bytes base xs)
      ∙ ap (λ n. front ++ masked_bits (m / 2 ^ n) (bits_of_bytes base xs)) (length_byte base x)
      ∙ ap (λ n. front ++ masked_bits n (bits_of_bytes base xs)) (sym (above_byte (residue (2 ^ 64) v) k))
      ∙ ap (λ bs. front ++ bs) (mask_bits v (suc k) xs p.1)
      ∙ ap (λ bs. bs ++ bits_of_bytes base (masked v (suc k) xs)) (byte_masked x m p.0)

  -- under a mask of whole bytes, as wide as the bytes
  pub masked_is : (t : IntType) (v : ℤ) (xs : List Symbol) → length xs ≡ bytes_of t → are_whole v 0 8 ≡ true
      → masked_bits (representation t v) (bits_of_bytes base xs) ≡ bits_of_bytes base (masked v 0 xs)
  masked_is t v xs h w =
      let e : residue (2 ^ 64) v ≡ residue (2 ^ 64) v / 256 ^ 0 = omega arith in
      let k : length xs ≤ 8 = omega (arith, bytes_most t) in
      ap (λ m. masked_bits m (bits_of_bytes base xs)) (sym (low_bits t v))
      ∙ masked_low (bits_of t) (residue (2 ^ 64) v) (bits_of_bytes base xs) (omega (arith, length_bytes base xs))
      ∙ ap (λ m. masked_bits m (bits_of_bytes base xs)) e ∙ mask_bits v 0 xs (whole_below v 0 (length xs) 8 k w)

  -- ---- one of both

  zero_is : (x : Symbol) → is_zero x ≡ true → bits_of_symbol base x ≡ zeros 8
  zero_is unset h = absurd (cc)
  zero_is (fixed_byte v) h = ap (fixed_bits 8) (eqb-true v 0 h) ∙ fixed_zeros 8
  zero_is (input_byte i k) h = absurd (cc)

  record MergedByte (x y z : Symbol) : Type 0 where
    disjoint : are_disjoint (bits_of_symbol base x) (bits_of_symbol base y) ≡ true
    either : either_of (bits_of_symbol base x) (bits_of_symbol base y) ≡ bits_of_symbol base z
    byte : is_byte z ≡ true

  left_zero : (x y : Symbol) → is_zero x ≡ true → is_byte y ≡ true → MergedByte x y y
  left_zero x y h b =
      let e : bits_of_symbol base x ≡ zeros (length (bits_of_symbol base y)) =
      zero_is x h ∙ ap zeros (sym (length_byte base y)) in
      record {
        disjoint =
            ap (λ bs. are_disjoint bs (bits_of_symbol base y)) e ∙ disjoint-zeros (bits_of_symbol base y);
        either = ap (λ bs. either_of bs (bits_of_symbol base y)) e ∙ either-zeros (bits_of_symbol base y);
        byte = b;
      }

  right_zero : (x y : Symbol) → is_zero y ≡ true → is_byte x ≡ true → MergedByte x y x
  right_zero x y h b =
      let e : bits_of_symbol base y ≡ zeros (length (bits_of_symbol base x)) =
      zero_is y h ∙ ap zeros (sym (length_byte base x)) in
      record {
        disjoint = ap (are_disjoint (bits_of_symbol base x)) e ∙ zeros-disjoint (bits_of_symbol base x);
        either = ap (either_of (bits_of_symbol base x)) e ∙ either_zero (bits_of_symbol base x);
        byte = b;
      }

  merged_one : (x y z : Symbol) → is_byte x ≡ true → is_byte y ≡ true → merged_byte x y ≡ Ok z → MergedByte x y z
  merged_one x y z a b h = by (is_zero x) (is_zero y) refl refl h
    where
      by : (s t : Bool) → is_zero x ≡ s → is_zero y ≡ t
          → ◌≡◌ {A = Result Symbol Stop} (cond s (Ok y) (cond t (Ok x) (Err Foreign))) (Ok z) → MergedByte x y z
      by true t e f g = let q : y ≡ z = cc in subst (MergedByte x y) q (left_zero x y e b)
      by false true e f g = let q : x ≡ z = cc in subst (MergedByte x y) q (right_zero x y f a)
      by false false e f g = absurd (cc)

  pub record Merged (xs ys zs : List Symbol) : Type 0 where
    pub disjoint : are_disjoint (bits_of_bytes base xs) (bits_of_bytes base ys) ≡ true
    pub either : either_of (bits_of_bytes base xs) (bits_of_bytes base ys) ≡ bits_of_bytes base zs
    pub length_is : length zs ≡ length xs
    pub bytes : list_all is_byte zs ≡ true

  merged_step : (x y z : Symbol) (xs ys zs : List Symbol) → MergedByte x y z → Merged xs ys zs
      → Merged (x ∷ xs) (y ∷ ys) (z ∷ zs)
  merged_step x y z xs ys zs one rest =
      let l : length (bits_of_symbol base x) ≡ length (bits_of_symbol base y) =
      length_byte base x ∙ sym (length_byte base y) in
      record {
        disjoint =
            disjoint-append (bits_of_symbol base x) (bits_of_symbol base y) (bits_of_bytes base xs)
            (bits_of_bytes base ys) l
            ∙ and_from (are_disjoint (bits_of_symbol base x) (bits_of_symbol base y))
            (are_disjoint (bits_of_bytes base xs) (bits_of_bytes base ys)) one.disjoint rest.disjoint;
        either =
            either-append (bits_of_symbol base x) (bits_of_symbol base y) (bits_of_bytes base xs)
            (bits_of_bytes base ys) l
            ∙ ap (λ bs. bs ++ either_of (bits_of_bytes base xs) (bits_of_bytes base ys)) one.either
            ∙ ap (λ bs. bits_of_symbol base z ++ bs) rest.either;
        length_is = ap suc rest.length_is;
        bytes = and_from (is_byte z) (list_all is_byte zs) one.byte rest.bytes;
      }

  pub merged_bits : (xs ys zs : List Symbol) → length xs ≡ length ys → list_all is_byte xs ≡ true
      → list_all is_byte ys ≡ true → merged xs ys ≡ Ok zs → Merged xs ys zs
  merged_bits [] [] zs l a b h =
      let q : [] ≡ zs = cc in
      subst (Merged [] []) q (record { disjoint = refl; either = refl; length_is = refl; bytes = refl })
  merged_bits [] (y ∷ ys) zs l a b h = absurd (omega arith)
  merged_bits (x ∷ xs) [] zs l a b h = absurd (omega arith)
  merged_bits (x ∷ xs) (y ∷ ys) zs l a b h =
      let p = and_parts (is_byte x) (list_all is_byte xs) a in
      let q = and_parts (is_byte y) (list_all is_byte ys) b in
      by x y xs ys zs (merged_byte x y) (merged xs ys) (λ z e. merged_one x y z p.0 q.0 e)
      (λ w e. merged_bits xs ys w (omega arith) p.1 q.1 e) refl refl h
    where
      by : (x y : Symbol) (xs ys zs : List Symbol) (z : Result Symbol Stop) (w : Result (List Symbol) Stop)
          → ((r : Symbol) → merged_byte x y ≡ Ok r → MergedByte x y r)
          → ((r : List Symbol) → merged xs ys ≡ Ok r → Merged xs ys r) → merged_byte x y ≡ z → merged xs ys ≡ w
          → goes_on z (λ r. goes_on w (λ rs. Ok (r ∷ rs))) ≡ Ok zs → Merged (x ∷ xs) (y ∷ ys) zs
      by x y xs ys zs (Ok z) (Ok w) one rest e f g =
          let q : z ∷ w ≡ zs = cc in
          subst (Merged (x ∷ xs) (y ∷ ys)) q (merged_step x y z xs ys w (one z e) (rest w f))
      by x y xs ys zs (Ok z) (Err s) one rest e f g = absurd (cc)
      by x y xs ys zs (Err s) w one rest e f g = absurd (cc)

  -- ---- other widths

  pub wider_bits : (t : IntType) (xs : List Symbol) → length xs ≤ bytes_of t
      → extended (bits_of t) (bits_of_bytes base xs) ≡ bits_of_bytes base (resized t xs)
  wider_bits t xs h =
      let e : bits_of t - length (bits_of_bytes base xs) ≡ 8 * (bytes_of t - length xs) =
      omega (arith, length_bytes base xs) in
      ap (λ m. bits_of_bytes base xs ++ zeros m) e
      ∙ ap (λ bs. bits_of_bytes base xs ++ bs) (sym (zero_bytes base 0 (bytes_of t - length xs)))
      ∙ sym (append_bytes base xs (zero_list (bytes_of t - length xs)))
      ∙ ap (bits_of_bytes base) (sym (wider_list t xs h))
