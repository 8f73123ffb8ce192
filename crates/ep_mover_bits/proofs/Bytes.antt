-- Lists of bytes as lists of bits: parts, zeros, and the number of their segments.
use Rattle.std.proofs.Common.{◌≡◌, ℕ, zero, suc, ◌+◌, ◌*◌, ◌/◌, ◌%◌, ◌^◌, ◌≤◌, pos, true, false, cond}
use Rattle.std.proofs.Common.{List, [], ◌∷◌, ◌++◌, length, take, drop, nat_le, Option, Some, None}
use Rattle.std.proofs.Common.{sym, refl, ap, ◌∙◌, arith, append_assoc, length-append}
use Rattle.std.specs.Option.{option_map_or}
use Rattle.std.proofs.lemmas.List.{take-append-drop, length-take-le, replicate-append-replicate}
use Rattle.std.proofs.Math.Seq.{take-append_seam, drop-append_seam}
use Rattle.std.proofs.lemmas.Nat.{pow_pos, mod_below}
use Rattle.std.proofs.Math.Nat.{div-le_self}
use Rattle.ep_int.proofs.Basics.{nat_eq-self}
use Rattle.ep_bitslice.specs.declared.cell.CellName.{CellName}
use Rattle.ep_bitslice.specs.declared.segment.Segment.{Segment}
use Rattle.ep_bitslice.specs.declared.segment.Segment.TheVariants.{Bits, Fixed}
use Rattle.ep_bitslice.specs.Bits.{Bit, fixed, zeros}
use Rattle.ep_bitslice.specs.Segments.{fixed_bits, run_bits, joined, put_before, normal, form_of}
use Rattle.ep_bitslice.proofs.Joining.{cell_itself, length-fixed_bits, length-run_bits, run_bits-add}
use Rattle.ep_bitslice.proofs.NormalForm.{put_before-joined, normal-segment}
use Rattle.ep_bitslice.proofs.Pieces.{fixed_bits-mod, fixed_zeros}
use Rattle.ep_movers.specs.Symbols.{Symbol, unset, fixed_byte, input_byte, number_byte, fixed_bytes}
use Rattle.ep_movers.specs.Movers.{input_bytes}
use Rattle.ep_mover_bits.specs.Laws.{Inputs, bits_of_symbol, bits_of_bytes}

-- ---- the number of segments

run_first : (c : CellName) (k n : ℕ) (bs : List Bit)
    → normal (run_bits c k (suc n) ++ bs) ≡ put_before (Bits c k (k + suc n)) (normal bs)
run_first c k zero bs = refl
run_first c k (suc n) bs =
    let e : k + 1 + suc n ≡ k + suc (suc n) = omega arith in
    ap (put_before (Bits c k (k + 1))) (run_first c (k + 1) n bs)
    ∙ put_before-joined (Bits c k (k + 1)) (Bits c (k + 1) (k + 1 + suc n)) (Bits c k (k + 1 + suc n)) (normal bs)
    (rw (cell_itself c, nat_eq-self (k + 1)) refl)
    ∙ ap (λ m. put_before (Bits c k m) (normal bs)) e

fixed_first : (v : ℕ) (bs : List Bit)
    → normal (fixed_bits 8 v ++ bs) ≡ put_before (Fixed (v % 2 ^ 8) 8) (normal bs)
fixed_first v bs =
    ap (λ cs. normal (cs ++ bs)) (sym (fixed_bits-mod 8 v))
    ∙ normal-segment (Fixed (v % 2 ^ 8) 8) bs (omega arith, omega arith, mod_below v (2 ^ 8) (pow_pos 8))

one_before : (s : Segment) (ss : List Segment) → length (put_before s ss) ≤ length ss + 1
one_before s [] = omega arith
one_before s (t ∷ ss) = by (joined s t)
  where
    by : (o : Option Segment) → length (option_map_or (λ m. m ∷ ss) o (s ∷ t ∷ ss)) ≤ length (t ∷ ss) + 1
    by (Some m) = omega arith
    by None = omega arith

zero_number : (k : ℕ) → number_byte (pos 0) k ≡ 0
zero_number k = let z : 0 / 256 ^ k ≡ 0 = omega (arith, div-le_self 0 (256 ^ k)) in ap (λ n. n % 256) z

module _ (base : Inputs) where
  byte_before : (x : Symbol) (bs : List Bit)
      → length (normal (bits_of_symbol base x ++ bs)) ≤ length (normal bs) + 1
  byte_before unset bs =
      omega (arith, ap length (fixed_first 0 bs), one_before (Fixed (0 % 2 ^ 8) 8) (normal bs))
  byte_before (fixed_byte v) bs =
      omega (arith, ap length (fixed_first v bs), one_before (Fixed (v % 2 ^ 8) 8) (normal bs))
  byte_before (input_byte i k) bs =
      omega (
        arith,
        ap length (run_first (base i) (8 * k) 7 bs),
        one_before (Bits (base i) (8 * k) (8 * k + 8)) (normal bs),
      )

  segments_of_bytes : (xs : List Symbol) → length (normal (bits_of_bytes base xs)) ≤ length xs
  segments_of_bytes [] = omega arith
  segments_of_bytes (x ∷ xs) = omega (arith, byte_before x (bits_of_bytes base xs), segments_of_bytes xs)

  pub few_bytes : (xs : List Symbol) → length xs ≤ 8
      → form_of (bits_of_bytes base xs) ≡ Some (normal (bits_of_bytes base xs))
  few_bytes xs h =
      let k : length (normal (bits_of_bytes base xs)) ≤ 8 = omega (arith, segments_of_bytes xs) in
      ap (λ b. cond b (Some (normal (bits_of_bytes base xs))) None)
      (decided (length (normal (bits_of_bytes base xs))) k)
    where
      decided : (n : ℕ) → n ≤ 8 → nat_le n 8 ≡ true
      decided n h = search arith

  -- ---- lengths and parts

  pub length_byte : (x : Symbol) → length (bits_of_symbol base x) ≡ 8
  length_byte unset = length-fixed_bits 8 0
  length_byte (fixed_byte v) = length-fixed_bits 8 v
  length_byte (input_byte i k) = length-run_bits (base i) (8 * k) 8

  pub length_bytes : (xs : List Symbol) → length (bits_of_bytes base xs) ≡ 8 * length xs
  length_bytes [] = omega arith
  length_bytes (x ∷ xs) =
      omega (arith, length-append (bits_of_symbol base x) (bits_of_bytes base xs), length_byte x, length_bytes xs)

  pub append_bytes : (xs ys : List Symbol)
      → bits_of_bytes base (xs ++ ys) ≡ bits_of_bytes base xs ++ bits_of_bytes base ys
  append_bytes [] ys = refl
  append_bytes (x ∷ xs) ys =
      ap (λ bs. bits_of_symbol base x ++ bs) (append_bytes xs ys)
      ∙ sym (append_assoc (bits_of_symbol base x) (bits_of_bytes base xs) (bits_of_bytes base ys))

  split_bytes : (n : ℕ) (xs : List Symbol)
      → bits_of_bytes base xs ≡ bits_of_bytes base (take n xs) ++ bits_of_bytes base (drop n xs)
  split_bytes n xs = ap (bits_of_bytes base) (sym (take-append-drop n xs)) ∙ append_bytes (take n xs) (drop n xs)

  length_front : (n : ℕ) (xs : List Symbol) → n ≤ length xs → length (bits_of_bytes base (take n xs)) ≡ 8 * n
  length_front n xs h = length_bytes (take n xs) ∙ ap (λ m. 8 * m) (length-take-le n xs h)

  pub take_bytes : (n : ℕ) (xs : List Symbol) → n ≤ length xs
      → take (8 * n) (bits_of_bytes base xs) ≡ bits_of_bytes base (take n xs)
  take_bytes n xs h =
      ap (λ m. take m (bits_of_bytes base xs)) (sym (length_front n xs h))
      ∙ ap (take (length (bits_of_bytes base (take n xs)))) (split_bytes n xs)
      ∙ take-append_seam (bits_of_bytes base (take n xs)) (bits_of_bytes base (drop n xs))

  pub drop_bytes : (n : ℕ) (xs : List Symbol) → n ≤ length xs
      → drop (8 * n) (bits_of_bytes base xs) ≡ bits_of_bytes base (drop n xs)
  drop_bytes n xs h =
      ap (λ m. drop m (bits_of_bytes base xs)) (sym (length_front n xs h))
      ∙ ap (drop (length (bits_of_bytes base (take n xs)))) (split_bytes n xs)
      ∙ drop-append_seam (bits_of_bytes base (take n xs)) (bits_of_bytes base (drop n xs))

  -- ---- zeros

  pub zero_byte : bits_of_symbol base (fixed_byte 0) ≡ zeros 8
  zero_byte = fixed_zeros 8

  pub zero_bytes : (k n : ℕ) → bits_of_bytes base (fixed_bytes (pos 0) k n) ≡ zeros (8 * n)
  zero_bytes k zero = refl
  zero_bytes k (suc n) =
      let e : 8 + 8 * n ≡ 8 * suc n = omega arith in
      ap (λ v. fixed_bits 8 v ++ bits_of_bytes base (fixed_bytes (pos 0) (suc k) n)) (zero_number k)
      ∙ ap (λ bs. bs ++ bits_of_bytes base (fixed_bytes (pos 0) (suc k) n)) zero_byte
      ∙ ap (λ bs. zeros 8 ++ bs) (zero_bytes (suc k) n)
      ∙ replicate-append-replicate 8 (8 * n) (fixed false) ∙ ap zeros e

  -- ---- inputs

  pub input_bits : (i k n : ℕ) → bits_of_bytes base (input_bytes i k n) ≡ run_bits (base i) (8 * k) (8 * n)
  input_bits i k zero = refl
  input_bits i k (suc n) =
      let e : 8 * suc k ≡ 8 * k + 8 = omega arith in
      let f : 8 + 8 * n ≡ 8 * suc n = omega arith in
      ap (λ bs. run_bits (base i) (8 * k) 8 ++ bs) (input_bits i (suc k) n)
      ∙ ap (λ m. run_bits (base i) (8 * k) 8 ++ run_bits (base i) m (8 * n)) e
      ∙ sym (run_bits-add (base i) (8 * k) 8 (8 * n)) ∙ ap (run_bits (base i) (8 * k)) f
