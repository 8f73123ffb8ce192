-- Forms of bytes under operators, conversions and reads, and the bytes of forms.
use Rattle.std.proofs.Common.{◌≡◌, ℕ, ◌+◌, ◌-◌, ◌*◌, ◌^◌, ◌<◌, ◌≤◌, ℤ, pos, Bool, true, false, cond}
use Rattle.std.proofs.Common.{◌||◌, not, nat_lt, nat_le, nat_eq, int_le, eqb-true, ltb-true, ltb-false, List, [], ◌∷◌}
use Rattle.std.proofs.Common.{◌++◌, length, take, drop, slice_get, Some, None, Ok, sym, refl, ap, ◌∙◌}
use Rattle.std.proofs.Common.{subst, arith, length-append, length-drop}
use Rattle.std.specs.List.{list_all}
use Rattle.std.specs.Option.{option_and_then}
use Rattle.std.specs.Ordering.{int_eq}
use Rattle.std.proofs.lemmas.Bool.{and_parts, and_from}
use Rattle.std.proofs.lemmas.Bool.Decides.{Decides-int_eq}
use Rattle.std.proofs.lemmas.List.{length-take-le}
use Rattle.std.proofs.lemmas.Option.{slice_get_within, get_or_from_slice_get}
use Rattle.std.proofs.Math.Seq.{take-append_seam, drop-append_seam}
use Rattle.ep_int.specs.declared.types.IntType.{IntType}
use Rattle.ep_int.specs.Types.{bytes_of, bits_of, is_signed, representation}
use Rattle.ep_int.proofs.Basics.{some-injective, drop-at, minus-zero, nat_eq-self}
use Rattle.ep_int.proofs.Wrapping.{bytes_of_positive, representation_below}
use Rattle.ep_bitslice.specs.declared.cell.CellName.{CellName}
use Rattle.ep_bitslice.specs.declared.segment.Segment.{Segment}
use Rattle.ep_bitslice.specs.declared.segment.Segment.TheVariants.{Bits, Fixed}
use Rattle.ep_bitslice.specs.Bits.{Bit, fixed, cell_bit, part_of, shifted_left, shifted_right, extended, are_disjoint}
use Rattle.ep_bitslice.specs.Bits.{number_of_bits, either_of, masked as masked_bits}
use Rattle.ep_bitslice.specs.Segments.{run_bits, segment_bits, bits, width, normal, form_of, concat_of}
use Rattle.ep_bitslice.specs.Segments.{IsSegment, IsForm}
use Rattle.ep_bitslice.proofs.Joining.{cell_itself}
use Rattle.ep_bitslice.proofs.NormalForm.{append_nothing}
use Rattle.ep_bitslice.proofs.Appending.{length-bits, form_of-bits, bits-normal}
use Rattle.ep_bitslice.proofs.Cuts.{width_at_most}
use Rattle.ep_bitslice.proofs.Numbers.{number-fixed_bits}
use Rattle.ep_cells.specs.Forms.{is_same_segment, are_same_segments, have_same_form}
use Rattle.ep_cells.proofs.Both.{segments_same}
use Rattle.ep_reads.specs.declared.read.ReadValue.{ReadValue}
use Rattle.ep_reads.specs.Bytes.{byte_form}
use Rattle.ep_reads.specs.Read.{appended, bits_of_all}
use Rattle.ep_evaluation.specs.Operators.{Form, constant_form, left_shift, right_shift, mask_of, disjoint_form}
use Rattle.ep_evaluation.specs.Operators.{converted_form}
use Rattle.ep_movers.specs.Symbols.{Symbol, unset, fixed_byte, input_byte, fixed_bytes, zeros, merged, masked}
use Rattle.ep_movers.specs.Symbols.{moved_up, moved_down, resized, is_mask}
use Rattle.ep_movers.specs.Movers.{input_bytes}
use Rattle.ep_mover_bits.specs.Laws.{Inputs, bits_of_symbol, bits_of_bytes, is_byte, HasBytes, HaveBytes}
use Rattle.ep_mover_bits.specs.Laws.{HaveOwnCells, FormsFollow}
use Rattle.ep_mover_bits.proofs.Bytes.{few_bytes, length_byte, length_bytes, append_bytes, take_bytes, drop_bytes}
use Rattle.ep_mover_bits.proofs.Bytes.{input_bits}
use Rattle.ep_mover_bits.proofs.Operators.{bytes_most, all_append, all_take, all_drop, all_fixed, all_input}
use Rattle.ep_mover_bits.proofs.Operators.{length_fixed, length_input, length_up, all_up, length_masked, all_masked}
use Rattle.ep_mover_bits.proofs.Operators.{constant_bits, up_bits, down_bits, masked_is, merged_bits, wider_list}
use Rattle.ep_mover_bits.proofs.Operators.{down_list, same_list, narrower_list, wider_bits}

-- ---- the same segments

segments_itself : (ss : List Segment) → are_same_segments ss ss ≡ true
segments_itself [] = refl
segments_itself (Bits c f t ∷ ss) =
    and_from (is_same_segment (Bits c f t) (Bits c f t)) (are_same_segments ss ss)
    (rw (cell_itself c, nat_eq-self f, nat_eq-self t) refl) (segments_itself ss)
segments_itself (Fixed v w ∷ ss) =
    and_from (is_same_segment (Fixed v w) (Fixed v w)) (are_same_segments ss ss)
    (rw (nat_eq-self v, nat_eq-self w) refl) (segments_itself ss)

one_form : (s : Segment) → IsSegment s → IsForm (s ∷ [])
one_form s p = record {
  segments = (p, tt);
  apart = (tt, tt);
  few = omega arith;
  short = omega (arith, width_at_most s p);
}

int_itself : (v : ℤ) → int_eq v v ≡ true
int_itself v = (Decides-int_eq v v).1 refl

-- an or, of the bits of both
abbrev or_bits : List Bit → List Bit → Form
or_bits xs ys = cond (are_disjoint xs ys) (form_of (either_of xs ys)) None

-- ---- one byte

-- byte j, and no other
one_at : (xs : List Symbol) (j : ℕ) (x : Symbol) → slice_get xs j ≡ Some x → drop j xs ≡ x ∷ drop (j + 1) xs
one_at xs j x h = drop-at j xs x (slice_get_within xs j x h) (sym (get_or_from_slice_get xs j x x h))

-- the cell and the place of the first bit, where it is a cell's
abbrev first_cell : CellName → List Bit → CellName
first_cell d [] = d
first_cell d (fixed b ∷ bs) = d
first_cell d (cell_bit c k ∷ bs) = c

abbrev first_place : List Bit → ℕ
first_place [] = 0
first_place (fixed b ∷ bs) = 0
first_place (cell_bit c k ∷ bs) = k

abbrev is_run : List Bit → Bool
is_run [] = false
is_run (fixed b ∷ bs) = false
is_run (cell_bit c k ∷ bs) = true

byte_number : (v : ℕ) → nat_lt v 256 ≡ true → v < 2 ^ 8
byte_number v h = let k : v < 256 = ltb-true v 256 h in omega (arith, k)

module _ (base : Inputs) where
  known : (f : Form) (xs : List Symbol) → HasBytes base f xs → f ≡ Some (normal (bits_of_bytes base xs))
  known f xs h = h.form ∙ few_bytes base xs h.few

  bits_are : (f : List Segment) (xs : List Symbol) → HasBytes base (Some f) xs → bits f ≡ bits_of_bytes base xs
  bits_are f xs h = ap bits (some-injective (known (Some f) xs h)) ∙ bits-normal (bits_of_bytes base xs)

  same_forms : (f g : Form) (xs : List Symbol) → HasBytes base f xs → HasBytes base g xs
      → have_same_form f g ≡ true
  same_forms f g xs h k =
      ap (λ a. have_same_form a g) (known f xs h)
      ∙ ap (have_same_form (Some (normal (bits_of_bytes base xs)))) (known g xs k)
      ∙ segments_itself (normal (bits_of_bytes base xs))

  of_segment : (s : Segment) (xs : List Symbol) → IsSegment s → segment_bits s ≡ bits_of_bytes base xs
      → Some (s ∷ []) ≡ form_of (bits_of_bytes base xs)
  of_segment s xs p e =
      sym (form_of-bits (bits_of_bytes base xs) (s ∷ []) (one_form s p) (append_nothing (segment_bits s) ∙ e))

  constants : (t : IntType) (v : ℤ) → HasBytes base (constant_form t v) (fixed_bytes v 0 (bytes_of t))
  constants t v = record {
    form =
        of_segment (Fixed (representation t v) (bits_of t)) (fixed_bytes v 0 (bytes_of t))
        (omega (arith, bytes_of_positive t), omega (arith, bytes_most t), representation_below t v)
        (sym (constant_bits base t v));
    few = omega (arith, length_fixed v 0 (bytes_of t), bytes_most t);
    bytes = all_fixed v 0 (bytes_of t);
  }

  inputs : (t : IntType) (i : ℕ)
      → HasBytes base (Some (Bits (base i) 0 (bits_of t) ∷ [])) (input_bytes i 0 (bytes_of t))
  inputs t i = record {
    form =
        of_segment (Bits (base i) 0 (bits_of t)) (input_bytes i 0 (bytes_of t))
        (omega (arith, bytes_of_positive t), omega (arith, bytes_most t))
        (ap (run_bits (base i) 0) (minus-zero (bits_of t)) ∙ sym (input_bits base i 0 (bytes_of t)));
    few = omega (arith, length_input i 0 (bytes_of t), bytes_most t);
    bytes = all_input i 0 (bytes_of t);
  }

  -- ---- operators

  ups : (f : Form) (n : ℕ) (xs : List Symbol) → HasBytes base f xs → n ≤ length xs
      → HasBytes base (left_shift f (Some (8 * n))) (moved_up n xs)
  ups f n xs h k = record {
    form =
        ap (λ g. left_shift g (Some (8 * n))) (known f xs h)
        ∙ ap (λ bs. form_of (shifted_left (8 * n) bs)) (bits-normal (bits_of_bytes base xs))
        ∙ ap form_of (up_bits base n xs k);
    few = omega (arith, length_up n xs k, h.few);
    bytes = all_up n xs k h.bytes;
  }

  downs : (f : Form) (n : ℕ) (xs : List Symbol) → HasBytes base f xs → n ≤ length xs
      → HasBytes base (right_shift f (Some (8 * n))) (moved_down n xs)
  downs f n xs h k = record {
    form =
        ap (λ g. right_shift g (Some (8 * n))) (known f xs h)
        ∙ ap (λ bs. form_of (shifted_right (8 * n) bs)) (bits-normal (bits_of_bytes base xs))
        ∙ ap form_of (down_bits base n xs k);
    few =
        omega (
          arith,
          ap length (down_list n xs k),
          length-append (drop n xs) (zeros n),
          length-drop n xs,
          length_fixed (pos 0) 0 n,
          k,
          h.few,
        );
    bytes =
        ap (list_all is_byte) (down_list n xs k)
        ∙ all_append (drop n xs) (zeros n) (all_drop n xs h.bytes) (all_fixed (pos 0) 0 n);
  }

  masks : (t : IntType) (f : Form) (v : ℤ) (xs : List Symbol) → HasBytes base f xs → length xs ≡ bytes_of t
      → is_mask (Some v) ≡ true → HasBytes base (mask_of t f (v, v)) (masked v 0 xs)
  masks t f v xs h k m = record {
    form =
        ap (λ g. mask_of t g (v, v)) (known f xs h)
        ∙ ap (λ b. cond b (form_of (masked_bits (representation t v) (bits (normal (bits_of_bytes base xs))))) None)
        (int_itself v)
        ∙ ap (λ bs. form_of (masked_bits (representation t v) bs)) (bits-normal (bits_of_bytes base xs))
        ∙ ap form_of (masked_is base t v xs k m);
    few = omega (arith, length_masked v 0 xs, h.few);
    bytes = all_masked v 0 xs h.bytes;
  }

  disjoints : (f g : Form) (xs ys zs : List Symbol) → HasBytes base f xs → HasBytes base g ys
      → length xs ≡ length ys → merged xs ys ≡ Ok zs → HasBytes base (disjoint_form f g) zs
  disjoints f g xs ys zs h k l e =
      let m = merged_bits base xs ys zs l h.bytes k.bytes e in
      record {
        form =
            ap (λ a. disjoint_form a g) (known f xs h)
            ∙ ap (disjoint_form (Some (normal (bits_of_bytes base xs)))) (known g ys k)
            ∙ ap (λ bs. or_bits bs (bits (normal (bits_of_bytes base ys)))) (bits-normal (bits_of_bytes base xs))
            ∙ ap (or_bits (bits_of_bytes base xs)) (bits-normal (bits_of_bytes base ys))
            ∙ ap (λ b. cond b (form_of (either_of (bits_of_bytes base xs) (bits_of_bytes base ys))) None) m.disjoint
            ∙ ap form_of m.either;
        few = omega (arith, m.length_is, h.few);
        bytes = m.bytes;
      }

  -- ---- conversions

  same_width : (t : IntType) (f : List Segment) (xs : List Symbol) → HasBytes base (Some f) xs
      → bytes_of t ≡ length xs → HasBytes base (Some f) (resized t xs)
  same_width t f xs h e = subst (HasBytes base (Some f)) (sym (same_list t xs e)) h

  narrower : (t : IntType) (f : List Segment) (xs : List Symbol) → HasBytes base (Some f) xs
      → bytes_of t ≤ length xs → HasBytes base (Some (normal (part_of 0 (bits_of t) (bits f)))) (resized t xs)
  narrower t f xs h k =
      let few : length (resized t xs) ≤ 8 =
      omega (arith, ap length (narrower_list t xs k), length-take-le (bytes_of t) xs k, h.few, k) in
      record {
        form =
            ap (λ bs. Some (normal (part_of 0 (bits_of t) bs))) (bits_are f xs h)
            ∙ ap (λ n. Some (normal (take n (bits_of_bytes base xs)))) (minus-zero (bits_of t))
            ∙ ap (λ bs. Some (normal bs)) (take_bytes base (bytes_of t) xs k)
            ∙ ap (λ ys. Some (normal (bits_of_bytes base ys))) (sym (narrower_list t xs k))
            ∙ sym (few_bytes base (resized t xs) few);
        few = few;
        bytes = ap (list_all is_byte) (narrower_list t xs k) ∙ all_take (bytes_of t) xs h.bytes;
      }

  wider : (t : IntType) (f : List Segment) (xs : List Symbol) → HasBytes base (Some f) xs → length xs ≤ bytes_of t
      → HasBytes base (form_of (extended (bits_of t) (bits f))) (resized t xs)
  wider t f xs h k =
      let rest = zeros (bytes_of t - length xs) in
      record {
        form =
            ap (λ bs. form_of (extended (bits_of t) bs)) (bits_are f xs h) ∙ ap form_of (wider_bits base t xs k);
        few =
            omega (
              arith,
              ap length (wider_list t xs k),
              length-append xs rest,
              length_fixed (pos 0) 0 (bytes_of t - length xs),
              bytes_most t,
            );
        bytes =
            ap (list_all is_byte) (wider_list t xs k)
            ∙ all_append xs rest h.bytes (all_fixed (pos 0) 0 (bytes_of t - length xs));
      }

  conversions : (u t : IntType) (least : ℤ) (f : List Segment) (xs : List Symbol) → HasBytes base (Some f) xs
      → length xs ≡ bytes_of u → (not (is_signed u) || int_le (pos 0) least) ≡ true
      → HasBytes base (converted_form u t least f) (resized t xs)
  conversions u t least f xs h e s =
      by (nat_eq (bits_of t) (bits_of u)) (nat_lt (bits_of t) (bits_of u)) (not (is_signed u) || int_le (pos 0) least)
      refl refl s
    where
      by : (a b c : Bool) → nat_eq (bits_of t) (bits_of u) ≡ a → nat_lt (bits_of t) (bits_of u) ≡ b → c ≡ true
          → HasBytes base
          (cond a (Some f) (cond b (Some (normal (part_of 0 (bits_of t) (bits f)))) (cond c
          (form_of (extended (bits_of t) (bits f))) None)))
          (resized t xs)
      by true b c p q r =
          let w : 8 * bytes_of t ≡ 8 * bytes_of u = eqb-true (bits_of t) (bits_of u) p in
          same_width t f xs h (omega (arith, w, e))
      by false true c p q r =
          let w : 8 * bytes_of t < 8 * bytes_of u = ltb-true (bits_of t) (bits_of u) q in
          narrower t f xs h (omega (arith, w, e))
      by false false true p q r =
          let w : 8 * bytes_of u ≤ 8 * bytes_of t = ltb-false (bits_of t) (bits_of u) q in
          wider t f xs h (omega (arith, w, e))
      by false false false p q r = absurd (cc)

  -- ---- reads

  byte_bits : (j : ℕ) (x : Symbol) (xs : List Symbol) → slice_get xs j ≡ Some x
      → part_of (8 * j) (8 * j + 8) (bits_of_bytes base xs) ≡ bits_of_bytes base (x ∷ [])
  byte_bits j x xs h =
      let e : 8 * j + 8 - 8 * j ≡ length (bits_of_symbol base x) = omega (arith, length_byte base x) in
      let k : j ≤ length xs = omega (arith, slice_get_within xs j x h) in
      ap (λ n. take n (drop (8 * j) (bits_of_bytes base xs))) e
      ∙ ap (take (length (bits_of_symbol base x)))
      (drop_bytes base j xs k ∙ ap (bits_of_bytes base) (one_at xs j x h))
      ∙ take-append_seam (bits_of_symbol base x) (bits_of_bytes base (drop (j + 1) xs))
      ∙ sym (append_nothing (bits_of_symbol base x))

  byte_is : (j : ℕ) (x : Symbol) (xs : List Symbol) → slice_get xs j ≡ Some x → list_all is_byte xs ≡ true
      → is_byte x ≡ true
  byte_is j x xs h k =
      (and_parts (is_byte x) (list_all is_byte (drop (j + 1) xs))
      (sym (ap (list_all is_byte) (one_at xs j x h)) ∙ all_drop j xs k)).0

  single_byte : (x : Symbol) → is_byte x ≡ true → list_all is_byte (x ∷ []) ≡ true
  single_byte x h = and_from (is_byte x) true h refl

  bytes_read : (f : List Segment) (j : ℕ) (x : Symbol) (xs : List Symbol) → HasBytes base (Some f) xs
      → slice_get xs j ≡ Some x → HasBytes base (Some (byte_form j f)) (x ∷ [])
  bytes_read f j x xs h e = record {
    form =
        ap (λ bs. Some (normal (part_of (8 * j) (8 * j + 8) bs))) (bits_are f xs h)
        ∙ ap (λ bs. Some (normal bs)) (byte_bits j x xs e) ∙ sym (few_bytes base (x ∷ []) (omega arith));
    few = omega arith;
    bytes = single_byte x (byte_is j x xs e h.bytes);
  }

  both_read : (f g : List Segment) (xs ys : List Symbol) → HasBytes base (Some f) xs → HasBytes base (Some g) ys
      → length xs + length ys ≤ 8 → HasBytes base (concat_of f g) (xs ++ ys)
  both_read f g xs ys h k l = record {
    form =
        ap (λ b. cond b (form_of (bits f ++ bits g)) None) (short (width f + width g) w)
        ∙ ap (λ bs. form_of (bs ++ bits g)) (bits_are f xs h)
        ∙ ap (λ bs. form_of (bits_of_bytes base xs ++ bs)) (bits_are g ys k)
        ∙ ap form_of (sym (append_bytes base xs ys));
    few = omega (arith, length-append xs ys, l);
    bytes = all_append xs ys h.bytes k.bytes;
  }
    where
      short : (n : ℕ) → n ≤ 64 → nat_le n 64 ≡ true
      short n h = search arith

      w : width f + width g ≤ 64
      w =
          omega (
            arith,
            length-bits f,
            length-bits g,
            ap length (bits_are f xs h),
            ap length (bits_are g ys k),
            length_bytes base xs,
            length_bytes base ys,
            l,
          )

  -- ---- the bytes of a form

  same_byte : HaveOwnCells base → (x y : Symbol) → is_byte x ≡ true → is_byte y ≡ true
      → bits_of_symbol base x ≡ bits_of_symbol base y → x ≡ y
  same_byte own unset y a b e = absurd (cc)
  same_byte own (fixed_byte v) unset a b e = absurd (cc)
  same_byte own (fixed_byte v) (fixed_byte w) a b e =
      ap fixed_byte
      (sym (number-fixed_bits (λ c. pos 0) 8 v (byte_number v a))
      ∙ ap (λ bs. number_of_bits (λ c. pos 0) bs) e
      ∙ number-fixed_bits (λ c. pos 0) 8 w (byte_number w b))
  same_byte own (fixed_byte v) (input_byte j l) a b e = let q : false ≡ true = ap is_run e in absurd (cc)
  same_byte own (input_byte i k) unset a b e = absurd (cc)
  same_byte own (input_byte i k) (fixed_byte w) a b e = let q : true ≡ false = ap is_run e in absurd (cc)
  same_byte own (input_byte i k) (input_byte j l) a b e =
      let p : i ≡ j = own i j (ap (first_cell (base i)) e) in
      let q : 8 * k ≡ 8 * l = ap first_place e in
      let r : k ≡ l = omega (arith, q) in
      ap (λ n. input_byte n k) p ∙ ap (input_byte j) r

  same_bytes : HaveOwnCells base → (xs ys : List Symbol) → list_all is_byte xs ≡ true → list_all is_byte ys ≡ true
      → bits_of_bytes base xs ≡ bits_of_bytes base ys → xs ≡ ys
  same_bytes own [] [] a b e = refl
  same_bytes own [] (y ∷ ys) a b e =
      absurd (omega (arith, ap length e, length_bytes base (y ∷ ys)))
  same_bytes own (x ∷ xs) [] a b e =
      absurd (omega (arith, ap length e, length_bytes base (x ∷ xs)))
  same_bytes own (x ∷ xs) (y ∷ ys) a b e =
      let p = and_parts (is_byte x) (list_all is_byte xs) a in
      let q = and_parts (is_byte y) (list_all is_byte ys) b in
      let l : length (bits_of_symbol base x) ≡ length (bits_of_symbol base y) =
      length_byte base x ∙ sym (length_byte base y) in
      let first : bits_of_symbol base x ≡ bits_of_symbol base y =
      sym (take-append_seam (bits_of_symbol base x) (bits_of_bytes base xs))
      ∙ ap (take (length (bits_of_symbol base x))) e
      ∙ ap (λ n. take n (bits_of_symbol base y ++ bits_of_bytes base ys)) l
      ∙ take-append_seam (bits_of_symbol base y) (bits_of_bytes base ys) in
      let rest : bits_of_bytes base xs ≡ bits_of_bytes base ys =
      sym (drop-append_seam (bits_of_symbol base x) (bits_of_bytes base xs))
      ∙ ap (drop (length (bits_of_symbol base x))) e
      ∙ ap (λ n. drop n (bits_of_symbol base y ++ bits_of_bytes base ys)) l
      ∙ drop-append_seam (bits_of_symbol base y) (bits_of_bytes base ys) in
      ap (λ z. z ∷ xs) (same_byte own x y p.0 q.0 first) ∙ ap (λ zs. y ∷ zs) (same_bytes own xs ys p.1 q.1 rest)

  backs : HaveOwnCells base → (f g : Form) (xs ys : List Symbol) → HasBytes base f xs → HasBytes base g ys
      → have_same_form f g ≡ true → xs ≡ ys
  backs own f g xs ys h k e =
      let s : are_same_segments (normal (bits_of_bytes base xs)) (normal (bits_of_bytes base ys)) ≡ true =
      sym (ap (λ a. have_same_form a g) (known f xs h)
      ∙ ap (have_same_form (Some (normal (bits_of_bytes base xs)))) (known g ys k)) ∙ e in
      same_bytes own xs ys h.bytes k.bytes
      (sym (bits-normal (bits_of_bytes base xs))
      ∙ ap bits (segments_same (normal (bits_of_bytes base xs)) (normal (bits_of_bytes base ys)) s)
      ∙ bits-normal (bits_of_bytes base ys))

  pub forms_follow : FormsFollow base
  forms_follow = record {
    few = few_bytes base;
    same = same_forms;
    constant = constants;
    input = inputs;
    up = ups;
    down = downs;
    mask = masks;
    disjoint = disjoints;
    converted = conversions;
    byte = bytes_read;
    both = both_read;
    back = backs;
    told = same_bytes;
  }

-- ---- reads byte by byte

module _ {N : Type 0} (base : Inputs) where
  all_bits : (rs : List (ReadValue N)) (xs : List Symbol) → HaveBytes base rs xs
      → bits_of_all rs ≡ Some (bits_of_bytes base xs)
  all_bits [] [] h = refl
  all_bits [] (x ∷ xs) h = absurd h
  all_bits (r ∷ rs) [] h = absurd h
  all_bits (r ∷ rs) (x ∷ xs) h =
      ap (λ f. appended f (bits_of_all rs)) (known base r.form (x ∷ []) h.0)
      ∙ ap (appended (Some (normal (bits_of_bytes base (x ∷ []))))) (all_bits rs xs h.1)
      ∙ ap (λ bs. Some (bs ++ bits_of_bytes base xs))
      (bits-normal (bits_of_bytes base (x ∷ [])) ∙ append_nothing (bits_of_symbol base x))

  all_bytes : (rs : List (ReadValue N)) (xs : List Symbol) → HaveBytes base rs xs → list_all is_byte xs ≡ true
  all_bytes [] [] h = refl
  all_bytes [] (x ∷ xs) h = absurd h
  all_bytes (r ∷ rs) [] h = absurd h
  all_bytes (r ∷ rs) (x ∷ xs) h =
      and_from (is_byte x) (list_all is_byte xs) (and_parts (is_byte x) true h.0.bytes).0 (all_bytes rs xs h.1)

  pub reads_follow : (rs : List (ReadValue N)) (xs : List Symbol) → HaveBytes base rs xs → length xs ≤ 8
      → HasBytes base (option_and_then form_of (bits_of_all rs)) xs
  reads_follow rs xs h few = record {
    form = ap (option_and_then form_of) (all_bits rs xs h);
    few = few;
    bytes = all_bytes rs xs h;
  }
