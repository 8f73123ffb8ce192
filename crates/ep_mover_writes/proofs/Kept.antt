-- Forms whose cells aren't written stay as they are.
use Rattle.std.proofs.Common.{◌≡◌, ℕ, zero, suc, ◌+◌, ◌-◌, ◌*◌, ◌/◌, ◌<◌, Bool, true, false, cond, List, [], ◌∷◌, ◌++◌}
use Rattle.std.proofs.Common.{slice_get, Option, Some, None, Ok, refl, sym, ap, ◌∙◌, subst, arith}
use Rattle.std.specs.Option.{option_map}
use Rattle.ep_int.specs.declared.types.IntType.{IntType}
use Rattle.ep_int.specs.declared.types.Order.{Order}
use Rattle.ep_int.specs.declared.types.Scalar.TheVariants.{Int}
use Rattle.ep_int.specs.Types.{bytes_of, bits_of}
use Rattle.ep_int.specs.Encoding.{place}
use Rattle.ep_int.proofs.Basics.{some-injective, minus-zero}
use Rattle.ep_int.proofs.Wrapping.{bytes_of_positive}
use Rattle.ep_bitslice.specs.declared.cell.CellName.{CellName}
use Rattle.ep_bitslice.specs.declared.segment.Segment.{Segment}
use Rattle.ep_bitslice.specs.declared.segment.Segment.TheVariants.{Bits}
use Rattle.ep_bitslice.specs.Bits.{Bit, fixed, cell_bit, is_odd}
use Rattle.ep_bitslice.specs.Segments.{fixed_bits, run_bits, bits, normal}
use Rattle.ep_bitslice.proofs.NormalForm.{append_nothing}
use Rattle.ep_bitslice.proofs.Appending.{bits-normal}
use Rattle.ep_cells.specs.declared.cell.Cell.{Cell}
use Rattle.ep_cells.specs.declared.place.ByteRange.{ByteRange}
use Rattle.ep_cells.specs.Cells.{touches, place_of_name}
use Rattle.ep_cells.specs.Forms.{Fate, put_bit, bit_after, bits_after, form_after}
use Rattle.ep_cells.specs.Meaning.{name_of}
use Rattle.ep_cells.specs.Write.{fate_by_write}
use Rattle.ep_reads.specs.Bytes.{own_form, form_or, form_of_cell}
use Rattle.ep_evaluation.specs.Operators.{Form}
use Rattle.ep_movers.specs.Symbols.{Symbol, unset, fixed_byte, input_byte}
use Rattle.ep_movers.specs.Movers.{Held, loaded_bytes}
use Rattle.ep_mover_bits.specs.Laws.{Inputs, bits_of_symbol, bits_of_bytes, HasBytes}
use Rattle.ep_mover_bits.proofs.Forms.{forms_follow}
use Rattle.ep_mover_cells.specs.Known.{symbol_at}
use Rattle.ep_mover_cells.proofs.Loaded.{ok_same, first_one}

-- ---- bits

fixed_kept : (f : Fate) (w v : ℕ) (bs : List Bit) → bits_after f bs ≡ Some bs
    → bits_after f (fixed_bits w v ++ bs) ≡ Some (fixed_bits w v ++ bs)
fixed_kept f zero v bs e = e
fixed_kept f (suc w) v bs e = ap (put_bit (Some (fixed (is_odd v)))) (fixed_kept f w (v / 2) bs e)

run_kept : (f : Fate) (c : CellName) (k n : ℕ) (bs : List Bit) → f c ≡ Some c → bits_after f bs ≡ Some bs
    → bits_after f (run_bits c k n ++ bs) ≡ Some (run_bits c k n ++ bs)
run_kept f c k zero bs h e = e
run_kept f c k (suc n) bs h e =
    ap (λ o. put_bit (option_map (λ d. cell_bit d k) o) (bits_after f (run_bits c (k + 1) n ++ bs))) h
    ∙ ap (put_bit (Some (cell_bit c k))) (run_kept f c (k + 1) n bs h e)

module _ (base : Inputs) where
  -- the cells of the inputs of a byte stay
  abbrev pub Stays : Fate → Symbol → Type 0
  Stays f unset = Unit {0}
  Stays f (fixed_byte v) = Unit {0}
  Stays f (input_byte i k) = f (base i) ≡ Some (base i)

  abbrev pub AllStay : Fate → List Symbol → Type 0
  AllStay f [] = Unit {0}
  AllStay f (x ∷ xs) = Stays f x × AllStay f xs

  symbol_kept : (f : Fate) (x : Symbol) (bs : List Bit) → Stays f x → bits_after f bs ≡ Some bs
      → bits_after f (bits_of_symbol base x ++ bs) ≡ Some (bits_of_symbol base x ++ bs)
  symbol_kept f unset bs h e = fixed_kept f 8 0 bs e
  symbol_kept f (fixed_byte v) bs h e = fixed_kept f 8 v bs e
  symbol_kept f (input_byte i k) bs h e = run_kept f (base i) (8 * k) 8 bs h e

  bytes_kept : (f : Fate) (xs : List Symbol) → AllStay f xs
      → bits_after f (bits_of_bytes base xs) ≡ Some (bits_of_bytes base xs)
  bytes_kept f [] h = refl
  bytes_kept f (x ∷ xs) h = symbol_kept f x (bits_of_bytes base xs) h.0 (bytes_kept f xs h.1)

  -- ---- forms

  known_form : (f : Form) (xs : List Symbol) → HasBytes base f xs → f ≡ Some (normal (bits_of_bytes base xs))
  known_form f xs h = h.form ∙ (forms_follow base).few xs h.few

  pub form_kept : (f : Fate) (g : Form) (xs : List Symbol) → HasBytes base g xs → AllStay f xs → form_after f g ≡ g
  form_kept f g xs h a =
      let e = known_form g xs h in
      ap (form_after f) e
      ∙ ap (λ bs. option_map normal (bits_after f bs)) (bits-normal (bits_of_bytes base xs))
      ∙ ap (option_map normal) (bytes_kept f xs a) ∙ sym e

  -- ---- a cell without a stored form is that of an input

  abbrev first_name : CellName → List Bit → CellName
  first_name d [] = d
  first_name d (fixed b ∷ bs) = d
  first_name d (cell_bit c k ∷ bs) = c

  abbrev is_run : List Bit → Bool
  is_run [] = false
  is_run (fixed b ∷ bs) = false
  is_run (cell_bit c k ∷ bs) = true

  pub record IsOfInput (n : CellName) (xs : List Symbol) : Type 0 where
    pub input : ℕ
    pub byte : ℕ
    pub is : base input ≡ n
    pub first : slice_get xs 0 ≡ Some (input_byte input byte)

  run_by : (n : CellName) (w : ℕ) (xs : List Symbol) → run_bits n 0 (suc w) ≡ bits_of_bytes base xs → IsOfInput n xs
  run_by n w [] e = absurd (let z : true ≡ false = ap is_run e in cc)
  run_by n w (unset ∷ xs) e = absurd (let z : true ≡ false = ap is_run e in cc)
  run_by n w (fixed_byte v ∷ xs) e = absurd (let z : true ≡ false = ap is_run e in cc)
  run_by n w (input_byte i k ∷ xs) e =
      record { input = i; byte = k; is = sym (ap (first_name n) e); first = refl }

  pub own_is : (n : CellName) (t : IntType) (xs : List Symbol) → HasBytes base (Some (Bits n 0 (bits_of t) ∷ [])) xs
      → IsOfInput n xs
  own_is n t xs h =
      let e : Bits n 0 (bits_of t) ∷ [] ≡ normal (bits_of_bytes base xs)
      = some-injective (known_form (Some (Bits n 0 (bits_of t) ∷ [])) xs h) in
      let b : run_bits n 0 (bits_of t) ≡ bits_of_bytes base xs
      = sym (ap (run_bits n 0) (minus-zero (bits_of t)))
      ∙ sym (append_nothing (run_bits n 0 (bits_of t - 0))) ∙ ap bits e ∙ bits-normal (bits_of_bytes base xs) in
      let p : bits_of t ≡ suc (bits_of t - 1) = omega (arith, bytes_of_positive t) in
      run_by n (bits_of t - 1) xs (sym (ap (run_bits n 0) p) ∙ b)

  -- ---- bytes of memory

  -- no byte of a place has the cell of an input of a block's bytes
  pub all_stay : (f : Fate) (o : Order) (hs : List Held) (q w k n : ℕ) (xs : List Symbol)
      → ((r : ℕ) → Stays f (symbol_at hs r)) → loaded_bytes o hs q w k n ≡ Ok xs → AllStay f xs
  all_stay f o hs q w k zero xs h e = subst (AllStay f) (ok_same [] xs e) tt
  all_stay f o hs q w k (suc n) xs h e =
      let a = first_one o hs q w k n xs e in
      subst (AllStay f) (sym a.is)
      (h (q + place o w k), all_stay f o hs q w (suc k) n a.rest h a.loaded)
