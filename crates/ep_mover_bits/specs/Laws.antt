-- Forms of numbers whose bytes are known by the text: what operators make of them (this project's rules).
use Rattle.std.specs.Prelude.{◌≡◌, ℕ, ◌+◌, ◌*◌, ◌≤◌, ℤ, pos, Bool, true, false, ◌||◌, not, nat_lt, int_le, List, []}
use Rattle.std.specs.Prelude.{◌∷◌, ◌++◌, length, Some, slice_get, Ok}
use Rattle.std.specs.List.{list_all}
use Rattle.std.specs.Option.{option_and_then}
use Rattle.ep_int.specs.declared.types.IntType.{IntType}
use Rattle.ep_int.specs.Types.{bytes_of, bits_of, is_signed}
use Rattle.ep_bitslice.specs.declared.cell.CellName.{CellName}
use Rattle.ep_bitslice.specs.declared.segment.Segment.{Segment}
use Rattle.ep_bitslice.specs.declared.segment.Segment.TheVariants.{Bits}
use Rattle.ep_bitslice.specs.Bits.{Bit}
use Rattle.ep_bitslice.specs.Segments.{fixed_bits, run_bits, normal, form_of, concat_of}
use Rattle.ep_domain.specs.Domain.{Ops}
use Rattle.ep_cells.specs.Forms.{have_same_form}
use Rattle.ep_reads.specs.declared.read.ReadValue.{ReadValue}
use Rattle.ep_reads.specs.Bytes.{byte_form}
use Rattle.ep_reads.specs.Read.{bits_of_all}
use Rattle.ep_evaluation.specs.Operators.{Form, constant_form, left_shift, right_shift, mask_of, disjoint_form}
use Rattle.ep_evaluation.specs.Operators.{converted_form}
use Rattle.ep_movers.specs.Symbols.{Symbol, unset, fixed_byte, input_byte, fixed_bytes, merged, masked, moved_up}
use Rattle.ep_movers.specs.Symbols.{moved_down, resized, is_mask}
use Rattle.ep_movers.specs.Movers.{input_bytes}

-- ---- bytes as bits

-- the cell that has each input
abbrev pub Inputs : Type 0
Inputs = ℕ → CellName

-- the bits of a byte; those of an undefined one never count
abbrev pub bits_of_symbol : Inputs → Symbol → List Bit
bits_of_symbol base unset = fixed_bits 8 0
bits_of_symbol base (fixed_byte v) = fixed_bits 8 v
bits_of_symbol base (input_byte i k) = run_bits (base i) (8 * k) 8

-- one after another, the lowest byte first
abbrev pub bits_of_bytes : Inputs → List Symbol → List Bit
bits_of_bytes base [] = []
bits_of_bytes base (x ∷ xs) = bits_of_symbol base x ++ bits_of_bytes base xs

-- not undefined, and a fixed one is a number of one byte
abbrev pub is_byte : Symbol → Bool
is_byte unset = false
is_byte (fixed_byte v) = nat_lt v 256
is_byte (input_byte i k) = true

-- a form says that a number has these bytes, the lowest first
pub record HasBytes (base : Inputs) (f : Form) (xs : List Symbol) : Type 0 where
  pub form : f ≡ form_of (bits_of_bytes base xs)
  pub few : length xs ≤ 8
  pub bytes : list_all is_byte xs ≡ true

-- each of what is read has one of these bytes
abbrev pub HaveBytes : {N : Type 0} → Inputs → List (ReadValue N) → List Symbol → Type 0
HaveBytes base [] [] = Unit {0}
HaveBytes base [] (x ∷ xs) = ⊥
HaveBytes base (r ∷ rs) [] = ⊥
HaveBytes base (r ∷ rs) (x ∷ xs) = HasBytes base r.form (x ∷ []) × HaveBytes base rs xs

-- different inputs are in different cells
abbrev pub HaveOwnCells : Inputs → Type 0
HaveOwnCells base = (i j : ℕ) → base i ≡ base j → i ≡ j

-- ---- the laws

pub record FormsFollow (base : Inputs) : Type 0 where
  -- forms have room for eight bytes
  pub few :
      (xs : List Symbol) → length xs ≤ 8
      → form_of (bits_of_bytes base xs) ≡ Some (normal (bits_of_bytes base xs))
  pub same :
      (f g : Form) (xs : List Symbol) → HasBytes base f xs → HasBytes base g xs → have_same_form f g ≡ true
  -- constants, and cells that have an input
  pub constant : (t : IntType) (v : ℤ) → HasBytes base (constant_form t v) (fixed_bytes v 0 (bytes_of t))
  pub input :
      (t : IntType) (i : ℕ) → HasBytes base (Some (Bits (base i) 0 (bits_of t) ∷ [])) (input_bytes i 0 (bytes_of t))
  -- operators
  pub up :
      (f : Form) (n : ℕ) (xs : List Symbol) → HasBytes base f xs → n ≤ length xs
      → HasBytes base (left_shift f (Some (8 * n))) (moved_up n xs)
  pub down :
      (f : Form) (n : ℕ) (xs : List Symbol) → HasBytes base f xs → n ≤ length xs
      → HasBytes base (right_shift f (Some (8 * n))) (moved_down n xs)
  pub mask :
      (t : IntType) (f : Form) (v : ℤ) (xs : List Symbol) → HasBytes base f xs → length xs ≡ bytes_of t
      → is_mask (Some v) ≡ true → HasBytes base (mask_of t f (v, v)) (masked v 0 xs)
  pub disjoint :
      (f g : Form) (xs ys zs : List Symbol) → HasBytes base f xs → HasBytes base g ys → length xs ≡ length ys
      → merged xs ys ≡ Ok zs → HasBytes base (disjoint_form f g) zs
  pub converted :
      (u t : IntType) (least : ℤ) (f : List Segment) (xs : List Symbol) → HasBytes base (Some f) xs
      → length xs ≡ bytes_of u → (not (is_signed u) || int_le (pos 0) least) ≡ true
      → HasBytes base (converted_form u t least f) (resized t xs)
  -- reads
  pub byte :
      (f : List Segment) (j : ℕ) (x : Symbol) (xs : List Symbol) → HasBytes base (Some f) xs
      → slice_get xs j ≡ Some x → HasBytes base (Some (byte_form j f)) (x ∷ [])
  pub both :
      (f g : List Segment) (xs ys : List Symbol) → HasBytes base (Some f) xs → HasBytes base (Some g) ys
      → length xs + length ys ≤ 8 → HasBytes base (concat_of f g) (xs ++ ys)
  -- the other way
  pub back :
      HaveOwnCells base → (f g : Form) (xs ys : List Symbol) → HasBytes base f xs → HasBytes base g ys
      → have_same_form f g ≡ true → xs ≡ ys
  pub told :
      HaveOwnCells base → (xs ys : List Symbol) → list_all is_byte xs ≡ true → list_all is_byte ys ≡ true
      → bits_of_bytes base xs ≡ bits_of_bytes base ys → xs ≡ ys

-- a number that is read byte by byte, over any domain
abbrev pub ReadsFollow : {N : Type 0} → Ops N → Inputs → Type 0
ReadsFollow {N = N} D base =
    (rs : List (ReadValue N)) (xs : List Symbol) → HaveBytes base rs xs → length xs ≤ 8
    → HasBytes base (option_and_then form_of (bits_of_all rs)) xs
