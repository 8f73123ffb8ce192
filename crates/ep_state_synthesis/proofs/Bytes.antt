-- Cells that have a byte, and bytes of places.
use Rattle.std.proofs.Common.{◌≡◌, ℕ, ◌+◌, ◌-◌, ◌*◌, ◌^◌, ◌<◌, ◌≤◌, zero, suc, pos, Bool, true, false, cond, IfSome}
use Rattle.ep_synthesis.proofs.Sized.{form_sized}
use Rattle.std.proofs.Common.{List, [], ◌∷◌, ◌++◌, append_assoc, append-nil, length, Option, Some, None, refl, sym}
use Rattle.std.proofs.Common.{◌∙◌, ap, subst, arith}
use Rattle.ep_int.specs.declared.types.IntType.{IntType}
use Rattle.ep_int.specs.declared.types.Order.{Order}
use Rattle.ep_int.specs.declared.types.Model.{Model}
use Rattle.ep_int.specs.declared.types.Model.TheVariants.{Ilp32, Lp64}
use Rattle.ep_int.specs.declared.types.Scalar.{Scalar}
use Rattle.ep_int.specs.declared.types.Scalar.TheVariants.{Int, Pointer}
use Rattle.ep_int.specs.Types.{size_of, bytes_of, bits_of}
use Rattle.ep_int.specs.Encoding.{is_width, place}
use Rattle.ep_int.proofs.Places.{width_of, place_below}
use Rattle.ep_bitslice.specs.declared.cell.Side.{Side}
use Rattle.ep_bitslice.specs.declared.segment.Segment.{Segment}
use Rattle.ep_bitslice.specs.Segments.{width}
use Rattle.ep_domain.specs.Domain.{Ops}
use Rattle.ep_pointers.specs.Value.{Pointers}
use Rattle.ep_cells.specs.declared.cell.Cell.{Cell}
use Rattle.ep_cells.specs.declared.cell.Value.{Value}
use Rattle.ep_cells.specs.declared.cell.Value.TheVariants.{Num, Ptr}
use Rattle.ep_cells.specs.declared.place.ByteRange.{ByteRange}
use Rattle.ep_cells.specs.States.{Known, HasWidth, AreCells}
use Rattle.ep_cells.specs.Look.{cell_at}
use Rattle.ep_reads.specs.declared.read.ReadValue.{ReadValue}
use Rattle.ep_reads.specs.Bytes.{order_on, byte_at, own_form, form_or, form_of_cell, is_null_alone, zero_form}
use Rattle.ep_reads.specs.Bytes.{pointer_byte, byte_of_value, byte_of_cell}
use Rattle.ep_reads.specs.Read.{is_exact, whole_read, byte_there, bytes_from, read_in_parts, read_with, read}
use Rattle.ep_reads.proofs.Numbers.{at_most_eight}
use Rattle.ep_reads.proofs.Found.{covering}
use Rattle.ep_scalar_reads.specs.Parts.{HasByte, HasFittingForm, HaveByteForms}
use Rattle.ep_scalar_reads.proofs.Bytes.{has_byte, eight_by}

pub size_is_width : (d : Model) (w : Scalar) → is_width (size_of d w) ≡ true
size_is_width d (Int t) = width_of t
size_is_width Ilp32 Pointer = refl
size_is_width Lp64 Pointer = refl

pub size_small : (d : Model) (w : Scalar) → size_of d w ≤ 8
size_small d (Int t) = at_most_eight t
size_small Ilp32 Pointer = omega arith
size_small Lp64 Pointer = omega arith

-- byte i of a place, as it is read
abbrev pub byte_in : {N : Type 0} → Ops N → Known N → ByteRange → ℕ → ReadValue N
byte_in D k p i = byte_there D k p.side p.block (p.offset + place (order_on p.side k.orders) p.bytes i)

-- a cell that has a byte
pub record HasIt {N : Type 0} (d : Model) (cs : List (Cell N)) (at : ℕ) (x : Cell N) : Type 0 where
  pub low : x.offset ≤ at
  pub high : at < x.offset + size_of d x.what
  pub small : at - x.offset < 8
  pub byte : HasByte x.what (at - x.offset)
  pub form : HasFittingForm x

pub has_it : {N : Type 0} (d : Model) (s : Side) (b byte : ℕ) (cs : List (Cell N)) (x : Cell N)
    → AreCells d cs → Some x ≡ cell_at d s b byte cs → HasIt d cs byte x
has_it d s b byte cs x a e =
    let c = covering d s b byte cs x (sym e) in
    record {
      low = c.low;
      high = c.high;
      small = omega (arith, c.low, c.high, size_small d x.what);
      byte = has_byte d x.what (byte - x.offset) (omega (arith, c.low, c.high));
      form = form_sized cs x x.form (a.forms x c.is_in);
    }

-- no cell has a byte behind the last offset
pub none_past : {N : Type 0} (d : Model) (s : Side) (b byte : ℕ) (cs : List (Cell N)) → AreCells d cs
    → 2 ^ 32 ≤ byte → None ≡ cell_at d s b byte cs
none_past {N = N} d s b byte cs a le = by (cell_at d s b byte cs) refl
  where
    by : (o : Option (Cell N)) → cell_at d s b byte cs ≡ o → None ≡ o
    by None e = refl
    by (Some x) e =
        let c = covering d s b byte cs x e in
        let last : x.offset + size_of d x.what ≤ 2 ^ 32 = (a.each x c.is_in).fits.last in
        let high : byte < x.offset + size_of d x.what = c.high in
        absurd (omega (arith, last, high, le))

-- ---- forms of bytes

wide_by : {N : Type 0} (x : Cell N) (g : Option (List Segment)) (w : Scalar) (maybe : Bool) (t : IntType) (k : ℕ)
    → w ≡ Int t → k < bytes_of t → IfSome g (λ ss. HasWidth w (width ss))
    → IfSome (cond maybe None (form_or g (own_form x w))) (λ ss. 8 * k + 8 ≤ width ss)
wide_by x g w true t k e l h = tt
wide_by x g Pointer false t k e l h = absurd (cc)
wide_by x (Some f) (Int i) false t k e l h =
    let is : i ≡ t = cc in
    let b : bits_of t ≡ width f = subst (λ z. bits_of z ≡ width f) is h in
    omega (arith, l, b)
wide_by x None (Int i) false t k e l h =
    let is : i ≡ t = cc in
    let b : bytes_of i ≡ bytes_of t = ap bytes_of is in
    omega (arith, l, b)

null_eight : (maybe : Bool) → IfSome (cond maybe None (Some zero_form)) (λ ss. width ss ≡ 8)
null_eight true = tt
null_eight false = refl

pointer_eight : {N : Type 0} (D : Ops N) (maybe : Bool) (p : Pointers N) (t : Bool) → is_null_alone p ≡ t
    → IfSome (pointer_byte D maybe p).form (λ ss. width ss ≡ 8)
pointer_eight {N = N} D maybe p true e =
    subst (λ b. IfSome (let r : ReadValue N = cond b (record {
      value = Some (Num (D.single (pos 0)));
      maybe = maybe;
      mixed = false;
      form = cond maybe None (Some zero_form);
    }) (record { value = None; maybe = maybe; mixed = true; form = None }) in r).form (λ ss. width ss ≡ 8)) (sym e)
    (null_eight maybe)
pointer_eight {N = N} D maybe p false e =
    subst (λ b. IfSome (let r : ReadValue N = cond b (record {
      value = Some (Num (D.single (pos 0)));
      maybe = maybe;
      mixed = false;
      form = cond maybe None (Some zero_form);
    }) (record { value = None; maybe = maybe; mixed = true; form = None }) in r).form (λ ss. width ss ≡ 8)) (sym e) tt

value_eight : {N : Type 0} (D : Ops N) (o : Order) (x : Cell N) (w : Scalar) (v : Option (Value N)) (p : ℕ) → x.what ≡ w
    → HasByte w p → HasFittingForm x → IfSome (byte_of_value D o x w v p).form (λ ss. width ss ≡ 8)
value_eight D o x (Int t) (Some (Num n)) p e l h =
    eight_by (byte_at o t p) (form_of_cell x) (wide_by x x.form x.what x.maybe t (byte_at o t p) e (place_below o
    (bytes_of
    t) p (width_of t) l) h)
value_eight D o x Pointer (Some (Ptr v)) p e l h = pointer_eight D x.maybe v (is_null_alone v) refl
value_eight D o x (Int t) (Some (Ptr v)) p e l h = tt
value_eight D o x Pointer (Some (Num n)) p e l h = tt
value_eight D o x (Int t) None p e l h = tt
value_eight D o x Pointer None p e l h = tt

pub byte_eight : {N : Type 0} (D : Ops N) (o : Order) (x : Cell N) (p : ℕ) (r : ReadValue N) → HasByte x.what p
    → HasFittingForm x → r ≡ byte_of_cell D o x p → HaveByteForms (r ∷ [])
byte_eight D o x p r l h e =
    (subst (λ z. IfSome z.form (λ ss. width ss ≡ 8)) (sym e) (value_eight D o x x.what x.value p refl l h), tt)

-- ---- a byte more

pub bytes_end : {N : Type 0} (f : ℕ → ReadValue N) (n : ℕ) (out : List (ReadValue N)) (i : ℕ) → n ≤ i
    → out ++ bytes_from f i (n - i) ≡ bytes_from f 0 n → out ≡ bytes_from f 0 n
bytes_end f n out i h e =
    let none : n - i ≡ 0 = omega (arith, h) in
    sym (append-nil out) ∙ sym (ap (λ k. out ++ bytes_from f i k) none) ∙ e

pub bytes_step : {N : Type 0} (f : ℕ → ReadValue N) (n : ℕ) (out now : List (ReadValue N)) (r : ReadValue N) (i : ℕ)
    → i < n → r ≡ f i → now ≡ out ++ r ∷ [] → out ++ bytes_from f i (n - i) ≡ bytes_from f 0 n
    → now ++ bytes_from f (i + 1) (n - (i + 1)) ≡ bytes_from f 0 n
bytes_step f n out now r i l is e h =
    let more : n - i ≡ suc (n - (i + 1)) = omega (arith, l) in
    ap (λ xs. xs ++ bytes_from f (i + 1) (n - (i + 1))) e
    ∙ append_assoc out (r ∷ []) (bytes_from f (i + 1) (n - (i + 1)))
    ∙ ap (λ z. out ++ z ∷ bytes_from f (i + 1) (n - (i + 1))) is
    ∙ sym (ap (λ k. out ++ bytes_from f i k) more)
    ∙ h

pub eights : {N : Type 0} (out : List (ReadValue N)) (r : ReadValue N) → HaveByteForms out → HaveByteForms (r ∷ [])
    → HaveByteForms (out ++ r ∷ [])
eights [] r h k = k
eights (o ∷ out) r h k = (h.0, eights out r h.1 k)

pub length_of : {N : Type 0} (f : ℕ → ReadValue N) (i n : ℕ) → length (bytes_from f i n) ≡ n
length_of f i zero = refl
length_of f i (suc n) = ap suc (length_of f (i + 1) n)

-- ---- one cell that has the whole scalar

pub read_none : {N : Type 0} (D : Ops N) (k : Known N) (s : Side) (b q : ℕ) (w : Scalar) (r : ReadValue N)
    → None ≡ cell_at k.model s b q k.cells → r ≡ read_in_parts D k s b q w → r ≡ read D k s b q w
read_none D k s b q w r e h = h ∙ ap (read_with D k s b q w) e

pub read_some : {N : Type 0} (D : Ops N) (k : Known N) (s : Side) (b q : ℕ) (w : Scalar) (r : ReadValue N) (x : Cell N)
    (t : Bool) → Some x ≡ cell_at k.model s b q k.cells → is_exact k.model w q x ≡ t
    → r ≡ cond t (whole_read D w x) (read_in_parts D k s b q w) → r ≡ read D k s b q w
read_some D k s b q w r x t e i h =
    h ∙ sym (ap (λ y. cond y (whole_read D w x) (read_in_parts D k s b q w)) i) ∙ ap (read_with D k s b q w) e

pub byte_at_place : {N : Type 0} (D : Ops N) (k : Known N) (p : ByteRange) (i a b c : ℕ) (o : Order) (r : ReadValue N)
    → o ≡ order_on p.side k.orders → a ≡ p.offset → c ≡ place o p.bytes i → b ≡ c
    → r ≡ byte_there D k p.side p.block (a + b) → r ≡ byte_in D k p i
byte_at_place D k p i a b c o r e f g h is =
    is
    ∙ ap (λ (z : ℕ). byte_there D k p.side p.block (z + b)) f
    ∙ ap (λ (z : ℕ). byte_there D k p.side p.block (p.offset + z)) (h ∙ g ∙ ap (λ (z : Order). place z p.bytes i) e)
