-- What operators give of what is known of their operands, on one side (this project's rules, after Miné 2006).
use Rattle.std.specs.Prelude.{ℕ, ℤ, pos, Bool, true, false, ◌&&◌, ◌||◌, not, nat_eq, nat_lt, int_le, int_lt}
use Rattle.std.specs.Prelude.{unsigned_abs, if◌then◌else◌, List, [], ◌∷◌, Option, Some, None, is_some}
use Rattle.std.specs.Ordering.{int_eq}
use Rattle.ep_int.specs.declared.types.IntType.{IntType}
use Rattle.ep_int.specs.declared.types.BinOp.{BinOp}
use Rattle.ep_int.specs.declared.types.BinOp.TheVariants.{Add, Sub, Mul, Div, Rem, And, Or, Xor, Shl, Shr}
use Rattle.ep_int.specs.declared.types.Cmp.{Cmp}
use Rattle.ep_int.specs.declared.types.Cmp.TheVariants.{Eq, Ne}
use Rattle.ep_int.specs.Types.{bits_of, is_signed, representation}
use Rattle.ep_alarms.specs.declared.types.AlarmKind.{AlarmKind}
use Rattle.ep_alarms.specs.declared.types.AlarmKind.TheVariants.{U1, U2, U3}
use Rattle.ep_bitslice.specs.declared.segment.Segment.{Segment}
use Rattle.ep_bitslice.specs.declared.segment.Segment.TheVariants.{Fixed}
use Rattle.ep_bitslice.specs.Bits.{shifted_left, shifted_right, masked, extended, part_of}
use Rattle.ep_bitslice.specs.Segments.{bits, normal, form_of, or_of}
use Rattle.ep_domain.specs.declared.outcome.Outcome.{Outcome}
use Rattle.ep_domain.specs.Domain.{Ops}
use Rattle.ep_pointers.specs.declared.compare.Truths.{Truths}
use Rattle.ep_pointers.specs.Value.{Target, Pointers}
use Rattle.ep_pointers.specs.Compare.{opposite, comparison_of, has_targets}
use Rattle.ep_cells.specs.declared.cell.Value.{Value}
use Rattle.ep_cells.specs.declared.cell.Value.TheVariants.{Num, Ptr}
use Rattle.ep_cells.specs.Reshare.{is_single}
use Rattle.ep_reads.specs.Bytes.{is_null_alone}

-- ---- numbers and pointers

abbrev pub number_in : {N : Type 0} → Option (Value N) → Option N
number_in None = None
number_in (Some (Num n)) = Some n
number_in (Some (Ptr p)) = None

abbrev pub pointer_in : {N : Type 0} → Option (Value N) → Option (Pointers N)
pointer_in None = None
pointer_in (Some (Num n)) = None
pointer_in (Some (Ptr p)) = Some p

-- ---- arithmetic

-- what a fault of an operator is: overflow, a division or a shift (C11 6.5p5, 6.5.5p5 and 6.5.7p3)
abbrev pub kind_of : BinOp → AlarmKind
kind_of Add = U1
kind_of Sub = U1
kind_of Mul = U1
kind_of Div = U2
kind_of Rem = U2
kind_of And = U1
kind_of Or = U1
kind_of Xor = U1
kind_of Shl = U3
kind_of Shr = U3

abbrev pub no_outcome : {N : Type 0} → Outcome N
no_outcome = record { value = None; fault = false; shown = (pos 0, pos 0) }

abbrev pub outcome_of : {N : Type 0} → Ops N → BinOp → IntType → Option N → Option N → Outcome N
outcome_of D o t None b = no_outcome
outcome_of D o t (Some a) None = no_outcome
outcome_of D o t (Some a) (Some b) = D.op o t a b

-- ---- forms: bits of cells and known bits, that a number has in two's complement

abbrev pub Form : Type 0
Form = Option (List Segment)

-- a constant has known bits alone
abbrev pub constant_form : IntType → ℤ → Form
constant_form t v = Some (Fixed (representation t v) (bits_of t) ∷ [])

-- the amount, where it is a single one below the width
abbrev pub amount_in : IntType → ℤ × ℤ → Option ℕ
amount_in t r =
    if is_single r && (int_le (pos 0) r.0 && int_lt r.0 (pos (bits_of t))) then Some (unsigned_abs r.0) else None

-- zeros come in
abbrev pub left_shift : Form → Option ℕ → Form
left_shift None k = None
left_shift (Some f) None = None
left_shift (Some f) (Some k) = form_of (shifted_left k (bits f))

abbrev pub right_shift : Form → Option ℕ → Form
right_shift None k = None
right_shift (Some f) None = None
right_shift (Some f) (Some k) = form_of (shifted_right k (bits f))

-- the bits that a single number leaves of the other operand
abbrev pub mask_of : IntType → Form → ℤ × ℤ → Form
mask_of t None r = None
mask_of t (Some f) r = if is_single r then form_of (masked (representation t r.0) (bits f)) else None

-- The right operand is the mask where it is a single number and the left one has a form, else the left one is.
abbrev pub and_form : IntType → Form → ℤ × ℤ → Form → ℤ × ℤ → Form
and_form t None r g s = mask_of t g r
and_form t (Some f) r g s = if is_single s then mask_of t (Some f) s else mask_of t g r

-- Where at each bit one operand is a known zero, the sum and both kinds of or have the bits of the other.
abbrev pub disjoint_form : Form → Form → Form
disjoint_form None g = None
disjoint_form (Some f) None = None
disjoint_form (Some f) (Some g) = or_of f g

-- r and s are the ranges of the operands; to the right only what can't be negative is shifted
abbrev pub form_by : BinOp → IntType → Form → ℤ × ℤ → Form → ℤ × ℤ → Form
form_by Add t f r g s = disjoint_form f g
form_by Sub t f r g s = None
form_by Mul t f r g s = None
form_by Div t f r g s = None
form_by Rem t f r g s = None
form_by And t f r g s = and_form t f r g s
form_by Or t f r g s = disjoint_form f g
form_by Xor t f r g s = disjoint_form f g
form_by Shl t f r g s = left_shift f (amount_in t s)
form_by Shr t f r g s = if int_le (pos 0) r.0 then right_shift f (amount_in t s) else None

-- Of a number of the old type with a range from `least` on: its bits, its low bits, or, of an unsigned type or where it
-- can't be negative, with zeros above.
abbrev pub converted_form : (old new : IntType) → (least : ℤ) → List Segment → Form
converted_form u t lo f =
    if nat_eq (bits_of t) (bits_of u) then Some f
    else if nat_lt (bits_of t) (bits_of u) then Some (normal (part_of 0 (bits_of t) (bits f)))
    else if not (is_signed u) || int_le (pos 0) lo then form_of (extended (bits_of t) (bits f)) else None

-- ---- truths

-- a number is true where it isn't 0, a pointer where it isn't null (C11 6.8.4.1p2)
abbrev pub test_of : Bool → Cmp
test_of true = Ne
test_of false = Eq

-- whether a value may be of a truth
abbrev pub may_be : {N : Type 0} → Ops N → Option (Value N) → Bool → Bool
may_be D None t = false
may_be D (Some (Num n)) t = is_some (D.filter (test_of t) n (D.single (pos 0)))
may_be D (Some (Ptr p)) true = has_targets p.targets
may_be D (Some (Ptr p)) false = p.null

-- a single offset into one block
abbrev pub is_one_place : {N : Type 0} → Ops N → List (Target N) → Bool
is_one_place D [] = false
is_one_place D (t ∷ []) = is_single (D.range t.1)
is_one_place D (t ∷ u ∷ ts) = false

-- a value is a single number, or a pointer with one member, of this truth
abbrev pub is_only : {N : Type 0} → Ops N → Option (Value N) → Bool → Bool
is_only D None t = false
is_only D (Some (Num n)) true = is_single (D.range n) && not (int_eq (D.range n).0 (pos 0))
is_only D (Some (Num n)) false = is_single (D.range n) && int_eq (D.range n).0 (pos 0)
is_only D (Some (Ptr p)) true = not p.null && is_one_place D p.targets
is_only D (Some (Ptr p)) false = is_null_alone p

-- 1 and 0, as far as they are allowed
abbrev pub truth_value : {N : Type 0} → Ops N → (yes no : Bool) → Option (Value N)
truth_value D true true = Some (Num (D.join (D.single (pos 0)) (D.single (pos 1))))
truth_value D true false = Some (Num (D.single (pos 1)))
truth_value D false true = Some (Num (D.single (pos 0)))
truth_value D false false = None

-- a comparison is true where some pair of numbers compares so, false where some doesn't
abbrev pub compared : {N : Type 0} → Ops N → Cmp → Option N → Option N → Option (Value N)
compared D c None b = None
compared D c (Some a) None = None
compared D c (Some a) (Some b) = truth_value D (is_some (D.filter c a b)) (is_some (D.filter (opposite c) a b))

abbrev pub no_truths : Truths
no_truths = record { yes = false; no = false; mixed = false }

abbrev pub truths_of : {N : Type 0} → Ops N → Cmp → Option (Pointers N) → Option (Pointers N) → Truths
truths_of D c None q = no_truths
truths_of D c (Some p) None = no_truths
truths_of D c (Some p) (Some q) = comparison_of D c p q
