-- Reading cells undoes writing them.
use Rattle.std.proofs.Common.{◌≡◌, ℕ, suc, ◌^◌, ◌<◌, Bool, true, false, cond, arith, refl, ap, sym, ◌∙◌}
use Rattle.std.proofs.Common.{rules, subst, List, [], ◌∷◌, ◌++◌, length, append_assoc, ℤ, pos, FitsSigned}
use Rattle.std.specs.Prelude.{negsuc, ◌≤ℤ◌, Option, Some, None, IfSome, nat_lt, nat_eq}
use Rattle.std.specs.Option.{option_map, option_and_then}
use Rattle.std.specs.Int.{w128, cast_unsigned, cast_signed}
use Rattle.std.specs.List.{flat_map}
use Rattle.std.proofs.lemmas.Int.{ints, to_z-of_z, of_z-to_z}
use Rattle.std.proofs.lemmas.Bool.{eqb-true}
use Rattle.std.proofs.lemmas.Option.{same_Some, option_and_then_some}
use Rattle.ep_int.specs.declared.types.IntType.{IntType}
use Rattle.ep_int.specs.declared.types.IntType.TheVariants.{I8, U8, I16, U16, I32, U32, I64, U64}
use Rattle.ep_int.specs.declared.types.Scalar.{Scalar}
use Rattle.ep_int.specs.declared.types.Scalar.TheVariants.{Int, Pointer}
use Rattle.ep_bitslice.specs.declared.cell.Side.{Side}
use Rattle.ep_bitslice.specs.declared.cell.Side.TheVariants.{Left, Right, Shared}
use Rattle.ep_bitslice.specs.declared.cell.CellName.{CellName}
use Rattle.ep_bitslice.specs.declared.segment.Segment.{Segment}
use Rattle.ep_bitslice.specs.declared.segment.Segment.TheVariants.{Bits, Fixed}
use Rattle.ep_bitslice.specs.Bits.{side_number, type_number}
use Rattle.ep_bitslice.specs.Segments.{IsSegment, AreSegments}
use Rattle.ep_domain.specs.Pairs.{pair_of}
use Rattle.ep_domain.specs.Laws.Narrowed.{pair_some, pair_parts}
use Rattle.ep_interval_laws.specs.Interval.{Interval, between}
use Rattle.ep_interval_laws.proofs.Between.{between_some, between_parts}
use Rattle.ep_interval_laws.proofs.Lawful.{interval_laws}
use Rattle.ep_intervals.specs.contracts.interval.IntervalNum.TheImpl as intervals
use Rattle.ep_congruence_laws.specs.Classes.{Class, class}
use Rattle.ep_congruence_laws.proofs.Classes.{class_small}
use Rattle.ep_congruence_domain.specs.Congruence.{Congruence, class_of, formed}
use Rattle.ep_congruence_domain.proofs.Formed.{formed_some, formed_keeps}
use Rattle.ep_congruence_domain.proofs.Lawful.{congruence_laws}
use Rattle.ep_congruence.specs.contracts.congruence.CongruenceNum.TheImpl as congruences
use Rattle.ep_congruence.proofs.Machine.{remainder_fits}
use Rattle.ep_int.proofs.Arithmetic.{le_test}
use Rattle.ep_range_laws.proofs.Comparisons.{le_false}
use Rattle.ep_int.proofs.Basics.{true_and_false, power-le}
use Rattle.ep_pointers.specs.Value.{Pointers, Target, IsRising, pointers}
use Rattle.ep_cells.specs.declared.cell.Cell.{Cell}
use Rattle.ep_cells.specs.declared.cell.Value.{Value}
use Rattle.ep_cells.specs.declared.cell.Value.TheVariants.{Num, Ptr}
use Rattle.ep_cells.specs.Cells.{scalar_number}
use Rattle.ep_cert_cells.specs.Numbers.{Numbers}
use Rattle.ep_cert_cells.specs.Bytes.{low, signed, flag, number_bytes, target_bytes, pointer_bytes, value_bytes}
use Rattle.ep_cert_cells.specs.Bytes.{name_bytes, segment_bytes, form_bytes, cell_bytes, Every, HasRoom, IsTarget}
use Rattle.ep_cert_cells.specs.Bytes.{IsPointer, IsValue, IsName, HasName, HasForm, HasBytes}
use Rattle.ep_cert_cells.specs.declared.cells.Header.{Header}
use Rattle.ep_cert_cells.specs.Reading.{then_at, before, both_at, made_at, byte_at, low_at, signed_of, signed_at}
use Rattle.ep_cert_cells.specs.Reading.{flag_of, flag_at, congruence_of, number_of, number_from, number_at, target_at}
use Rattle.ep_cert_cells.specs.Reading.{rises, some_pointer, pointer_of, pointer_from, pointer_at, side_of, side_at}
use Rattle.ep_cert_cells.specs.Reading.{small_type, great_type, type_of, type_at, name_from, name_at, bits_from}
use Rattle.ep_cert_cells.specs.Reading.{bits_at, fixed_from, fixed_at, segment_behind, segment_at, is_form}
use Rattle.ep_cert_cells.specs.Reading.{form_from, form_at, number_value, pointer_value, value_behind, value_at}
use Rattle.ep_cert_cells.specs.Reading.{scalar_of, scalar_at, header_from, header_at, cell_from, cell_at}
use Rattle.ep_cert_cells.proofs.Rising.{rising_from, rises_from}
use Rattle.ep_cert_cells.proofs.NormalForms.{form_test, test_form}
use Rattle.ep_cert.proofs.Undoing.{Undoes, then_parts, both, made, counted, IsByte, one_byte, byte}
use Rattle.ep_cert.proofs.Undoing.{IsOf, number, Stands, no_value, or_else, one_of, byte_only}

-- ---- what one byte stands for

bit_small : (b : Bool) → flag b < 256
bit_small true = omega arith
bit_small false = omega arith

flag_back : (b : Bool) → flag_of (flag b) ≡ Some b
flag_back true = refl
flag_back false = refl

flag_stands : (n : ℕ) → Stands flag n (flag_of n)
flag_stands n = or_else flag n 0 false _ refl (or_else flag n 1 true _ refl (no_value flag n))

pub flags : Undoes (λ (b : Bool). Unit {0}) (λ (b : Bool). one_byte (flag b)) flag_at
flags = one_of flag flag_of bit_small flag_back flag_stands

side_small : (s : Side) → side_number s < 256
side_small Left = omega arith
side_small Right = omega arith
side_small Shared = omega arith

side_back : (s : Side) → side_of (side_number s) ≡ Some s
side_back Left = refl
side_back Right = refl
side_back Shared = refl

side_stands : (n : ℕ) → Stands side_number n (side_of n)
side_stands n =
    or_else side_number n 0 Left _ refl (or_else side_number n 1 Right _ refl
    (or_else side_number n 2 Shared _ refl (no_value side_number n)))

pub sides : Undoes (λ (s : Side). Unit {0}) (λ (s : Side). one_byte (side_number s)) side_at
sides = one_of side_number side_of side_small side_back side_stands

type_small : (t : IntType) → type_number t < 256
type_small I8 = omega arith
type_small U8 = omega arith
type_small I16 = omega arith
type_small U16 = omega arith
type_small I32 = omega arith
type_small U32 = omega arith
type_small I64 = omega arith
type_small U64 = omega arith

type_back : (t : IntType) → type_of (type_number t) ≡ Some t
unfolding type_of
type_back I8 = refl
type_back U8 = refl
type_back I16 = refl
type_back U16 = refl
type_back I32 = refl
type_back U32 = refl
type_back I64 = refl
type_back U64 = refl

small_stands : (n : ℕ) → Stands type_number n (small_type n)
small_stands n =
    or_else type_number n 0 I8 _ refl (or_else type_number n 1 U8 _ refl (or_else type_number n 2 I16 _ refl
    (or_else type_number n 3 U16 _ refl (no_value type_number n))))

great_stands : (n : ℕ) → Stands type_number n (great_type n)
great_stands n =
    or_else type_number n 4 I32 _ refl (or_else type_number n 5 U32 _ refl (or_else type_number n 6 I64 _ refl
    (or_else type_number n 7 U64 _ refl (no_value type_number n))))

type_stands : (n : ℕ) → Stands type_number n (type_of n)
unfolding type_of
type_stands n = by (nat_lt n 4)
  where
    by : (b : Bool) → Stands type_number n (cond b (small_type n) (great_type n))
    by true = small_stands n
    by false = great_stands n

pub types : Undoes (λ (t : IntType). Unit {0}) (λ (t : IntType). one_byte (type_number t)) type_at
types = one_of type_number type_of type_small type_back type_stands

scalar_small : (s : Scalar) → scalar_number s < 256
scalar_small (Int t) = type_small t
scalar_small Pointer = omega arith

scalar_back : (s : Scalar) → scalar_of (scalar_number s) ≡ Some s
scalar_back Pointer = refl
scalar_back (Int t) = ap (λ b. cond b (Some Pointer) (option_map Int (type_of (type_number t)))) (not_eight t)
    ∙ ap (option_map Int) (type_back t)
  where
    not_eight : (t : IntType) → nat_eq (type_number t) 8 ≡ false
    not_eight I8 = refl
    not_eight U8 = refl
    not_eight I16 = refl
    not_eight U16 = refl
    not_eight I32 = refl
    not_eight U32 = refl
    not_eight I64 = refl
    not_eight U64 = refl

int_stands : (n : ℕ) (o : Option IntType) → Stands type_number n o → Stands scalar_number n (option_map Int o)
int_stands n None h s e = absurd (let w : ⊥ = cc in w)
int_stands n (Some t) h s e = h t refl ∙ ap scalar_number (same_Some (Int t) s e)

scalar_stands : (n : ℕ) → Stands scalar_number n (scalar_of n)
scalar_stands n = or_else scalar_number n 8 Pointer _ refl (int_stands n (type_of n) (type_stands n))

pub scalars : Undoes (λ (s : Scalar). Unit {0}) (λ (s : Scalar). one_byte (scalar_number s)) scalar_at
scalars = one_of scalar_number scalar_of scalar_small scalar_back scalar_stands

-- ---- numbers

abbrev Fits128 : ℤ → Type 0
Fits128 z = FitsSigned w128 z

unsigned_small : (z : ℤ) → Fits128 z → cast_unsigned w128 z < 340282366920938463463374607431768211456
unsigned_small (pos n) h = omega (arith, ints, h.sfits)
unsigned_small (negsuc n) h = omega (arith, ints, h.sfits)

signed_fits : (n : ℕ) → n < 340282366920938463463374607431768211456 → Fits128 (cast_signed w128 n)
signed_fits n h = search rules

signed_only : (n : ℕ) (z : ℤ) → IsOf 16 n → signed_of n ≡ Some z → Fits128 z × (n ≡ cast_unsigned w128 z)
signed_only n z h e =
    let Goal : ℤ → Type 0 = λ z. Fits128 z × (n ≡ cast_unsigned w128 z) in
    subst Goal (same_Some (cast_signed w128 n) z e) (signed_fits n h, sym (of_z-to_z w128 n h))

pub signeds : Undoes Fits128 signed signed_at
signeds =
    made (IsOf 16) Fits128 (low 16) signed_of (λ z. cast_unsigned w128 z) (low_at 16) (number 16) unsigned_small
    (λ z h. ap (λ (y : ℤ). Some y) (to_z-of_z w128 z h)) signed_only

range_fits : (l : ℤ) → negsuc 9223372036854775807 ≤ℤ l → l ≤ℤ pos 18446744073709551615 → Fits128 l
range_fits (pos n) p q = record { sfits = omega (arith, ints) }
range_fits (negsuc n) p q = record { sfits = omega (arith, ints) }

low_fits : (a : Interval) → Fits128 a.lo
low_fits a = range_fits a.lo a.ends.above (omega (arith, ints, a.ends.ordered, a.ends.below))

high_fits : (a : Interval) → Fits128 a.hi
high_fits a = range_fits a.hi (omega (arith, ints, a.ends.ordered, a.ends.above)) a.ends.below

modulus_fits : (c : Congruence) → Fits128 (pos c.modulus)
modulus_fits c =
    let b = class_small c.remainder c.modulus c.valid in record { sfits = omega (arith, ints, b) }

class_itself : (c : Congruence) → congruence_of c.remainder (pos c.modulus) ≡ Some c
class_itself c =
    ap (λ b. cond b (formed (class_of c)) None) (le_test (pos 0) (pos c.modulus) (omega (arith, ints)))
    ∙ formed_some (class_of c) c.valid

range_itself : (a : Interval) → between a.lo a.hi ≡ Some a
range_itself a = between_some a.lo a.hi a.ends

pair_itself : (n : Numbers) → pair_of {f = intervals.ghosts} {g = congruences.ghosts} n.left n.right ≡ Some n
pair_itself n =
    pair_some intervals.ghosts congruences.ghosts n.left n.right n.may_pair (n.may_pair interval_laws congruence_laws)

abbrev ends : Numbers → ℤ × (ℤ × (ℤ × ℤ))
ends n = (n.left.lo, (n.left.hi, (n.right.remainder, pos n.right.modulus)))

number_itself : (n : Numbers) → number_from (ends n) ≡ Some n
unfolding number_of
number_itself n =
    ap (option_and_then (λ a. option_and_then (pair_of a) (congruence_of n.right.remainder (pos n.right.modulus))))
    (range_itself n.left)
    ∙ ap (option_and_then (pair_of n.left)) (class_itself n.right) ∙ pair_itself n

if_some : {A : Type 0} (P : A → Type 0) (o : Option A) (x : A) → IfSome o P → o ≡ Some x → P x
if_some P None x h e = absurd (let w : ⊥ = cc in w)
if_some P (Some y) x h e = subst P (same_Some y x e) h

class_only : (r m : ℤ) (c : Congruence) → congruence_of r m ≡ Some c → (r ≡ c.remainder) × (m ≡ pos c.modulus)
class_only r (negsuc k) c e =
    let t : None ≡ Some c =
    sym (ap (λ b. cond b (formed (class r (suc k))) None) (le_false (pos 0) (negsuc k) (omega (arith, ints)))) ∙ e in
    absurd (let w : ⊥ = cc in w)
class_only r (pos k) c e =
    let t : formed (class r k) ≡ Some c =
    sym (ap (λ b. cond b (formed (class r k)) None) (le_test (pos 0) (pos k) (omega (arith, ints)))) ∙ e in
    let h = if_some (λ (d : Congruence). (d.remainder ≡ r) × (d.modulus ≡ k)) (formed (class r k)) c
    (formed_keeps (λ (d : Class). (d.remainder ≡ r) × (d.modulus ≡ k)) (class r k) (refl, refl)) t in
    (sym h.0, ap (λ (i : ℕ). pos i) (sym h.1))

range_only : (l h : ℤ) (a : Interval) → between l h ≡ Some a → (l ≡ a.lo) × (h ≡ a.hi)
range_only l h a e =
    if_some (λ (b : Interval). (l ≡ b.lo) × (h ≡ b.hi)) (between l h) a
    (between_parts l h (λ (b : Interval). (l ≡ b.lo) × (h ≡ b.hi)) (λ p. (refl, refl))) e

pair_only : (a : Interval) (c : Congruence) (n : Numbers)
    → pair_of {f = intervals.ghosts} {g = congruences.ghosts} a c ≡ Some n → (n.left ≡ a) × (n.right ≡ c)
pair_only a c n e =
    if_some (λ (m : Numbers). (m.left ≡ a) × (m.right ≡ c)) (pair_of a c) n
    (pair_parts intervals.ghosts congruences.ghosts interval_laws congruence_laws a c) e

number_only : (p : ℤ × (ℤ × (ℤ × ℤ))) (n : Numbers) → number_from p ≡ Some n → p ≡ ends n
unfolding number_of
number_only p n e =
    option_and_then_some _ (between p.0 p.1.0) n e (λ a ea fa.
    option_and_then_some (pair_of a) (congruence_of p.1.1.0 p.1.1.1) n fa (λ c ec fc.
    let r = range_only p.0 p.1.0 a ea in
    let k = class_only p.1.1.0 p.1.1.1 c ec in
    let q = pair_only a c n fc in
    ap (λ (x : ℤ). (x, p.1)) (r.0 ∙ sym (ap (λ (i : Interval). i.lo) q.0))
    ∙ ap (λ (x : ℤ). (n.left.lo, (x, p.1.1))) (r.1 ∙ sym (ap (λ (i : Interval). i.hi) q.0))
    ∙ ap (λ (x : ℤ). (n.left.lo, (n.left.hi, (x, p.1.1.1)))) (k.0 ∙ sym (ap (λ (d : Congruence). d.remainder) q.1))
    ∙ ap (λ (x : ℤ). (n.left.lo, (n.left.hi, (n.right.remainder, x))))
    (k.1 ∙ sym (ap (λ (d : Congruence). pos d.modulus) q.1))))

abbrev AnyNumber : Numbers → Type 0
AnyNumber n = Unit {0}

pub numbers : Undoes AnyNumber number_bytes number_at
unfolding number_bytes number_at
numbers =
    made _ AnyNumber _ number_from ends _
    (both Fits128 _ signed _ signed_at _ signeds
    (both Fits128 _ signed _ signed_at _ signeds
    (both Fits128 Fits128 signed signed signed_at signed_at signeds signeds)))
    (λ n h. (low_fits n.left, (high_fits n.left, (remainder_fits n.right, modulus_fits n.right))))
    (λ n h. number_itself n) (λ p n h e. (tt, number_only p n e))

-- ---- pointers

abbrev IsTargetOf : Target Numbers → Type 0
IsTargetOf t = IsOf 4 t.0 × AnyNumber t.1

pub targets : Undoes IsTargetOf target_bytes target_at
unfolding target_bytes target_at
targets = both (IsOf 4) AnyNumber (low 4) number_bytes (low_at 4) number_at (number 4) numbers

every_target : (ts : List (Target Numbers)) → Every IsTarget ts → Every IsTargetOf ts
every_target [] h = tt
every_target (t ∷ ts) h = ((h.0, tt), every_target ts h.1)

target_every : (ts : List (Target Numbers)) → Every IsTargetOf ts → Every IsTarget ts
target_every [] h = tt
target_every (t ∷ ts) h = (h.0.0, target_every ts h.1)

abbrev parts : Pointers Numbers → Bool × List (Target Numbers)
parts p = (p.null, p.targets)

some_itself : (null : Bool) (ts : List (Target Numbers)) → (null ≡ false → ts ≡ [] → ⊥)
    → some_pointer null ts ≡ Some (pointers null ts)
some_itself false [] h = absurd (h refl refl)
some_itself false (t ∷ ts) h = refl
some_itself true ts h = refl

pointer_itself : (p : Pointers Numbers) → IsPointer p → pointer_from (parts p) ≡ Some p
unfolding pointer_of
pointer_itself p h =
    ap (λ b. cond b (some_pointer p.null p.targets) None) (rises_from p.targets h.rising)
    ∙ some_itself p.null p.targets h.some

record IsMade (null : Bool) (ts : List (Target Numbers)) (p : Pointers Numbers) : Type 0 where
  same : (null, ts) ≡ parts p
  some : p.null ≡ false → p.targets ≡ [] → ⊥

some_only : (null : Bool) (ts : List (Target Numbers)) (p : Pointers Numbers) → some_pointer null ts ≡ Some p
    → IsMade null ts p
some_only false [] p e = absurd (let w : ⊥ = cc in w)
some_only false (t ∷ ts) p e =
    subst (IsMade false (t ∷ ts)) (same_Some _ p e)
    (record { same = refl; some = λ n k. let w : ⊥ = cc in w })
some_only true ts p e =
    subst (IsMade true ts) (same_Some _ p e)
    (record { same = refl; some = λ n k. true_and_false true refl n })

pub if_true : {A : Type 0} (b : Bool) (o : Option A) (x : A) → cond b o None ≡ Some x → (b ≡ true) × (o ≡ Some x)
if_true true o x e = (refl, e)
if_true false o x e = absurd (let w : ⊥ = cc in w)

abbrev AreParts : Bool × List (Target Numbers) → Type 0
AreParts q = Unit {0} × (IsOf 4 (length q.1) × Every IsTargetOf q.1)

pointer_only : (q : Bool × List (Target Numbers)) (p : Pointers Numbers) → AreParts q → pointer_from q ≡ Some p
    → IsPointer p × (q ≡ parts p)
unfolding pointer_of
pointer_only q p h e =
    let a = if_true (rises q.1) (some_pointer q.0 q.1) p e in
    let m = some_only q.0 q.1 p a.1 in
    let t : q.1 ≡ p.targets = ap (λ (z : Bool × List (Target Numbers)). z.1) m.same in
    let Goal : List (Target Numbers) → Type 0 =
    λ ts. (length ts < 256 ^ 4) × (Every IsTarget ts × IsRising ts) in
    let g = subst Goal t (h.1.0, (target_every q.1 h.1.1, rising_from q.1 a.0)) in
    (record { count = g.0; blocks = g.1.0; rising = g.1.1; some = m.some }, m.same)

pub all_pointers : Undoes IsPointer pointer_bytes pointer_at
unfolding pointer_bytes pointer_at
all_pointers =
    made AreParts IsPointer _ pointer_from parts _
    (both _ _ _ _ flag_at _ flags (counted IsTargetOf target_bytes target_at targets (IsOf 4) (low 4) (low_at 4) (number 4)))
    (λ p h. (tt, (h.count, every_target p.targets h.blocks))) pointer_itself pointer_only

-- ---- forms

abbrev name_parts : CellName → Side × (ℕ × (ℕ × IntType))
name_parts c = (c.side, (c.block, (c.offset, c.t)))

name_only : (p : Side × (ℕ × (ℕ × IntType))) (c : CellName) → (Unit {0} × (IsOf 4 p.1.0 × (IsOf 4 p.1.1.0 × Unit {0})))
    → name_from p ≡ Some c → IsName c × (p ≡ name_parts c)
name_only p c h e =
    let Goal : CellName → Type 0 = λ c. IsName c × (p ≡ name_parts c) in
    subst Goal (same_Some _ c e) (record { block = h.1.0; offset = h.1.1.0 }, refl)

pub names : Undoes IsName name_bytes name_at
unfolding name_bytes name_at
names =
    made _ IsName _ name_from name_parts _
    (both _ _ _ _ side_at _ sides (both (IsOf 4) _ (low 4) _ (low_at 4) _ (number 4)
    (both (IsOf 4) _ (low 4) _ (low_at 4) type_at (number 4) types)))
    (λ c h. (tt, (h.block, (h.offset, tt)))) (λ c h. refl) name_only

-- a segment whose numbers have room
abbrev HasPlace : Segment → Type 0
HasPlace (Bits c from to) = IsName c × (IsByte from × IsByte to)
HasPlace (Fixed v w) = IsOf 8 v × IsByte w

bits_undone : Undoes (λ (p : CellName × (ℕ × ℕ)). IsName p.0 × (IsByte p.1.0 × IsByte p.1.1))
    (λ (p : CellName × (ℕ × ℕ)). name_bytes p.0 ++ (one_byte p.1.0 ++ one_byte p.1.1))
    (both_at name_at (both_at byte_at byte_at))
bits_undone =
    both IsName _ name_bytes _ name_at _ names (both IsByte IsByte one_byte one_byte byte_at byte_at byte byte)

fixed_undone : Undoes (λ (p : ℕ × ℕ). IsOf 8 p.0 × IsByte p.1) (λ (p : ℕ × ℕ). low 8 p.0 ++ one_byte p.1)
    (both_at (low_at 8) byte_at)
fixed_undone = both (IsOf 8) IsByte (low 8) one_byte (low_at 8) byte_at (number 8) byte

segment_reads : (s : Segment) (ys : List ℕ) → HasPlace s → segment_at (segment_bytes s ++ ys) ≡ Some (s, ys)
unfolding segment_at bits_at fixed_at
segment_reads (Bits c f t) ys h =
    ap (λ (o : Option ((CellName × (ℕ × ℕ)) × List ℕ)). then_at o (λ x zs. before (bits_from x) zs))
    (bits_undone.reads (c, (f, t)) ys h)
segment_reads (Fixed v w) ys h =
    ap (λ (o : Option ((ℕ × ℕ) × List ℕ)). then_at o (λ x zs. before (fixed_from x) zs))
    (fixed_undone.reads (v, w) ys h)

bits_only : (xs : List ℕ) (s : Segment) (ys : List ℕ) → bits_at xs ≡ Some (s, ys)
    → HasPlace s × (0 ∷ xs ≡ segment_bytes s ++ ys)
unfolding bits_at
bits_only xs s ys e =
    let a = then_parts (both_at name_at (both_at byte_at byte_at) xs) (λ x zs. before (bits_from x) zs) s ys e in
    let m = bits_undone.only xs a.x a.ys a.first in
    let Goal : Segment × List ℕ → Type 0 = λ z. HasPlace z.0 × (0 ∷ xs ≡ segment_bytes z.0 ++ z.1) in
    subst Goal (same_Some _ _ a.rest) (m.0, ap (λ (zs : List ℕ). 0 ∷ zs) m.1)

fixed_only : (xs : List ℕ) (s : Segment) (ys : List ℕ) → fixed_at xs ≡ Some (s, ys)
    → HasPlace s × (1 ∷ xs ≡ segment_bytes s ++ ys)
unfolding fixed_at
fixed_only xs s ys e =
    let a = then_parts (both_at (low_at 8) byte_at xs) (λ x zs. before (fixed_from x) zs) s ys e in
    let m = fixed_undone.only xs a.x a.ys a.first in
    let Goal : Segment × List ℕ → Type 0 = λ z. HasPlace z.0 × (1 ∷ xs ≡ segment_bytes z.0 ++ z.1) in
    subst Goal (same_Some _ _ a.rest) (m.0, ap (λ (zs : List ℕ). 1 ∷ zs) m.1)

-- what is behind a byte, by that byte
segment_tagged : (tag : ℕ) (xs : List ℕ) (s : Segment) (ys : List ℕ) → segment_behind tag xs ≡ Some (s, ys)
    → HasPlace s × (tag ∷ xs ≡ segment_bytes s ++ ys)
segment_tagged tag xs s ys e = by (nat_eq tag 0) (nat_eq tag 1) refl refl e
  where
    by : (a b : Bool) → nat_eq tag 0 ≡ a → nat_eq tag 1 ≡ b
        → cond a (bits_at xs) (cond b (fixed_at xs) None) ≡ Some (s, ys)
        → HasPlace s × (tag ∷ xs ≡ segment_bytes s ++ ys)
    by true b p q f =
        let m = bits_only xs s ys f in (m.0, ap (λ (n : ℕ). n ∷ xs) (eqb-true tag 0 p) ∙ m.1)
    by false true p q f =
        let m = fixed_only xs s ys f in (m.0, ap (λ (n : ℕ). n ∷ xs) (eqb-true tag 1 q) ∙ m.1)
    by false false p q f = absurd (let w : ⊥ = cc in w)

segment_only : (xs : List ℕ) (s : Segment) (ys : List ℕ) → segment_at xs ≡ Some (s, ys)
    → HasPlace s × (xs ≡ segment_bytes s ++ ys)
unfolding segment_at
segment_only xs s ys e =
    let a = then_parts (byte_at xs) segment_behind s ys e in
    let b = byte_only xs a.x a.ys a.first in
    let m = segment_tagged a.x a.ys s ys a.rest in
    (m.0, b.1 ∙ m.1)

pub segments : Undoes HasPlace segment_bytes segment_at
segments = record { reads = segment_reads; only = segment_only }

has_place : (s : Segment) → IsSegment s → HasName s → HasPlace s
has_place (Bits c f t) h n = (n, (omega (arith, h.0, h.1), omega (arith, h.1)))
has_place (Fixed v w) h n = let p = power-le w 64 h.1 in (omega (arith, p, h.2), omega (arith, h.1))

have_places : (ss : List Segment) → AreSegments ss → Every HasName ss → Every HasPlace ss
have_places [] h n = tt
have_places (s ∷ ss) h n = (has_place s h.0 n.0, have_places ss h.1 n.1)

has_name : (s : Segment) → HasPlace s → HasName s
has_name (Bits c f t) h = h.0
has_name (Fixed v w) h = tt

have_names : (ss : List Segment) → Every HasPlace ss → Every HasName ss
have_names [] h = tt
have_names (s ∷ ss) h = (has_name s h.0, have_names ss h.1)

abbrev MayHaveForm : Option (List Segment) → Type 0
MayHaveForm o = IfSome o HasForm

abbrev all_segments : Option (List Segment) → List Segment
all_segments None = []
all_segments (Some ss) = ss

abbrev AreParted : List Segment → Type 0
AreParted ss = IsByte (length ss) × Every HasPlace ss

form_parts : (o : Option (List Segment)) → MayHaveForm o → AreParted (all_segments o)
form_parts None h = (omega arith, tt)
form_parts (Some ss) h = (omega (arith, h.form.few), have_places ss h.form.segments h.names)

form_itself : (o : Option (List Segment)) → MayHaveForm o → form_from (all_segments o) ≡ Some o
form_itself None h = refl
form_itself (Some []) h = absurd (h.some refl)
form_itself (Some (s ∷ ss)) h =
    ap (λ b. option_map Some (cond b (Some (s ∷ ss)) None)) (form_test (s ∷ ss) h.form)

form_only : (ss : List Segment) (o : Option (List Segment)) → AreParted ss → form_from ss ≡ Some o
    → MayHaveForm o × (ss ≡ all_segments o)
form_only [] o h e =
    let Goal : Option (List Segment) → Type 0 = λ o. MayHaveForm o × ([] ≡ all_segments o) in
    subst Goal (same_Some None o e) (tt, refl)
form_only (s ∷ ss) o h e = by (is_form (s ∷ ss)) refl e
  where
    Goal : Option (List Segment) → Type 0
    Goal o = MayHaveForm o × (s ∷ ss ≡ all_segments o)

    by : (b : Bool) → is_form (s ∷ ss) ≡ b → option_map Some (cond b (Some (s ∷ ss)) None) ≡ Some o
        → MayHaveForm o × (s ∷ ss ≡ all_segments o)
    by true p f =
        let Aim : Option (List Segment) → Type 0 = λ o. MayHaveForm o × (s ∷ ss ≡ all_segments o) in
        subst Aim (same_Some (Some (s ∷ ss)) o f)
        (record { form = test_form (s ∷ ss) p; names = have_names (s ∷ ss) h.1; some = λ k. let w : ⊥ = cc in w }, refl)
    by false p f = absurd (let w : ⊥ = cc in w)

form_code : (o : Option (List Segment)) → one_byte (length (all_segments o)) ++ flat_map segment_bytes (all_segments o)
    ≡ form_bytes o
form_code None = refl
form_code (Some ss) = refl

forms_made : Undoes MayHaveForm
    (λ (o : Option (List Segment)). one_byte (length (all_segments o)) ++ flat_map segment_bytes (all_segments o)) form_at
unfolding form_at
forms_made =
    made AreParted MayHaveForm _ form_from all_segments _
    (counted HasPlace segment_bytes segment_at segments IsByte one_byte byte_at byte) form_parts form_itself form_only

recoded : {X : Type 0} (I : X → Type 0) (c d : X → List ℕ) (r : List ℕ → Option (X × List ℕ)) → ((x : X) → c x ≡ d x)
    → Undoes I c r → Undoes I d r
recoded I c d r e u = record {
  reads = λ x ys h. ap (λ (zs : List ℕ). r (zs ++ ys)) (sym (e x)) ∙ u.reads x ys h;
  only = λ xs x ys f. let m = u.only xs x ys f in (m.0, m.1 ∙ ap (λ (zs : List ℕ). zs ++ ys) (e x));
}

pub forms : Undoes MayHaveForm form_bytes form_at
forms = recoded MayHaveForm _ form_bytes form_at form_code forms_made

-- ---- values

value_reads : (v : Option (Value Numbers)) (ys : List ℕ) → IsValue v → value_at (value_bytes v ++ ys) ≡ Some (v, ys)
unfolding value_at
value_reads None ys h = refl
value_reads (Some (Num n)) ys h =
    ap (λ (o : Option (Numbers × List ℕ)). then_at o (λ x zs. before (number_value x) zs)) (numbers.reads n ys tt)
value_reads (Some (Ptr p)) ys h =
    ap (λ (o : Option (Pointers Numbers × List ℕ)). then_at o (λ x zs. before (pointer_value x) zs))
    (all_pointers.reads p ys h)

abbrev IsTagged : ℕ → List ℕ → Option (Value Numbers) × List ℕ → Type 0
IsTagged sort xs z = IsValue z.0 × (sort ∷ xs ≡ value_bytes z.0 ++ z.1)

number_tagged : (xs : List ℕ) (v : Option (Value Numbers)) (ys : List ℕ) → made_at number_value number_at xs ≡ Some (v, ys)
    → IsTagged 1 xs (v, ys)
number_tagged xs v ys e =
    let a = then_parts (number_at xs) (λ x zs. before (number_value x) zs) v ys e in
    let m = numbers.only xs a.x a.ys a.first in
    subst (IsTagged 1 xs) (same_Some _ _ a.rest) (tt, ap (λ (zs : List ℕ). 1 ∷ zs) m.1)

pointer_tagged : (xs : List ℕ) (v : Option (Value Numbers)) (ys : List ℕ)
    → made_at pointer_value pointer_at xs ≡ Some (v, ys) → IsTagged 2 xs (v, ys)
pointer_tagged xs v ys e =
    let a = then_parts (pointer_at xs) (λ x zs. before (pointer_value x) zs) v ys e in
    let m = all_pointers.only xs a.x a.ys a.first in
    subst (IsTagged 2 xs) (same_Some _ _ a.rest) (m.0, ap (λ (zs : List ℕ). 2 ∷ zs) m.1)

value_tagged : (sort : ℕ) (xs : List ℕ) (v : Option (Value Numbers)) (ys : List ℕ) → value_behind sort xs ≡ Some (v, ys)
    → IsTagged sort xs (v, ys)
value_tagged sort xs v ys e = by (nat_eq sort 0) (nat_eq sort 1) (nat_eq sort 2) refl refl refl e
  where
    by : (a b c : Bool) → nat_eq sort 0 ≡ a → nat_eq sort 1 ≡ b → nat_eq sort 2 ≡ c
        → cond a (Some (None, xs)) (cond b (made_at number_value number_at xs)
        (cond c (made_at pointer_value pointer_at xs) None)) ≡ Some (v, ys) → IsTagged sort xs (v, ys)
    by true b c p q r f =
        subst (IsTagged sort xs) (same_Some _ _ f) (tt, ap (λ (n : ℕ). n ∷ xs) (eqb-true sort 0 p))
    by false true c p q r f =
        subst (λ (n : ℕ). IsTagged n xs (v, ys)) (sym (eqb-true sort 1 q)) (number_tagged xs v ys f)
    by false false true p q r f =
        subst (λ (n : ℕ). IsTagged n xs (v, ys)) (sym (eqb-true sort 2 r)) (pointer_tagged xs v ys f)
    by false false false p q r f = absurd (let w : ⊥ = cc in w)

value_only : (xs : List ℕ) (v : Option (Value Numbers)) (ys : List ℕ) → value_at xs ≡ Some (v, ys)
    → IsValue v × (xs ≡ value_bytes v ++ ys)
unfolding value_at
value_only xs v ys e =
    let a = then_parts (byte_at xs) value_behind v ys e in
    let b = byte_only xs a.x a.ys a.first in
    let m = value_tagged a.x a.ys v ys a.rest in
    (m.0, b.1 ∙ m.1)

pub values : Undoes IsValue value_bytes value_at
values = record { reads = value_reads; only = value_only }

-- ---- cells

abbrev HasPlaces : Header → Type 0
HasPlaces h = HasRoom h.block × HasRoom h.offset

abbrev header_bytes : Header → List ℕ
header_bytes h =
    one_byte (side_number h.side) ++ (low 4 h.block ++ (low 4 h.offset ++ (one_byte (scalar_number h.what)
    ++ one_byte (flag h.maybe))))

abbrev header_parts : Header → Side × (ℕ × (ℕ × (Scalar × Bool)))
header_parts h = (h.side, (h.block, (h.offset, (h.what, h.maybe))))

header_only : (p : Side × (ℕ × (ℕ × (Scalar × Bool)))) (h : Header)
    → (Unit {0} × (IsOf 4 p.1.0 × (IsOf 4 p.1.1.0 × (Unit {0} × Unit {0})))) → header_from p ≡ Some h
    → HasPlaces h × (p ≡ header_parts h)
header_only p h k e =
    let Goal : Header → Type 0 = λ h. HasPlaces h × (p ≡ header_parts h) in
    subst Goal (same_Some _ h e) ((k.1.0, k.1.1.0), refl)

headers : Undoes HasPlaces header_bytes header_at
unfolding header_at
headers =
    made _ HasPlaces _ header_from header_parts _
    (both _ _ _ _ side_at _ sides (both (IsOf 4) _ (low 4) _ (low_at 4) _ (number 4)
    (both (IsOf 4) _ (low 4) _ (low_at 4) _ (number 4) (both _ _ _ _ scalar_at flag_at scalars flags))))
    (λ h k. (tt, (k.0, (k.1, (tt, tt))))) (λ h k. refl) header_only

abbrev header_of : Cell Numbers → Header
header_of c = record { side = c.side; block = c.block; offset = c.offset; what = c.what; maybe = c.maybe }

abbrev cell_parts : Cell Numbers → Header × (Option (Value Numbers) × Option (List Segment))
cell_parts c = (header_of c, (c.value, c.form))

abbrev AreCellParts : Header × (Option (Value Numbers) × Option (List Segment)) → Type 0
AreCellParts p = HasPlaces p.0 × (IsValue p.1.0 × MayHaveForm p.1.1)

cell_only : (p : Header × (Option (Value Numbers) × Option (List Segment))) (c : Cell Numbers) → AreCellParts p
    → cell_from p ≡ Some c → HasBytes c × (p ≡ cell_parts c)
cell_only p c h e =
    let Goal : Cell Numbers → Type 0 = λ c. HasBytes c × (p ≡ cell_parts c) in
    subst Goal (same_Some _ c e)
    (record { block = h.0.0; offset = h.0.1; value = h.1.0; form = h.1.1 }, refl)

cell_code : (c : Cell Numbers) → header_bytes (header_of c) ++ (value_bytes c.value ++ form_bytes c.form) ≡ cell_bytes c
unfolding cell_bytes
cell_code c =
    ap (λ (zs : List ℕ). side_number c.side ∷ zs)
    (append_assoc (low 4 c.block) (low 4 c.offset ++ (scalar_number c.what ∷ flag c.maybe ∷ [])) rest
    ∙ ap (λ (zs : List ℕ). low 4 c.block ++ zs)
    (append_assoc (low 4 c.offset) (scalar_number c.what ∷ flag c.maybe ∷ []) rest))
  where
    rest : List ℕ
    rest = value_bytes c.value ++ form_bytes c.form

cells_made : Undoes HasBytes (λ (c : Cell Numbers). header_bytes (header_of c) ++ (value_bytes c.value ++ form_bytes c.form))
    cell_at
unfolding cell_at
cells_made =
    made AreCellParts HasBytes _ cell_from cell_parts _
    (both HasPlaces _ header_bytes _ header_at _ headers
    (both IsValue MayHaveForm value_bytes form_bytes value_at form_at values forms))
    (λ c h. ((h.block, h.offset), (h.value, h.form))) (λ c h. refl) cell_only

pub cells : Undoes HasBytes cell_bytes cell_at
cells = recoded HasBytes _ cell_bytes cell_at cell_code cells_made
