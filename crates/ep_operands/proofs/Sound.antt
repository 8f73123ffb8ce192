-- Values whose numbers are of their types.
use Rattle.std.proofs.Common.{◌≡◌, ℕ, ◌≤◌, Bool, true, false, true≢false, cond, ◌&&◌, ◌||◌, not, Option, Some, None}
use Rattle.ep_core.proofs.Sorts.{same_type}
use Rattle.ep_int.proofs.Basics.{zero_in_range}
use Rattle.std.proofs.lemmas.Bool.{and_from, and_parts, or_left, or_right}
use Rattle.std.proofs.Common.{option_map, option_and_then, slice_get, refl, sym, ap, ◌∙◌, subst, arith, ℤ, pos}
use Rattle.std.proofs.Common.{negsuc}
use Rattle.std.specs.List.{list_any, list_all}
use Rattle.ep_int.specs.declared.types.IntType.{IntType}
use Rattle.ep_int.specs.declared.types.IntType.TheVariants.{I8, U8, I16, U16, I32, U32, I64, U64}
use Rattle.ep_int.specs.declared.types.BinOp.{BinOp}
use Rattle.ep_int.specs.declared.types.BinOp.TheVariants.{Add, Sub, Mul, Div, Rem, And, Or, Xor, Shl, Shr}
use Rattle.ep_int.specs.declared.types.Cmp.{Cmp}
use Rattle.ep_int.specs.Arith.{is_in_range}
use Rattle.ep_int.specs.Types.{wrapped}
use Rattle.ep_core.specs.Program.{Expr}
use Rattle.ep_core.specs.Program as core
use Rattle.ep_core.specs.WellFormed.{is_same_type}
use Rattle.ep_typing.specs.declared.types.CType.{CType}
use Rattle.ep_typing.specs.Types.{int_of, int_type, is_same, is_int_base, is_integer, is_pointer, is_scalar}
use Rattle.ep_typing.specs.Types.{is_void_pointer, is_void, target, void_pointer}
use Rattle.ep_typing.specs.SameTypes.{int_itself, same_types}
use Rattle.ep_typing.specs.Operand.{Value, as_pointer, as_type, converted, plain_value, promoted_type, is_mixed}
use Rattle.ep_typing.specs.Operators.{are_integers, are_mixed, chosen_type, opposite, turned}
use Rattle.ep_operands.specs.Numbers.{all_types, some, is_right, is_number, IsNumber, IsSomeNumber, is_sound, IsSound}

-- ---- tests

-- a test that some integer type passes
pub some_is : (test : IntType → Bool) (t : IntType) → test t ≡ true → some test ≡ true
some_is test I8 h = or_left (test I8) _ h
some_is test U8 h = or_right (test I8) _ (or_left (test U8) _ h)
some_is test I16 h = or_right (test I8) _ (or_right (test U8) _ (or_left (test I16) _ h))
some_is test U16 h = or_right (test I8) _ (or_right (test U8) _ (or_right (test I16) _ (or_left (test U16) _ h)))
some_is test I32 h = or_right (test I8) _ (or_right (test U8) _ (or_right (test I16) _ (or_right (test U16) _ (or_left (test I32) _ h))))
some_is test U32 h =
    or_right (test I8) _ (or_right (test U8) _ (or_right (test I16) _ (or_right (test U16) _ (or_right (test I32) _ (or_left (test U32) _ h)))))
some_is test I64 h =
    or_right (test I8) _ (or_right (test U8) _ (or_right (test I16) _ (or_right (test U16) _ (or_right (test I32) _ (or_right (test U32) _ (or_left (test I64) _ h))))))
some_is test U64 h =
    or_right (test I8) _ (or_right (test U8) _ (or_right (test I16) _ (or_right (test U16) _ (or_right (test I32) _ (or_right (test U32) _ (or_right (test I64) _ (or_left (test U64) _ h)))))))

found : (test : IntType → Bool) (t : IntType) (b more : Bool) → test t ≡ b → (b || more) ≡ true → (more ≡ true → (s : IntType) × (test s ≡ true))
    → (s : IntType) × (test s ≡ true)
found test t true more e h next = (t, e)
found test t false more e h next = next h

pub some_has : (test : IntType → Bool) → some test ≡ true → (t : IntType) × (test t ≡ true)
some_has test h =
    found test I8 (test I8) _ refl h (λ i. found test U8 (test U8) _ refl i (λ j. found test I16 (test I16) _ refl j
    (λ k. found test U16 (test U16) _ refl k (λ l. found test I32 (test I32) _ refl l (λ m. found test U32 (test U32) _ refl m
    (λ n. found test I64 (test I64) _ refl n (λ o. found test U64 (test U64) _ refl o (λ p. absurd (true≢false (sym p))))))))))

pub all_are : (test : IntType → Bool) → ((t : IntType) → test t ≡ true) → list_all test all_types ≡ true
all_are test h =
    and_from (test I8) _ (h I8) (and_from (test U8) _ (h U8) (and_from (test I16) _ (h I16) (and_from (test U16) _ (h U16) (and_from (test I32) _ (h I32)
    (and_from (test U32) _ (h U32) (and_from (test I64) _ (h I64) (and_from (test U64) _ (h U64) refl)))))))

pub all_have : (test : IntType → Bool) → list_all test all_types ≡ true → (t : IntType) → test t ≡ true
all_have test h I8 = (and_parts (test I8) _ h).0
all_have test h U8 = (and_parts (test U8) _ (and_parts (test I8) _ h).1).0
all_have test h I16 = (and_parts (test I16) _ (and_parts (test U8) _ (and_parts (test I8) _ h).1).1).0
all_have test h U16 = (and_parts (test U16) _ (and_parts (test I16) _ (and_parts (test U8) _ (and_parts (test I8) _ h).1).1).1).0
all_have test h I32 =
    (and_parts (test I32) _ (and_parts (test U16) _ (and_parts (test I16) _ (and_parts (test U8) _ (and_parts (test I8) _ h).1).1).1).1).0
all_have test h U32 =
    (and_parts (test U32) _ (and_parts (test I32) _ (and_parts (test U16) _ (and_parts (test I16) _ (and_parts (test U8) _ (and_parts (test I8) _ h).1).1).1).1).1).0
all_have test h I64 =
    (and_parts (test I64) _ (and_parts (test U32) _ (and_parts (test I32) _ (and_parts (test U16) _ (and_parts (test I16) _ (and_parts (test U8) _ (and_parts (test I8) _ h).1).1).1).1).1).1).0
all_have test h U64 =
    (and_parts (test U64) _ (and_parts (test I64) _ (and_parts (test U32) _ (and_parts (test I32) _ (and_parts (test U16) _ (and_parts (test I16) _ (and_parts (test U8) _ (and_parts (test I8) _ h).1).1).1).1).1).1).1).0

-- ---- values

pub as_number : (v : Value) → is_pointer v.ty ≡ false → IsSound v → IsNumber v.expr (int_of v.ty)
as_number v e s = ap (λ (p : Bool). cond p (list_all (is_number v.expr) all_types) (is_number v.expr (int_of v.ty))) (sym e) ∙ s

pub as_none : (v : Value) → is_pointer v.ty ≡ true → IsSound v → (t : IntType) → IsNumber v.expr t
as_none v e s =
    all_have (is_number v.expr) (ap (λ (p : Bool). cond p (list_all (is_number v.expr) all_types) (is_number v.expr (int_of v.ty))) (sym e) ∙ s)

some_by : (p : Bool) (v : Value) → is_pointer v.ty ≡ p → IsSound v → IsSomeNumber v.expr
some_by true v e s = some_is (is_number v.expr) I32 (as_none v e s I32)
some_by false v e s = some_is (is_number v.expr) (int_of v.ty) (as_number v e s)

-- whatever a value is, it is a number of some type
pub some_number : (v : Value) → IsSound v → IsSomeNumber v.expr
some_number v s = some_by (is_pointer v.ty) v refl s

pub number_sound : (v : Value) → is_pointer v.ty ≡ false → IsNumber v.expr (int_of v.ty) → IsSound v
number_sound v e h = ap (λ (p : Bool). cond p (list_all (is_number v.expr) all_types) (is_number v.expr (int_of v.ty))) e ∙ h

pointer_sound : (v : Value) → is_pointer v.ty ≡ true → ((t : IntType) → IsNumber v.expr t) → IsSound v
pointer_sound v e h =
    ap (λ (p : Bool). cond p (list_all (is_number v.expr) all_types) (is_number v.expr (int_of v.ty))) e ∙ all_are (is_number v.expr) h

unknown_by : (p : Bool) (v : Value) → is_pointer v.ty ≡ p → ((t : IntType) → IsNumber v.expr t) → IsSound v
unknown_by true v e h = pointer_sound v e h
unknown_by false v e h = number_sound v e (h (int_of v.ty))

pub unknown_sound : (v : Value) → ((t : IntType) → IsNumber v.expr t) → IsSound v
unknown_sound v h = unknown_by (is_pointer v.ty) v refl h

-- ---- numbers by their forms

pub const_number : (t : IntType) (v : ℤ) → is_in_range t v ≡ true → IsNumber (core.const t v) t
const_number t v h = and_from (is_same_type t t) (is_in_range t v) (int_itself t) h

right_is : (op : BinOp) (t : IntType) (test : IntType → Bool) → test t ≡ true → is_right op t test ≡ true
right_is Add t test h = h
right_is Sub t test h = h
right_is Mul t test h = h
right_is Div t test h = h
right_is Rem t test h = h
right_is And t test h = h
right_is Or t test h = h
right_is Xor t test h = h
right_is Shl t test h = some_is test t h
right_is Shr t test h = some_is test t h

pub binary_number : (op : BinOp) (t : IntType) (a b : Expr) → IsNumber a t → IsNumber b t → IsNumber (core.binary op t a b) t
binary_number op t a b h k =
    and_from (is_same_type t t) _ (int_itself t) (and_from (is_number a t) _ h (right_is op t (is_number b) k))

pub compare_number : (c : Cmp) (t : IntType) (a b : Expr) → IsNumber a t → IsNumber b t → IsNumber (core.compare c t a b) I32
compare_number c t a b h k = and_from (is_number a t) (is_number b t) h k

pub and_number : (a b : Expr) → IsSomeNumber a → IsSomeNumber b → IsNumber (core.logical_and a b) I32
and_number a b h k = and_from (some (is_number a)) (some (is_number b)) h k

pub or_number : (a b : Expr) → IsSomeNumber a → IsSomeNumber b → IsNumber (core.logical_or a b) I32
or_number a b h k = and_from (some (is_number a)) (some (is_number b)) h k

pub cond_number : (e a b : Expr) (t : IntType) → IsSomeNumber e → IsNumber a t → IsNumber b t → IsNumber (core.conditional e a b) t
cond_number e a b t g h k = and_from (some (is_number e)) _ g (and_from (is_number a t) (is_number b t) h k)

not_pointer_by : (p i : Bool) → cond p false i ≡ true → p ≡ false
not_pointer_by true i h = absurd (true≢false (sym h))
not_pointer_by false i h = refl

pub not_pointer : (c : CType) → is_integer c ≡ true → is_pointer c ≡ false
not_pointer c h = not_pointer_by (is_pointer c) (is_int_base c.base) h

converted_by : (b : Bool) (t : IntType) (v : Value) → is_same_type t (int_of v.ty) ≡ b → IsNumber v.expr (int_of v.ty)
    → IsNumber (cond b v.expr (core.convert t v.expr)) t
converted_by true t v e h = subst (IsNumber v.expr) (sym (same_type t (int_of v.ty) e)) h
converted_by false t v e h = and_from (is_same_type t t) _ (int_itself t) (some_is (is_number v.expr) (int_of v.ty) h)

pub converted_number : (t : IntType) (v : Value) → IsSound v → is_pointer v.ty ≡ false → IsNumber (converted t v) t
converted_number t v s e = converted_by (is_same_type t (int_of v.ty)) t v refl (as_number v e s)

-- ---- what `? :` chooses of two pointers is one

-- of two scalars, one pointer (p) or integer (i), and null or not (n)
chosen_by : (p q i j m n : Bool) → (cond p true i && cond q true j) ≡ true → (cond p false i && cond q false j) ≡ false
    → cond p (cond p (cond q false j && not n) q) (cond q (cond q (cond p false i && not m) p) false) ≡ false
    → ((m ≡ true) × (n ≡ false) → q ≡ true) × ((m ≡ false) → p ≡ true)
chosen_by true true i j m n a b c = ((λ h. refl), (λ h. refl))
chosen_by true false i true m true a b c = ((λ h. absurd (true≢false h.1)), (λ h. refl))
chosen_by true false i true m false a b c = absurd (true≢false c)
chosen_by true false i false m n a b c = absurd (true≢false (sym a))
chosen_by false true true j true n a b c = ((λ h. refl), (λ h. absurd (true≢false h)))
chosen_by false true true j false n a b c = absurd (true≢false c)
chosen_by false true false j m n a b c = absurd (true≢false (sym a))
chosen_by false false true true m n a b c = absurd (true≢false b)
chosen_by false false true false m n a b c = absurd (true≢false (sym a))
chosen_by false false false j m n a b c = absurd (true≢false (sym a))

pointer_chosen_by : (m n v q p : Bool) (x y z : CType) → is_pointer x ≡ true → is_pointer y ≡ q → is_pointer z ≡ p → (v ≡ true → q ≡ true)
    → ((m ≡ true) × (n ≡ false) → q ≡ true) × ((m ≡ false) → p ≡ true)
    → is_pointer (cond (m && n) x (cond m y (cond n z (cond v y z)))) ≡ true
pointer_chosen_by true true v q p x y z a b c d e = a
pointer_chosen_by true false v q p x y z a b c d e = b ∙ e.0 (refl, refl)
pointer_chosen_by false true v q p x y z a b c d e = c ∙ e.1 refl
pointer_chosen_by false false true q p x y z a b c d e = b ∙ d refl
pointer_chosen_by false false false q p x y z a b c d e = c ∙ e.1 refl

void_pointer_by : (p w : Bool) → cond p w false ≡ true → p ≡ true
void_pointer_by true w h = refl
void_pointer_by false w h = absurd (true≢false (sym h))

pub chosen_is_pointer : (a b : Value) → (is_scalar a.ty && is_scalar b.ty) ≡ true → are_integers a b ≡ false → are_mixed a b ≡ false
    → is_pointer (chosen_type a b) ≡ true
chosen_is_pointer a b h k l =
    pointer_chosen_by a.is_null b.is_null (is_void_pointer b.ty) (is_pointer b.ty) (is_pointer a.ty) void_pointer b.ty a.ty refl refl refl
    (void_pointer_by (is_pointer b.ty) (is_void (target b.ty)))
    (chosen_by (is_pointer a.ty) (is_pointer b.ty) (is_int_base a.ty.base) (is_int_base b.ty.base) a.is_null b.is_null h k l)

-- ---- pairs of integers

pub left_number : (a b : Value) → are_integers a b ≡ true → is_pointer a.ty ≡ false
left_number a b h = not_pointer a.ty (and_parts (is_integer a.ty) (is_integer b.ty) h).0

pub right_number : (a b : Value) → are_integers a b ≡ true → is_pointer b.ty ≡ false
right_number a b h = not_pointer b.ty (and_parts (is_integer a.ty) (is_integer b.ty) h).1

pointer_as_by : (n b : Bool) (c : CType) (v : Value) → is_same c v.ty ≡ b → IsSound v → is_pointer c ≡ true → (t : IntType)
    → IsNumber (cond n core.null_value (cond b v.expr (core.cast v.expr))) t
pointer_as_by true b c v e s h t = refl
pointer_as_by false true c v e s h t = as_none v (subst (λ (d : CType). is_pointer d ≡ true) (same_types c v.ty e) h) s t
pointer_as_by false false c v e s h t = refl

pub pointer_as : (c : CType) (v : Value) → IsSound v → is_pointer c ≡ true → (t : IntType) → IsNumber (as_pointer c v) t
pointer_as c v s h t = pointer_as_by v.is_null (is_same c v.ty) c v refl s h t

-- ---- casts

cast_by : (p q i j n : Bool) (c : CType) (v : Value) → is_pointer c ≡ p → is_pointer v.ty ≡ q → is_int_base v.ty.base ≡ i → v.is_null ≡ n
    → (cond p true j && cond q true i) ≡ true → cond p (cond q false i && not n) q ≡ false → IsSound v
    → IsSound (plain_value (cond p (as_pointer c v) (converted (int_of c) v)) c)
cast_by true q i j n c v e f g k a b s = pointer_sound (plain_value (as_pointer c v) c) e (pointer_as c v s e)
cast_by false true i j n c v e f g k a b s = absurd (true≢false b)
cast_by false false i j n c v e f g k a b s = number_sound (plain_value (converted (int_of c) v) c) e (converted_number (int_of c) v s f)

pub cast_sound : (c : CType) (v : Value) → (is_scalar c && is_scalar v.ty) ≡ true → is_mixed c v ≡ false → IsSound v → IsSound (plain_value (as_type c v) c)
cast_sound c v a b s =
    cast_by (is_pointer c) (is_pointer v.ty) (is_int_base v.ty.base) (is_int_base c.base) v.is_null c v refl refl refl refl a b s

-- ---- expressions in code

pub along : (e f : Expr) (t : IntType) → e ≡ f → IsNumber f t → IsNumber e t
along e f t p h = subst (λ (x : Expr). IsNumber x t) (sym p) h

pub is_converted : (e : Expr) (t : IntType) (v : Value) → e ≡ converted t v → IsSound v → is_pointer v.ty ≡ false → IsNumber e t
is_converted e t v p s h = along e (converted t v) t p (converted_number t v s h)

pub is_pointer_as : (e : Expr) (c : CType) (v : Value) (t : IntType) → e ≡ as_pointer c v → IsSound v → is_pointer c ≡ true → IsNumber e t
is_pointer_as e c v t p s h = along e (as_pointer c v) t p (pointer_as c v s h t)

pub shift_number : (op : BinOp) (t u : IntType) (a b : Expr) → ((s : IntType) (test : IntType → Bool) → is_right op s test ≡ some test)
    → IsNumber a t → IsNumber b u → IsNumber (core.binary op t a b) t
shift_number op t u a b f h k =
    and_from (is_same_type t t) _ (int_itself t) (and_from (is_number a t) _ h (f t (is_number b) ∙ some_is (is_number b) u k))

pub opposite_number : (a : Value) → IsSound a → is_integer a.ty ≡ true → IsNumber (opposite a).expr (promoted_type a)
opposite_number a s h =
    binary_number Sub (promoted_type a) (core.const (promoted_type a) (pos 0)) (converted (promoted_type a) a)
    (const_number (promoted_type a) (pos 0) (zero_in_range (promoted_type a)))
    (converted_number (promoted_type a) a s (not_pointer a.ty h))

ones_in_range : (t : IntType) → is_in_range t (wrapped t (negsuc 0)) ≡ true
ones_in_range I8 = refl
ones_in_range U8 = refl
ones_in_range I16 = refl
ones_in_range U16 = refl
ones_in_range I32 = refl
ones_in_range U32 = refl
ones_in_range I64 = refl
ones_in_range U64 = refl

pub turned_number : (a : Value) → IsSound a → is_integer a.ty ≡ true → IsNumber (turned a).expr (promoted_type a)
turned_number a s h =
    binary_number Xor (promoted_type a) (converted (promoted_type a) a) (core.const (promoted_type a) (wrapped (promoted_type a) (negsuc 0)))
    (converted_number (promoted_type a) a s (not_pointer a.ty h))
    (const_number (promoted_type a) (wrapped (promoted_type a) (negsuc 0)) (ones_in_range (promoted_type a)))
