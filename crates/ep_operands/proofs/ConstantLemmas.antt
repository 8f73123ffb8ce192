-- What the parts of an expression of numbers are.
use Rattle.std.proofs.Common.{◌≡◌, ℕ, zero, suc, ◌+◌, ◌<◌, Bool, true, false, true≢false, ◌&&◌, ◌||◌, Option, Some}
use Rattle.ep_core.proofs.Sorts.{same_type}
use Rattle.std.proofs.lemmas.Bool.{and_parts}
use Rattle.std.proofs.Common.{None, Result, Ok, Err, refl, sym, ap, ◌∙◌, subst, ℤ, pos, arith}
use Rattle.std.specs.Prelude.{IfSome}
use Rattle.ep_int.specs.declared.types.IntType.{IntType}
use Rattle.ep_int.specs.declared.types.IntType.TheVariants.{I8, U8, I16, U16, I32, U32, I64, U64}
use Rattle.ep_int.specs.declared.types.BinOp.{BinOp}
use Rattle.ep_int.specs.declared.types.BinOp.TheVariants.{Add, Sub, Mul, Div, Rem, And, Or, Xor, Shl, Shr}
use Rattle.ep_int.specs.declared.types.Cmp.{Cmp}
use Rattle.ep_int.specs.declared.types.Undef.{Undef}
use Rattle.ep_int.specs.Arith.{IsRightOperand, arith_of, is_in_range}
use Rattle.ep_int.specs.Types.{InRange}
use Rattle.ep_int.proofs.Arithmetic.{arith_in_range, in_range_from_true, in_range_some_type}
use Rattle.ep_core.specs.Program.{Expr}
use Rattle.ep_core.specs.Program as core
use Rattle.ep_core.specs.declared.tree.Expr as tree
use Rattle.ep_core.specs.View.{expr_view}
use Rattle.ep_core.specs.WellFormed.{is_same_type}
use Rattle.ep_typing.specs.Constant.{no_fault, truth}
use Rattle.ep_operands.specs.Numbers.{some, is_right, is_number, IsNumber, IsSomeNumber}
use Rattle.ep_operands.proofs.Sound.{some_has, some_is}

-- an expression of some type, with a test on it and one on its parts
parts_of : (test : IntType → Bool) (more : Bool) → some (λ u. test u && more) ≡ true → more ≡ true
parts_of test more h = let s = some_has (λ u. test u && more) h in (and_parts (test s.0) more s.1).1

right_some : (op : BinOp) (t : IntType) (test : IntType → Bool) → is_right op t test ≡ true → some test ≡ true
right_some Add t test h = some_is test t h
right_some Sub t test h = some_is test t h
right_some Mul t test h = some_is test t h
right_some Div t test h = some_is test t h
right_some Rem t test h = some_is test t h
right_some And t test h = some_is test t h
right_some Or t test h = some_is test t h
right_some Xor t test h = some_is test t h
right_some Shl t test h = h
right_some Shr t test h = h

-- what holds of a number of each type that an expression has
abbrev pub Fits : Expr → ℤ → Type 0
Fits e v = (t : IntType) → IsNumber e t → InRange t v

right_fits : (op : BinOp) (t : IntType) (b : Expr) (y : ℤ) → is_right op t (is_number b) ≡ true → Fits b y → IsRightOperand op t y
right_fits Add t b y h f = f t h
right_fits Sub t b y h f = f t h
right_fits Mul t b y h f = f t h
right_fits Div t b y h f = f t h
right_fits Rem t b y h f = f t h
right_fits And t b y h f = f t h
right_fits Or t b y h f = f t h
right_fits Xor t b y h f = f t h
right_fits Shl t b y h f = let s = some_has (is_number b) h in in_range_some_type s.0 y (f s.0 s.1)
right_fits Shr t b y h f = let s = some_has (is_number b) h in in_range_some_type s.0 y (f s.0 s.1)

module _ (op : BinOp) (t : IntType) (a b : Expr) (h : IsSomeNumber (core.binary op t a b)) where
  binary_both : (IsNumber a t) × (is_right op t (is_number b) ≡ true)
  binary_both = and_parts (is_number a t) (is_right op t (is_number b)) (parts_of (is_same_type t) _ h)

  pub binary_left : IsSomeNumber a
  binary_left = some_is (is_number a) t binary_both.0

  pub binary_right : IsSomeNumber b
  binary_right = right_some op t (is_number b) binary_both.1

  pub left_in_range : (x : ℤ) → Fits a x → InRange t x
  left_in_range x f = f t binary_both.0

  pub right_in_range : (y : ℤ) → Fits b y → IsRightOperand op t y
  right_in_range y f = right_fits op t b y binary_both.1 f

no_fault_fits : (t : IntType) (r : Result ℤ Undef) → ((z : ℤ) → r ≡ Ok z → InRange t z) → IfSome (no_fault r) (InRange t)
no_fault_fits t (Ok z) f = f z refl
no_fault_fits t (Err u) f = tt

same_fits : (P : ℤ → Type 0) (o : Option ℤ) (t u : IntType) → t ≡ u → IfSome o (InRange t) → IfSome o (InRange u)
same_fits P o t u e h = subst (λ (s : IntType). IfSome o (InRange s)) e h

each : (e : Expr) (o : Option ℤ) → ((u : IntType) → IsNumber e u → IfSome o (InRange u)) → IfSome o (Fits e)
each e (Some v) f = λ u n. f u n
each e None f = tt

pub binary_fits : (op : BinOp) (t : IntType) (a b : Expr) (x y : ℤ) → InRange t x → IfSome (no_fault (arith_of op t x y)) (Fits (core.binary op t a b))
binary_fits op t a b x y h =
    each (core.binary op t a b) (no_fault (arith_of op t x y))
    (λ u n. same_fits (InRange t) (no_fault (arith_of op t x y)) t u (same_type t u (and_parts (is_same_type t u) _ n).0)
    (no_fault_fits t (arith_of op t x y) (λ z. arith_in_range op t x y z h)))

pub const_fits : (t : IntType) (v : ℤ) → Fits (core.const t v) v
const_fits t v u n =
    let p = and_parts (is_same_type t u) (is_in_range t v) n in
    subst (λ (s : IntType). InRange s v) (same_type t u p.0) (in_range_from_true t v p.1)

pub convert_operand : (t : IntType) (a : Expr) → IsSomeNumber (core.convert t a) → IsSomeNumber a
convert_operand t a h = parts_of (is_same_type t) _ h

pub convert_fits : (t : IntType) (a : Expr) (z : ℤ) → InRange t z → Fits (core.convert t a) z
convert_fits t a z h u n = subst (λ (s : IntType). InRange s z) (same_type t u (and_parts (is_same_type t u) _ n).0) h

truth_in_range : (b : Bool) → InRange I32 (truth b)
truth_in_range true = in_range_from_true I32 (pos 1) refl
truth_in_range false = in_range_from_true I32 (pos 0) refl

truth_fits : (b more : Bool) (u : IntType) → (is_same_type I32 u && more) ≡ true → InRange u (truth b)
truth_fits b more u n = subst (λ (s : IntType). InRange s (truth b)) (same_type I32 u (and_parts (is_same_type I32 u) more n).0) (truth_in_range b)

module _ (c : Cmp) (t : IntType) (a b : Expr) where
  compare_both : IsSomeNumber (core.compare c t a b) → (IsNumber a t) × (IsNumber b t)
  compare_both h = and_parts (is_number a t) (is_number b t) (parts_of (is_same_type I32) _ h)

  pub compare_left : IsSomeNumber (core.compare c t a b) → IsSomeNumber a
  compare_left h = some_is (is_number a) t (compare_both h).0

  pub compare_right : IsSomeNumber (core.compare c t a b) → IsSomeNumber b
  compare_right h = some_is (is_number b) t (compare_both h).1

  pub compare_fits : (v : Bool) → Fits (core.compare c t a b) (truth v)
  compare_fits v u n = truth_fits v _ u n

module _ (a b : Expr) where
  pub and_left : IsSomeNumber (core.logical_and a b) → IsSomeNumber a
  and_left h = (and_parts (some (is_number a)) (some (is_number b)) (parts_of (is_same_type I32) _ h)).0

  pub and_right : IsSomeNumber (core.logical_and a b) → IsSomeNumber b
  and_right h = (and_parts (some (is_number a)) (some (is_number b)) (parts_of (is_same_type I32) _ h)).1

  pub and_fits : (v : Bool) → Fits (core.logical_and a b) (truth v)
  and_fits v u n = truth_fits v _ u n

  pub or_left : IsSomeNumber (core.logical_or a b) → IsSomeNumber a
  or_left h = (and_parts (some (is_number a)) (some (is_number b)) (parts_of (is_same_type I32) _ h)).0

  pub or_right : IsSomeNumber (core.logical_or a b) → IsSomeNumber b
  or_right h = (and_parts (some (is_number a)) (some (is_number b)) (parts_of (is_same_type I32) _ h)).1

  pub or_fits : (v : Bool) → Fits (core.logical_or a b) (truth v)
  or_fits v u n = truth_fits v _ u n

pub not_operand : (a : Expr) → IsSomeNumber (core.logical_not a) → IsSomeNumber a
not_operand a h = parts_of (is_same_type I32) _ h

pub not_fits : (a : Expr) (v : Bool) → Fits (core.logical_not a) (truth v)
not_fits a v u n = truth_fits v _ u n

module _ (e a b : Expr) where
  chosen_both : (u : IntType) → IsNumber (core.conditional e a b) u → (IsNumber a u) × (IsNumber b u)
  chosen_both u n = and_parts (is_number a u) (is_number b u) (and_parts (some (is_number e)) _ n).1

  pub cond_test : IsSomeNumber (core.conditional e a b) → IsSomeNumber e
  cond_test h = let s = some_has (is_number (core.conditional e a b)) h in (and_parts (some (is_number e)) _ s.1).0

  pub cond_yes : IsSomeNumber (core.conditional e a b) → IsSomeNumber a
  cond_yes h = let s = some_has (is_number (core.conditional e a b)) h in some_is (is_number a) s.0 (chosen_both s.0 s.1).0

  pub cond_no : IsSomeNumber (core.conditional e a b) → IsSomeNumber b
  cond_no h = let s = some_has (is_number (core.conditional e a b)) h in some_is (is_number b) s.0 (chosen_both s.0 s.1).1

  pub yes_fits : (o : Option ℤ) → IfSome o (Fits a) → IfSome o (Fits (core.conditional e a b))
  yes_fits (Some v) f = λ u n. f u (chosen_both u n).0
  yes_fits None f = tt

  pub no_fits : (o : Option ℤ) → IfSome o (Fits b) → IfSome o (Fits (core.conditional e a b))
  no_fits (Some v) f = λ u n. f u (chosen_both u n).1
  no_fits None f = tt

-- ---- parts are smaller

abbrev pub size : Expr → ℕ
size (core.const t v) = 0
size core.null_value = 0
size (core.load what p) = 0
size (core.addr_of p) = 0
size (core.binary op t a b) = suc (size a + size b)
size (core.convert t a) = suc (size a)
size (core.compare c t a b) = suc (size a + size b)
size (core.ptr_compare c a b) = 0
size (core.logical_and a b) = suc (size a + size b)
size (core.logical_or a b) = suc (size a + size b)
size (core.logical_not a) = suc (size a)
size (core.conditional e a b) = suc (size e + (size a + size b))
size (core.ptr_add a unit n back) = 0
size (core.cast a) = 0

pub below : (e s : tree.Expr) (x y : Expr) → expr_view e ≡ x → expr_view s ≡ y → size y < size x → size (expr_view s) < size (expr_view e)
below e s x y p q h = subst (λ (z : Expr). size (expr_view s) < size z) (sym p) (subst (λ (z : Expr). size z < size x) (sym q) h)

pub typed_part : (e s : tree.Expr) (x y : Expr) → expr_view e ≡ x → expr_view s ≡ y → (IsSomeNumber x → IsSomeNumber y) → IsSomeNumber (expr_view e)
    → IsSomeNumber (expr_view s)
typed_part e s x y p q f h = subst IsSomeNumber (sym q) (f (subst IsSomeNumber p h))
