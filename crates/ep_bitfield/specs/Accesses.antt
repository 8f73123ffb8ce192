-- What reading and writing a bit-field does on a machine: C11 6.7.2.1p11 and 6.5.16.1; the order of evaluation and the
-- steps are this project's rules.
use Rattle.std.specs.Prelude.{◌≡◌, ℕ, ◌-◌, ◌*◌, ◌^◌, ℤ, pos}
use Rattle.ep_int.specs.declared.types.IntType.{IntType}
use Rattle.ep_int.specs.declared.types.IntType.TheVariants.{U32}
use Rattle.ep_int.specs.declared.types.Scalar.{Scalar}
use Rattle.ep_int.specs.declared.types.Scalar.TheVariants.{Int, Pointer}
use Rattle.ep_int.specs.declared.types.Order.{Order}
use Rattle.ep_int.specs.declared.types.Order.TheVariants.{Big}
use Rattle.ep_int.specs.declared.types.BinOp.TheVariants.{And, Or, Shl, Shr}
use Rattle.ep_int.specs.Types.{bits_of}
use Rattle.ep_int.specs.Memory.{int}
use Rattle.ep_core.specs.Program.{Place, Expr, const, load, binary, convert, Dest, assign, What, simple, by_order}
use Rattle.ep_core.specs.Program.{Stmts, stop, more, Program}
use Rattle.ep_core.specs.Exec.{State, Outcome, leaves, on, Going, Counting, step, given, with_int, listed, converted}
use Rattle.ep_core.specs.Exec.{value, address, put_to, exec}
use Rattle.ep_bitfield.specs.declared.field.Field.{Field}
use Rattle.ep_bitfield.specs.Bits.{number_in_field, unit_with}

-- ---- what is done

-- two steps, of which the first does nothing
abbrev pub two_steps : Counting → Going → Going
two_steps c go left s = step c left s (λ left. step c left s (λ left. go left s))

-- left at its end, by a way that is listed
abbrev pub done : (left : ℕ) → State → Outcome
done left s = leaves on left (listed 2 s)

module _ (o : Order) (p : Program) where
  -- the number of a unit, and what is done with it
  abbrev pub with_unit : (unit : Place) → Field → (line : ℕ) → State → (ℤ → Outcome) → Outcome
  with_unit unit f l s go = given (value o p (load (Int f.t) unit) s.memory) l s (λ u. with_int u l s go)

  -- the field's number goes to a place, converted
  abbrev pub gets : (line : ℕ) → (unit : Place) → Field → Dest → Going
  gets l unit f to left s =
      given (address o p to.place s.memory) l s
      (λ w. with_unit unit f l s
      (λ v. put_to o p to.what w (converted to.what (int (pos (number_in_field o f v)))) l s (done left)))

  -- a value goes into the field, and the unit is stored
  abbrev pub sets : (line : ℕ) → (unit : Place) → Field → (new : Expr) → Going
  sets l unit f new left s =
      given (address o p unit s.memory) l s
      (λ w. with_unit unit f l s
      (λ v. given (value o p new s.memory) l s
      (λ x. with_int x l s
      (λ x. put_to o p (Int f.t) w (int (pos (unit_with o f v x))) l s (done left)))))

-- A statement does so: on every machine of three orders, in every program, from every state, at every step count.
abbrev pub Does : (line : ℕ) → What → (Order → Program → Going) → Type 0
Does l what does =
    (o : Order) (p : Program) (c : Counting) (here : ℕ) (bodies : ℕ → Going) (n : ℕ) (s : State)
    → exec o p c here bodies what l n s ≡ two_steps c (does o p) n s

-- ---- the statements

-- so many bits, all of them 1
abbrev pub ones : ℕ → ℕ
ones n = 2 ^ n - 1

abbrev pub number : ℕ → Expr
number n = const U32 (pos n)

abbrev pub unit_number : (unit : Place) → IntType → Expr
unit_number unit t = convert U32 (load (Int t) unit)

-- a field that lies so many bits from the lowest
abbrev pub field_number : (unit : Place) → Field → (shift : ℕ) → Expr
field_number unit f s = binary And U32 (binary Shr U32 (unit_number unit f.t) (number s)) (number (ones f.width))

-- all bits of 32 but those of such a field
abbrev pub ones_beside : (width shift : ℕ) → ℕ
ones_beside w s = ones 32 - ones w * 2 ^ s

-- the unit without the field
abbrev pub others : (unit : Place) → Field → (shift : ℕ) → Expr
others unit f s = binary And U32 (unit_number unit f.t) (number (ones_beside f.width s))

abbrev pub new_number : (unit : Place) → Field → (new : Expr) → (shift : ℕ) → Expr
new_number unit f new s =
    binary Or U32 (others unit f s)
    (binary Shl U32 (binary And U32 (convert U32 new) (number (ones f.width))) (number s))

abbrev pub as_scalar : Scalar → Expr → Expr
as_scalar (Int t) e = convert t e
as_scalar Pointer e = e

-- one statement
abbrev pub assigned : (line : ℕ) → Scalar → Place → Expr → Stmts
assigned l what to e = more l (simple (assign what to (as_scalar what e))) stop

-- how far a field lies from the lowest bit where the bits are used from the highest on
abbrev pub from_highest : Field → ℕ
from_highest f = bits_of f.t - f.used - f.width

abbrev pub reading : (line : ℕ) → (unit : Place) → Field → Dest → What
reading l unit f to =
    by_order Big (assigned l to.what to.place (field_number unit f (from_highest f)))
    (assigned l to.what to.place (field_number unit f f.used))

abbrev pub writing : (line : ℕ) → (unit : Place) → Field → (new : Expr) → What
writing l unit f new =
    by_order Big (assigned l (Int f.t) unit (new_number unit f new (from_highest f)))
    (assigned l (Int f.t) unit (new_number unit f new f.used))
