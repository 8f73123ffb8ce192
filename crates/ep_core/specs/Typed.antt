-- What it means that values, memories and machines are as the types of a program say.
use Rattle.std.specs.Prelude.{◌≡◌, ℕ, ◌<◌, ◌≤◌, ℤ, pos, Bool, true, List, [], ◌∷◌, length, slice_get, Option, Some}
use Rattle.std.specs.Prelude.{None}
use Rattle.std.specs.List.{AllByRecursion}
use Rattle.ep_int.specs.declared.types.IntType.{IntType}
use Rattle.ep_int.specs.declared.types.IntType.TheVariants.{U8, I32}
use Rattle.ep_int.specs.declared.types.Order.{Order}
use Rattle.ep_int.specs.declared.types.Scalar.{Scalar}
use Rattle.ep_int.specs.declared.types.Scalar.TheVariants.{Int, Pointer}
use Rattle.ep_int.specs.Arith.{IsOfSomeType, IsRightOperand}
use Rattle.ep_int.specs.Types.{InRange, wrapped}
use Rattle.ep_int.specs.Memory.{Byte, undefined, number, fragment, Memory, Value, int, null, pointer, Found, has}
use Rattle.ep_int.specs.Memory.{faults, loaded}
use Rattle.ep_core.specs.Program.{Place, block, deref, member, element, Expr, const, null_value, load, addr_of, binary}
use Rattle.ep_core.specs.Program.{convert, compare, ptr_compare, logical_and, logical_or, logical_not, conditional}
use Rattle.ep_core.specs.Program.{ptr_add, cast, Dest, Simple, nothing, eval, assign, clear, copy_aggregate, copy_bytes}
use Rattle.ep_core.specs.Program.{fill, input, output, read_bytes, write_bytes, returns, What, simple, call, if_else}
use Rattle.ep_core.specs.Program.{loop, break_loop, continue_loop, by_order, scope, Stmts, stop, more, Function}
use Rattle.ep_core.specs.Program.{Program}
use Rattle.ep_core.specs.Exec.{Output, State, Outcome, leaves, running, no_input, undefined_at, Going, Counting}
use Rattle.ep_core.specs.Exec.{greatest_offset, converted, result_in, callee_of, model, size_at, value, address}
use Rattle.ep_core.specs.Exec.{exec_all, bodies}
use Rattle.ep_core.specs.Runs.{main_function, main_from, run_by}
use Rattle.ep_core.specs.WellFormed.{Sort, integer, pointer_to, has_sort, place_has, result_type, stmts_fit, blocks_fit}
use Rattle.ep_core.specs.WellFormed.{is_well_formed}

-- ---- values

-- a number of which this holds
abbrev pub IsNumber : (ℤ → Type 0) → Value → Type 0
IsNumber P (int v) = P v
IsNumber P null = ⊥
IsNumber P (pointer b q) = ⊥

-- the scalar that something of a sort is
abbrev pub scalar_of : Sort → Scalar
scalar_of (integer t) = Int t
scalar_of (pointer_to ty) = Pointer

-- what holds of a value, if there is one
abbrev pub IfHas : Found → (Value → Type 0) → Type 0
IfHas (has v) P = P v
IfHas (faults k) P = Unit {0}

abbrev pub OutputFits : Output → Type 0
OutputFits x = InRange x.t x.value

abbrev pub OutputsFit : List Output → Type 0
OutputsFit = AllByRecursion OutputFits

module _ (p : Program) where
  -- a block of the program, and an offset that pointers may have
  abbrev pub IsTarget : (block offset : ℕ) → Type 0
  IsTarget b q = (b < length p.blocks) × (q ≤ greatest_offset)

  -- null, or a pointer to a block of the program
  abbrev pub IsAddress : Value → Type 0
  IsAddress (int v) = ⊥
  IsAddress null = Unit {0}
  IsAddress (pointer b q) = IsTarget b q

  -- a value of a scalar: a number in the range of its type, or an address
  abbrev pub ValueFits : Scalar → Value → Type 0
  ValueFits (Int t) = IsNumber (InRange t)
  ValueFits Pointer = IsAddress

  -- ---- memories and machines

  -- a number below 256, or a part of a pointer to a block of the program
  abbrev pub ByteFits : Byte → Type 0
  ByteFits undefined = Unit {0}
  ByteFits (number v) = v < 256
  ByteFits (fragment b o k) = IsTarget b o

  abbrev pub MemoryFits : Memory → Type 0
  MemoryFits m = (b q : ℕ) → ByteFits (m b q)

  -- a machine whose memory fits, and that has put out numbers in the ranges of their types
  pub record StateFits (s : State) : Type 0 where
    pub memory : MemoryFits s.memory
    pub outputs : OutputsFit s.outputs

  abbrev pub OutcomeFits : Outcome → Type 0
  OutcomeFits (leaves w left s) = StateFits s
  OutcomeFits (running s) = StateFits s
  OutcomeFits (no_input s) = StateFits s
  OutcomeFits (undefined_at l k s) = StateFits s

  -- from machines that fit to machines that fit
  abbrev pub Keeps : Going → Type 0
  Keeps go = (left : ℕ) (s : State) → StateFits s → OutcomeFits (go left s)

-- ---- operands: each is of the kind that is taken where it stands, so none meets a case that no typed program has

module _ (o : Order) (p : Program) (m : Memory) where
  -- what holds of the value of an expression, if it has one
  abbrev pub IfValue : Expr → (Value → Type 0) → Type 0
  IfValue e P = IfHas (value o p e m) P

  -- where a place is, if it is anywhere
  abbrev pub IsAt : Place → Type 0
  IsAt a = IfHas (address o p a m) (IsAddress p)

  abbrev mutual
    -- in an expression
    pub OperandsFit : Expr → Type 0
    OperandsFit (const t v) = Unit {0}
    OperandsFit null_value = Unit {0}
    OperandsFit (load what a) = PlaceOperandsFit a × IsAt a
    OperandsFit (addr_of a) = PlaceOperandsFit a
    OperandsFit (binary op t a b) =
        OperandsFit a × OperandsFit b × IfValue a (ValueFits p (Int t)) × IfValue b (IsNumber (IsRightOperand op t))
    OperandsFit (convert t e) = OperandsFit e × IfValue e (IsNumber IsOfSomeType)
    OperandsFit (compare c t a b) =
        OperandsFit a × OperandsFit b × IfValue a (ValueFits p (Int t)) × IfValue b (ValueFits p (Int t))
    OperandsFit (ptr_compare c a b) = OperandsFit a × OperandsFit b × IfValue a (IsAddress p) × IfValue b (IsAddress p)
    OperandsFit (logical_and a b) = OperandsFit a × OperandsFit b
    OperandsFit (logical_or a b) = OperandsFit a × OperandsFit b
    OperandsFit (logical_not e) = OperandsFit e
    OperandsFit (conditional e a b) = OperandsFit e × OperandsFit a × OperandsFit b
    OperandsFit (ptr_add e unit n backwards) =
        OperandsFit e × OperandsFit n × IfValue e (IsAddress p) × IfValue n (IsNumber IsOfSomeType)
    OperandsFit (cast e) = OperandsFit e × IfValue e (IsAddress p)

    -- in a place
    pub PlaceOperandsFit : Place → Type 0
    PlaceOperandsFit (block b) = Unit {0}
    PlaceOperandsFit (deref e) = OperandsFit e × IfValue e (IsAddress p)
    PlaceOperandsFit (member a offset) = PlaceOperandsFit a × IsAt a
    PlaceOperandsFit (element a bound unit i) =
        PlaceOperandsFit a × OperandsFit i × IsAt a × IfValue i (IsNumber IsOfSomeType)

  -- an expression whose operands fit, and of whose value this holds
  abbrev pub ValueSatisfies : Expr → (Value → Type 0) → Type 0
  ValueSatisfies e P = OperandsFit e × IfValue e P

  -- a place whose operands fit, and which is an address
  abbrev pub Lies : Place → Type 0
  Lies a = PlaceOperandsFit a × IsAt a

  -- an input, as a number of this type, goes to its place
  abbrev pub InputFits : IntType → Option Dest → Type 0
  InputFits t None = Unit {0}
  InputFits t (Some d) = Lies d.place × ((v : ℕ) → ValueFits p d.what (converted d.what (int (wrapped t (pos v)))))

  -- what is returned is of the function's result
  abbrev pub ReturnFits : (result : Option (ℕ × Scalar)) → Option Expr → Type 0
  ReturnFits None None = Unit {0}
  ReturnFits None (Some e) = ⊥
  ReturnFits (Some r) None = ⊥
  ReturnFits (Some r) (Some e) = ValueSatisfies e (ValueFits p r.1)

  -- in a statement without statements in it, in a function with this result
  abbrev pub SimpleOperandsFit : (result : Option (ℕ × Scalar)) → Simple → Type 0
  SimpleOperandsFit r nothing = Unit {0}
  SimpleOperandsFit r (eval e) = OperandsFit e
  SimpleOperandsFit r (assign what a e) = Lies a × ValueSatisfies e (ValueFits p what)
  SimpleOperandsFit r (clear a ty) = Lies a
  SimpleOperandsFit r (copy_aggregate a b ty) = Lies a × Lies b
  SimpleOperandsFit r (copy_bytes a b n) = ValueSatisfies a (IsAddress p) × ValueSatisfies b (IsAddress p)
  SimpleOperandsFit r (fill a e n) = ValueSatisfies a (IsAddress p) × ValueSatisfies e (ValueFits p (Int U8))
  SimpleOperandsFit r (input t d) = InputFits t d
  SimpleOperandsFit r (output t e) = ValueSatisfies e (ValueFits p (Int t))
  SimpleOperandsFit r (read_bytes e n) = ValueSatisfies e (IsAddress p)
  SimpleOperandsFit r (write_bytes e n) = ValueSatisfies e (IsAddress p)
  SimpleOperandsFit r (returns e) = ReturnFits r e

  -- for each parameter an argument, which is of it
  abbrev pub ArgumentsFit : List (ℕ × Scalar) → List Expr → Type 0
  ArgumentsFit [] [] = Unit {0}
  ArgumentsFit [] (e ∷ es) = ⊥
  ArgumentsFit (b ∷ params) [] = ⊥
  ArgumentsFit (b ∷ params) (e ∷ es) = ValueSatisfies e (ValueFits p b.1) × ArgumentsFit params es

  -- the value in the block of a result
  abbrev pub result_value : ℕ × Scalar → Found
  result_value r = loaded o (model o p) (size_at o p r.0) m r.1 r.0 0

  -- what a function gives goes to its place
  abbrev pub ReceivedFits : (result : Option (ℕ × Scalar)) → Option Dest → Type 0
  ReceivedFits r None = Unit {0}
  ReceivedFits None (Some d) = ⊥
  ReceivedFits (Some r) (Some d) =
      Lies d.place × IfHas (result_value r) (λ v. ValueFits p r.1 v × ValueFits p d.what (converted d.what v))

  -- in a call of this function
  abbrev pub CallOperandsFit : Option Function → List Expr → Option Dest → Type 0
  CallOperandsFit None es d = ⊥
  CallOperandsFit (Some f) es d = ArgumentsFit f.params es × ReceivedFits f.result d

  -- in the function of number `here`, which has this result
  module _ (here : ℕ) (result : Option (ℕ × Scalar)) where
    abbrev mutual
      pub WhatOperandsFit : What → Type 0
      WhatOperandsFit (simple w) = SimpleOperandsFit result w
      WhatOperandsFit (call k es d) = CallOperandsFit (callee_of p here k) es d
      WhatOperandsFit (if_else e a b) = OperandsFit e × AllOperandsFit a × AllOperandsFit b
      WhatOperandsFit (loop first e a b) = OperandsFit e × AllOperandsFit a × AllOperandsFit b
      WhatOperandsFit break_loop = Unit {0}
      WhatOperandsFit continue_loop = Unit {0}
      WhatOperandsFit (by_order named a b) = AllOperandsFit a × AllOperandsFit b
      WhatOperandsFit (scope bs a) = AllOperandsFit a

      -- in statements
      pub AllOperandsFit : Stmts → Type 0
      AllOperandsFit stop = Unit {0}
      AllOperandsFit (more l w rest) = WhatOperandsFit w × AllOperandsFit rest

-- main has a result, which is a number in the range of int
abbrev pub MainResultFits : Order → Program → Memory → Option (ℕ × Scalar) → Type 0
MainResultFits o p m None = ⊥
MainResultFits o p m (Some r) = IfHas (result_value o p m r) (ValueFits p (Int I32))

-- ---- laws

-- Among blocks of the sizes that programs have, and in a memory that fits, each value that an expression of a sort has
-- fits it, and the operands in it fit.
abbrev pub ValuesFit : Type 0
ValuesFit =
    (o : Order) (p : Program) → blocks_fit p.types p.blocks ≡ true → (seen : List ℕ) (m : Memory) → MemoryFits p m
    → (e : Expr) (x : Sort) → has_sort p.types p.blocks seen e x ≡ true →
    ValueSatisfies o p m e (ValueFits p (scalar_of x))

-- So a place of a type is an address, and the operands in it fit.
abbrev pub PlacesLie : Type 0
PlacesLie =
    (o : Order) (p : Program) → blocks_fit p.types p.blocks ≡ true → (seen : List ℕ) (m : Memory) → MemoryFits p m
    → (a : Place) (ty : ℕ) → place_has p.types p.blocks seen a ty ≡ true → Lies o p m a

-- In a memory that fits, each operand in the statements of a well-formed program fits.
abbrev pub StatementsFit : Type 0
StatementsFit =
    (p : Program) → is_well_formed p ≡ true → (o : Order) (m : Memory) → MemoryFits p m
    → (here : ℕ) (f : Function) → slice_get p.functions here ≡ Some f → AllOperandsFit o p m here f.result f.body

-- From a machine that fits, the functions of a well-formed program come to machines that fit, at their ends as in
-- their midst.
abbrev pub BodiesKeep : Type 0
BodiesKeep =
    (p : Program) → is_well_formed p ≡ true → (o : Order) (c : Counting) (n k : ℕ) → Keeps p (bodies o p c n k)

-- So do the statements of a function, where it calls those before it.
abbrev pub StatementsKeep : Type 0
StatementsKeep =
    (p : Program) → is_well_formed p ≡ true → (o : Order) (c : Counting) (here : ℕ) (f : Function)
    → slice_get p.functions here ≡ Some f → (ss : Stmts) (seen : List ℕ) (in_loop : Bool)
    → stmts_fit p here (result_type p.blocks f.result) ss seen in_loop ≡ true
    → Keeps p (exec_all o p c here (bodies o p c here) ss)

-- So does each run, by steps or by turns, whatever its inputs are, and it puts out numbers in the ranges of their
-- types.
abbrev pub RunsFit : Type 0
RunsFit =
    (p : Program) → is_well_formed p ≡ true → (o : Order) (c : Counting) (inputs : List ℕ) (n : ℕ)
    → OutcomeFits p (main_from o p c inputs n) × OutputsFit (run_by c p o inputs n).outputs

-- In a memory that fits the result of main of a well-formed program is a number in the range of int, if it has a value.
abbrev pub MainsFit : Type 0
MainsFit =
    (p : Program) → is_well_formed p ≡ true → (o : Order) (m : Memory) → MemoryFits p m
    → MainResultFits o p m (result_in (main_function o p))
