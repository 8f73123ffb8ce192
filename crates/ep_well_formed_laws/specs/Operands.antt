-- What operands compute is of the sort that their types say.
use Rattle.std.specs.Prelude.{◌≡◌, ℕ, true, List, [], ◌∷◌, slice_get, Some}
use Rattle.ep_layout.specs.Table.{Table}
use Rattle.ep_core.specs.Program as core
use Rattle.ep_core.specs.WellFormed.{has_sort, integer, place_has, pointer_to}
use Rattle.ep_typing.specs.declared.types.CType.{CType}
use Rattle.ep_typing.specs.Types.{int_of, is_integer, is_pointer, target}
use Rattle.ep_typing.specs.Operand.{Callee, Operand, Value, copy_bytes, declared, fill_bytes, function, input, output}
use Rattle.ep_typing.specs.Operand.{place, read_bytes, value, write_bytes}
use Rattle.ep_typing.specs.Env.{Signature}
use Rattle.ep_well_formed_laws.specs.Numbers.{IsMade, may_be, type_number}

-- among these types and blocks, where these blocks can be named
module _ (t : Table) (bs : List core.Block) (seen : List ℕ) where
  -- an object of a type
  pub record PlaceFits (p : core.Place) (c : CType) : Type 0 where
    pub made : IsMade t c
    pub has : (ty : ℕ) → may_be (type_number t c) ty ≡ true → place_has t bs seen p ty ≡ true

  -- A number of a type, or a pointer to one. An aggregate, for which its address stands, is used by its place alone.
  pub record Computes (e : core.Expr) (c : CType) : Type 0 where
    pub number : is_integer c ≡ true → has_sort t bs seen e (integer (int_of c)) ≡ true
    pub made : is_pointer c ≡ true → IsMade t (target c)
    pub points : is_pointer c ≡ true → (ty : ℕ) → may_be (type_number t (target c)) ty ≡ true
        → has_sort t bs seen e (pointer_to ty) ≡ true

  abbrev pub ValueFits : Value → Type 0
  ValueFits v = Computes v.expr v.ty

  abbrev pub ValuesFit : List Value → Type 0
  ValuesFit [] = Unit {0}
  ValuesFit (v ∷ vs) = ValueFits v × ValuesFit vs

-- what is called was declared, or is built in
abbrev pub IsCallee : List Signature → Callee → Type 0
IsCallee fs (declared n) = (s : Signature) × (slice_get fs n ≡ Some s)
IsCallee fs (input t) = Unit {0}
IsCallee fs (output t) = Unit {0}
IsCallee fs copy_bytes = Unit {0}
IsCallee fs fill_bytes = Unit {0}
IsCallee fs read_bytes = Unit {0}
IsCallee fs write_bytes = Unit {0}

abbrev pub OperandFits : Table → List core.Block → List Signature → (seen : List ℕ) → Operand → Type 0
OperandFits t bs fs seen (place p c) = PlaceFits t bs seen p c
OperandFits t bs fs seen (value v) = ValueFits t bs seen v
OperandFits t bs fs seen (function f) = IsCallee fs f
