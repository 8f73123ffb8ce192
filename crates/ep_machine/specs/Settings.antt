-- A program on a machine of a byte order: what its expressions come to.
use Rattle.std.specs.Prelude.{◌≡◌, ℕ, ℤ, length}
use Rattle.ep_int.specs.declared.types.Scalar.{Scalar}
use Rattle.ep_int.specs.Memory.{Memory, Value, Found, has, loaded}
use Rattle.ep_bytes.specs.StoreView.{StoreView, count_of, size_in}
use Rattle.ep_core.specs.Program.{Expr, Place, Program}
use Rattle.ep_core.specs.Exec.{model, size_at, value, address, moved}
use Rattle.ep_core.specs.Typed.{OperandsFit, PlaceOperandsFit}
use Rattle.ep_core.specs.ProgramView.{program_view}
use Rattle.ep_machine.specs.declared.setting.Setting.{Setting}

abbrev pub program_in : Setting → Program
program_in on = program_view on.program.now

module _ (on : Setting) where
  abbrev pub size_on : (block : ℕ) → ℕ
  size_on b = size_at on.order (program_in on) b

  abbrev pub loaded_on : Memory → Scalar → (block here : ℕ) → Found
  loaded_on m what b q = loaded on.order (model on.order (program_in on)) (size_on b) m what b q

  abbrev pub value_on : Expr → Memory → Found
  value_on e m = value on.order (program_in on) e m

  abbrev pub address_on : Place → Memory → Found
  address_on a m = address on.order (program_in on) a m

  -- the address of a value, so many bytes further on or back
  abbrev pub moved_on : Value → ℤ → Found
  moved_on v by = moved on.order (program_in on) (has v) by

  -- Each operand in an expression, and in a place, is of the kind that is taken where it stands.
  abbrev pub ExprFits : Memory → Expr → Type 0
  ExprFits m e = OperandsFit on.order (program_in on) m e

  abbrev pub PlaceFits : Memory → Place → Type 0
  PlaceFits m a = PlaceOperandsFit on.order (program_in on) m a

  -- A store has the blocks of the program, in its data model.
  pub record IsLaid (h : StoreView) : Type 0 where
    pub model : h.model ≡ model on.order (program_in on)
    pub count : count_of h ≡ length (program_in on).blocks
    pub sizes : (b : ℕ) → size_in h b ≡ size_on b
