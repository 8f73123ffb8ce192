-- What the code keeps of operands, seen as what the definitions speak of.
use Rattle.std.specs.Prelude.{ℕ, List}
use Rattle.ep_core.specs.View.{expr_view, place_view}
use Rattle.ep_typing.specs.declared.types.CType.{CType}
use Rattle.ep_typing.specs.Operand as rule
use Rattle.ep_operands.specs.declared.value.Value.{Value}
use Rattle.ep_operands.specs.declared.operand.Callee.{Callee}
use Rattle.ep_operands.specs.declared.operand.Callee.TheVariants as callees
use Rattle.ep_operands.specs.declared.operand.Operand.{Operand}
use Rattle.ep_operands.specs.declared.operand.Operand.TheVariants as operands

abbrev pub value : Value → rule.Value
value v = record { expr = expr_view v.expr; ty = v.ty; is_null = v.is_null }

abbrev pub callee : Callee → rule.Callee
callee (callees.Declared n) = rule.declared n
callee (callees.Input t) = rule.input t
callee (callees.Output t) = rule.output t
callee callees.CopyBytes = rule.copy_bytes
callee callees.FillBytes = rule.fill_bytes
callee callees.ReadBytes = rule.read_bytes
callee callees.WriteBytes = rule.write_bytes

abbrev pub operand : Operand → rule.Operand
operand (operands.Place p c) = rule.place (place_view p) c
operand (operands.Value v) = rule.value (value v)
operand (operands.Function f) = rule.function (callee f)

-- an entry of the table of functions that are there without a declaration
abbrev pub named : List ℕ → Callee → List ℕ × rule.Operand
named text f = (text, rule.function (callee f))
