use Rattle.std.proofs.Common.{◌∙◌, ap, Ok}
use Rattle.ep_operands.specs.declared.operand.Operand.{Operand}
use Rattle.ep_operands.specs.View.{callee, operand, value}
use Rattle.ep_stores.proofs.StoreLemmas.{no_function, value_stops}
use Rattle.ep_stores.proofs.stores.assigned.Goals as goal

pub returns-in_ok-v-in-Value : goal.returns-in_ok-v-in-Value
returns-in_ok-v-in-Value c =
    value_stops c.args.types.now (operand c.args.x) (operand c.args.y) (value c.in-Value.u) (value c.in_ok-v-in-Value.v) c.args.line c.not_stored.result
    (c.in_ok-to.ensures ∙ ap (λ (z : Operand). Ok (operand z)) c.in-Value.is) c.in_ok-v-in-Value.ensures c.not_stored.ensures.store

pub returns-in-Function : goal.returns-in-Function
returns-in-Function c =
    absurd (no_function (operand c.args.x) (callee c.in-Function.field-0) c.args.line
    (c.in_ok-to.ensures ∙ ap (λ (z : Operand). Ok (operand z)) c.in-Function.is))
