use Rattle.std.proofs.Common.{◌∙◌, ap, sym, subst}
use Rattle.ep_core.specs.View.{expr_view}
use Rattle.ep_int.specs.declared.types.IntType.{IntType}
use Rattle.ep_typing.specs.Operand.{promoted_type}
use Rattle.ep_operands.specs.Numbers.{IsNumber}
use Rattle.ep_operands.specs.View.{value}
use Rattle.ep_operands.proofs.Sound.{is_converted, left_number, right_number, shift_number}
use Rattle.ep_operators.proofs.numbers.shift.Goals as goal

pub int-requires : goal.int-requires
int-requires c =
    let a = value c.args.a in
    let b = value c.args.b in
    shift_number c.args.op c.promoted_type-t.result (promoted_type b) (expr_view c.in_ok-left-2.left.value) (expr_view c.in_ok-right-2.right.value) c.requires.shifts
    (subst (λ (t : IntType). IsNumber (expr_view c.in_ok-left-2.left.value) t) (sym c.promoted_type-t.ensures)
    (is_converted _ (promoted_type a) a (ap expr_view c.in_ok-left-2.ensures.ok ∙ c.in_ok-left.ensures) c.args.a.sound (left_number a b c.requires.integers)))
    (is_converted _ (promoted_type b) b (ap expr_view c.in_ok-right-2.ensures.ok ∙ c.in_ok-right.ensures) c.args.b.sound (right_number a b c.requires.integers))
