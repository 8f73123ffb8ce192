use Rattle.std.proofs.Common.{◌∙◌, sym, subst}
use Rattle.ep_core.specs.View.{expr_view}
use Rattle.ep_int.specs.declared.types.IntType.{IntType}
use Rattle.ep_typing.specs.Operand.{promoted_type}
use Rattle.ep_operands.specs.Numbers.{IsNumber}
use Rattle.ep_operands.specs.View.{value}
use Rattle.ep_operands.proofs.Sound.{is_converted, not_pointer}
use Rattle.ep_places.proofs.unary.kept.Goals as goal

pub int-requires : goal.int-requires
int-requires c =
    let a = value c.args.a in
    subst (λ (t : IntType). IsNumber (expr_view c.in_ok-expr.expr) t) (sym c.promoted_type-t.ensures)
    (is_converted _ (promoted_type a) a c.in_ok-expr.ensures c.args.a.sound (not_pointer c.args.a.ty (sym c.is_integer.ensures ∙ c.if-is_integer.true)))
