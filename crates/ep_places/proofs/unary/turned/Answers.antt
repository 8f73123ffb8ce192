use Rattle.std.proofs.Common.{sym, subst}
use Rattle.ep_core.specs.View.{expr_view}
use Rattle.ep_int.specs.declared.types.IntType.{IntType}
use Rattle.ep_typing.specs.Operand.{promoted_type}
use Rattle.ep_operands.specs.Numbers.{IsNumber}
use Rattle.ep_operands.specs.View.{value}
use Rattle.ep_operands.proofs.Sound.{along, turned_number}
use Rattle.ep_places.proofs.unary.turned.Goals as goal

pub int-requires : goal.int-requires
int-requires c =
    let a = value c.args.a in
    subst (λ (t : IntType). IsNumber (expr_view c.in_ok-expr.expr) t) (sym c.promoted_type-t.ensures)
    (along _ _ (promoted_type a) c.in_ok-expr.ensures (turned_number a c.args.a.sound c.requires))
