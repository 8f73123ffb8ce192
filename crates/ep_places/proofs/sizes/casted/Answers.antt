use Rattle.std.proofs.Common.{◌≡◌, ◌∙◌, ◌&&◌, sym, subst, true, rules, arith}
use Rattle.ep_core.specs.Program.{Expr}
use Rattle.ep_typing.specs.Operand.{plain_value}
use Rattle.ep_typing.specs.Types.{is_scalar}
use Rattle.ep_operands.specs.Numbers.{IsSound}
use Rattle.ep_operands.specs.View.{value}
use Rattle.ep_operands.proofs.Sound.{cast_sound}
use Rattle.ep_places.proofs.sizes.casted.Goals as goal

pub plain-requires : goal.plain-requires
plain-requires c =
    let h : (is_scalar c.args.c && is_scalar c.args.v.ty) ≡ true = first_of (search rules, grind arith) in
    subst (λ (e : Expr). IsSound (plain_value e c.args.c)) (sym c.in_ok-expr.ensures)
    (cast_sound c.args.c (value c.args.v) h (sym c.is_mixed.ensures ∙ c.if-is_mixed.false) c.args.v.sound)
