use Rattle.std.proofs.Common.{◌≡◌, ◌∙◌, ap, sym, subst, true}
use Rattle.ep_core.specs.View.{expr_view}
use Rattle.ep_operands.specs.View.{value}
use Rattle.ep_operands.proofs.Sound.{compare_number, is_converted, left_number, right_number}
use Rattle.ep_comparisons.proofs.comparisons.compared.Goals as goal

pub int-requires : goal.int-requires
int-requires c =
    let a = value c.args.a in
    let b = value c.args.b in
    compare_number c.args.how c.common_type-t.result (expr_view c.in_ok-left-2.left.value) (expr_view c.in_ok-right-2.right.value)
    (is_converted _ _ a (ap expr_view c.in_ok-left-2.ensures.ok ∙ c.in_ok-left.ensures) c.args.a.sound (left_number a b c.requires))
    (is_converted _ _ b (ap expr_view c.in_ok-right-2.ensures.ok ∙ c.in_ok-right.ensures) c.args.b.sound (right_number a b c.requires))
