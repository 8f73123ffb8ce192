use Rattle.std.proofs.Common.{◌≡◌, ◌∙◌, ap, sym, subst, true}
use Rattle.ep_core.specs.View.{expr_view}
use Rattle.ep_core.specs.declared.tree.Expr.{Expr}
use Rattle.ep_operands.specs.Numbers.{IsSomeNumber}
use Rattle.ep_operands.specs.View.{value}
use Rattle.ep_operands.proofs.Sound.{cond_number, is_converted, left_number, right_number}
use Rattle.ep_comparisons.proofs.choices.numbers_chosen.Goals as goal

pub int-requires : goal.int-requires
int-requires c =
    let a = value c.args.a in
    let b = value c.args.b in
    cond_number (expr_view c.in_ok-test.test.value) (expr_view c.in_ok-yes-2.yes.value) (expr_view c.in_ok-no-2.no.value) c.common_type-t.result (subst (λ (e : Expr). IsSomeNumber (expr_view e)) (sym c.in_ok-test.ensures.ok) c.requires.test)
    (is_converted _ _ a (ap expr_view c.in_ok-yes-2.ensures.ok ∙ c.in_ok-yes.ensures) c.args.a.sound (left_number a b c.requires.numbers))
    (is_converted _ _ b (ap expr_view c.in_ok-no-2.ensures.ok ∙ c.in_ok-no.ensures) c.args.b.sound (right_number a b c.requires.numbers))
