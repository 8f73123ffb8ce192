use Rattle.std.proofs.Common.{◌≡◌, ◌∙◌, ap, sym, subst, true}
use Rattle.ep_core.specs.View.{expr_view}
use Rattle.ep_core.specs.declared.tree.Expr.{Expr}
use Rattle.ep_typing.specs.declared.types.CType.{CType}
use Rattle.ep_typing.specs.Types.{is_pointer}
use Rattle.ep_operands.specs.Numbers.{IsSomeNumber}
use Rattle.ep_operands.specs.View.{value}
use Rattle.ep_operands.proofs.Sound.{cond_number, is_pointer_as}
use Rattle.ep_comparisons.proofs.choices.pointers_chosen.Goals as goal

pub unknown-requires : goal.unknown-requires
unknown-requires c = λ t.
    let p : is_pointer c.chosen_type-c.result ≡ true = subst (λ (d : CType). is_pointer d ≡ true) (sym c.chosen_type-c.ensures) c.requires.pointer in
    cond_number (expr_view c.in_ok-test.test.value) (expr_view c.in_ok-yes-2.yes.value) (expr_view c.in_ok-no-2.no.value) t (subst (λ (e : Expr). IsSomeNumber (expr_view e)) (sym c.in_ok-test.ensures.ok) c.requires.test)
    (is_pointer_as _ c.chosen_type-c.result (value c.args.a) t (ap expr_view c.in_ok-yes-2.ensures.ok ∙ c.in_ok-yes.ensures) c.args.a.sound p)
    (is_pointer_as _ c.chosen_type-c.result (value c.args.b) t (ap expr_view c.in_ok-no-2.ensures.ok ∙ c.in_ok-no.ensures) c.args.b.sound p)
