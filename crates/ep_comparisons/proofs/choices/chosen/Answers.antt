use Rattle.std.proofs.Common.{◌≡◌, ◌∙◌, ◌&&◌, sym, true, rules, arith}
use Rattle.ep_typing.specs.Types.{is_scalar}
use Rattle.ep_operands.specs.View.{value}
use Rattle.ep_operands.proofs.Sound.{chosen_is_pointer, some_number}
use Rattle.ep_comparisons.proofs.choices.chosen.Goals as goal

pub numbers_chosen-requires-clause-test : goal.numbers_chosen-requires-clause-test
numbers_chosen-requires-clause-test c = some_number (value c.args.test) c.args.test.sound

pub pointers_chosen-requires-clause-test : goal.pointers_chosen-requires-clause-test
pointers_chosen-requires-clause-test c = some_number (value c.args.test) c.args.test.sound

pub pointers_chosen-requires-clause-pointer : goal.pointers_chosen-requires-clause-pointer
pointers_chosen-requires-clause-pointer c =
    let h : (is_scalar c.args.a.ty && is_scalar c.args.b.ty) ≡ true = first_of (search rules, grind arith) in
    chosen_is_pointer (value c.args.a) (value c.args.b) h (sym c.are_integers.ensures ∙ c.if-are_integers.false)
    (sym c.are_mixed.ensures ∙ c.if-are_mixed.false)
