use Rattle.std.proofs.Common.{true, false, not, [], drop, FitsSigned, rules, refl, sym, ap, ◌∙◌}
use Rattle.std.specs.Int.{w128}
use Rattle.std.proofs.lemmas.Int.{to_z-of_z}
use Rattle.std.proofs.lemmas.Result.{IfOk-weaker}
use Rattle.ep_core.specs.View.{expr_view, place_view}
use Rattle.ep_core.specs.WellFormed.{int_type_of}
use Rattle.ep_evaluation.specs.Given.{alone, on, are_sure, mode_where}
use Rattle.ep_evaluation.specs.Operators.{may_be}
use Rattle.ep_evaluation.specs.Evaluation.{place, constant_given, load_given, same_given, convert_given, not_given}
use Rattle.ep_evaluation.specs.Evaluation.{binary_given, compare_given, pointers_given, sum_given, member_given}
use Rattle.ep_evaluation.specs.Evaluation.{element_given}
use Rattle.ep_eval_sides.specs.Sides.{faultless}
use Rattle.ep_eval_forms.specs.After.{left_of}
use Rattle.ep_eval_forms.specs.Running.{side_of}
use Rattle.ep_eval_forms.proofs.Alone.{of_first, first_mode, left_is, not_tested, and_tested, or_tested, second_in}
use Rattle.ep_eval_forms.proofs.Alone.{second_nothing, second_changed, second_runs, second_unseen, compare_tested}
use Rattle.ep_eval_forms.proofs.Alone.{pointers_tested, value_tested, load_operand, convert_operand, first_alone}
use Rattle.ep_eval_forms.proofs.Alone.{first_both}
use Rattle.ep_eval_forms.proofs.Arms.{if_both, if_three, if_four, given_mode, none_given, one_plain, one_given}
use Rattle.ep_eval_forms.proofs.Arms.{two_plain, two_given, short_gives, chosen_gives, later_none, later_some}
use Rattle.ep_eval_forms.proofs.Arms.{later_nothing, later_left}
use Rattle.ep_eval_forms.proofs.Lefts.{first_like, second_like}
use Rattle.ep_eval_forms.proofs.Parts.{meant, given_part, place_part, tested_part, operand_part, first_part}
use Rattle.ep_eval_forms.proofs.Parts.{later_part, second_part, given_whole, place_whole, tested_whole, operand_whole}
use Rattle.ep_eval.proofs.Plain.{plain_left, cell_nowhere}
use Rattle.ep_eval.proofs.evaluate.+evaluate.Goals as goal

pub eval_strict-returns-in-Const : goal.eval_strict-returns-in-Const
eval_strict-returns-in-Const g t c =
    let fits : FitsSigned w128 c.in-Const.v = search rules in
    given_whole g.N.Num.ops c.args.sizes.now c.in-Const.is (none_given refl (c.constant.ensures ∙ ap (λ v.
    (constant_given g.N.Num.ops c.in-Const.t v c.args.mode).pair) (to_z-of_z w128 c.in-Const.v fits)))

pub eval_strict-returns-in-Null : goal.eval_strict-returns-in-Null
eval_strict-returns-in-Null g t c =
    given_whole g.N.Num.ops c.args.sizes.now c.in-Null.is (none_given refl c.null.ensures)

pub eval_strict-returns-in_ok-x-in-Load : goal.eval_strict-returns-in_ok-x-in-Load
eval_strict-returns-in_ok-x-in-Load g t c =
    if_both c.load.result _ _ (λ r v f. given_whole g.N.Num.ops c.args.sizes.now c.in-Load.is (one_given (load_given
    g.N.Num.ops c.args.sizes.now c.in-Load.what c.args.mode c.args.state.now) refl (λ u. refl) (λ u. refl)
    (place_part g.N.Num.ops c.args.sizes.now c.deref.ensures c.in_ok-x-in-Load.ensures) v f)) c.load.ensures.value
    c.load.ensures.faults

pub eval_strict-returns-in_ok-x-in-AddrOf : goal.eval_strict-returns-in_ok-x-in-AddrOf
eval_strict-returns-in_ok-x-in-AddrOf g t c =
    IfOk-weaker c.same_pointer.result _ _ (λ r v. given_whole g.N.Num.ops c.args.sizes.now c.in-AddrOf.is (one_plain
    (same_given g.N.Num.ops [] c.args.mode) refl (λ u. refl) (λ u. refl) (place_part g.N.Num.ops c.args.sizes.now
    c.deref-in-AddrOf.ensures c.in_ok-x-in-AddrOf.ensures) v)) c.same_pointer.ensures

pub eval_strict-returns-in_ok-x-in-Convert : goal.eval_strict-returns-in_ok-x-in-Convert
eval_strict-returns-in_ok-x-in-Convert g t c =
    given_whole g.N.Num.ops c.args.sizes.now c.in-Convert.is (one_plain (convert_given g.N.Num.ops (int_type_of
    (expr_view c.in-Convert.a.value)) c.in-Convert.t c.args.mode) refl (λ u. refl) (λ u. refl) (given_part
    g.N.Num.ops c.args.sizes.now c.deref-in-Convert.ensures c.in_ok-x-in-Convert.ensures) (c.converted.ensures ∙ ap
    (λ v. (convert_given g.N.Num.ops (int_type_of (expr_view v)) c.in-Convert.t c.args.mode (faultless
    c.in_ok-x-in-Convert.x)).pair) c.deref-in-Convert-2.ensures))

pub eval_strict-converted-requires-clause-first : goal.eval_strict-converted-requires-clause-first
eval_strict-converted-requires-clause-first g t c =
    (given_part g.N.Num.ops c.args.sizes.now (c.deref-in-Convert.ensures ∙ sym c.deref-in-Convert-2.ensures)
    c.in_ok-x-in-Convert.ensures).value

pub eval_strict-returns-in_ok-x-in-Not : goal.eval_strict-returns-in_ok-x-in-Not
eval_strict-returns-in_ok-x-in-Not g t c =
    given_whole g.N.Num.ops c.args.sizes.now c.in-Not.is (one_plain (not_given g.N.Num.ops c.args.mode) refl (λ u.
    refl) (λ u. refl) (given_part g.N.Num.ops c.args.sizes.now c.deref-in-Not.ensures c.in_ok-x-in-Not.ensures)
    c.negation.ensures)

pub eval_strict-returns-in_ok-x-in-Cast : goal.eval_strict-returns-in_ok-x-in-Cast
eval_strict-returns-in_ok-x-in-Cast g t c =
    IfOk-weaker c.same_pointer-in-Cast.result _ _ (λ r v. given_whole g.N.Num.ops c.args.sizes.now c.in-Cast.is
    (one_plain (same_given g.N.Num.ops [] c.args.mode) refl (λ u. refl) (λ u. refl) (given_part g.N.Num.ops
    c.args.sizes.now c.deref-in-Cast.ensures c.in_ok-x-in-Cast.ensures) v)) c.same_pointer-in-Cast.ensures

pub eval_two-computed-requires-clause-first : goal.eval_two-computed-requires-clause-first
eval_two-computed-requires-clause-first g t c =
    (given_part g.N.Num.ops c.args.sizes.now (c.deref.ensures ∙ sym c.deref-in-Bin-2.ensures)
    c.in_ok-x-in-Bin.ensures).value

pub eval_two-returns-in_ok-y-in-Bin : goal.eval_two-returns-in_ok-y-in-Bin
eval_two-returns-in_ok-y-in-Bin g t c =
    if_both c.computed.result _ _ (λ r v f. given_whole g.N.Num.ops c.args.sizes.now c.in-Bin.is (two_given
    (binary_given g.N.Num.ops c.in-Bin.op c.in-Bin.t c.args.mode) refl (λ u v. refl) (λ u v. refl) (given_part
    g.N.Num.ops c.args.sizes.now c.deref.ensures c.in_ok-x-in-Bin.ensures) (given_part g.N.Num.ops c.args.sizes.now
    c.deref-in-Bin.ensures c.in_ok-y-in-Bin.ensures) v f)) c.computed.ensures.value c.computed.ensures.faults

pub eval_two-returns-in_ok-y-in-Compare : goal.eval_two-returns-in_ok-y-in-Compare
eval_two-returns-in_ok-y-in-Compare g t c =
    given_whole g.N.Num.ops c.args.sizes.now c.in-Compare.is (two_plain (compare_given g.N.Num.ops c.in-Compare.c
    c.args.mode) refl (λ u v. refl) (λ u v. refl) (given_part g.N.Num.ops c.args.sizes.now c.deref-in-Compare.ensures
    c.in_ok-x-in-Compare.ensures) (given_part g.N.Num.ops c.args.sizes.now c.deref-in-Compare-2.ensures
    c.in_ok-y-in-Compare.ensures) c.comparison.ensures)

pub eval_two-returns-in_ok-y-in-PtrCompare : goal.eval_two-returns-in_ok-y-in-PtrCompare
eval_two-returns-in_ok-y-in-PtrCompare g t c =
    if_both c.pointer_comparison.result _ _ (λ r v f. given_whole g.N.Num.ops c.args.sizes.now c.in-PtrCompare.is
    (two_given (pointers_given g.N.Num.ops c.in-PtrCompare.c c.args.mode) refl (λ u v. refl) (λ u v. refl)
    (given_part g.N.Num.ops c.args.sizes.now c.deref-in-PtrCompare.ensures c.in_ok-x-in-PtrCompare.ensures)
    (given_part g.N.Num.ops c.args.sizes.now c.deref-in-PtrCompare-2.ensures c.in_ok-y-in-PtrCompare.ensures) v f))
    c.pointer_comparison.ensures.value c.pointer_comparison.ensures.faults

pub eval_two-returns-in_ok-y-in-PtrAdd : goal.eval_two-returns-in_ok-y-in-PtrAdd
eval_two-returns-in_ok-y-in-PtrAdd g t c =
    if_both c.sum.result _ _ (λ r v f. given_whole g.N.Num.ops c.args.sizes.now c.in-PtrAdd.is (two_given (sum_given
    g.N.Num.ops c.args.sizes.now c.in-PtrAdd.unit c.in-PtrAdd.back c.args.mode) refl (λ u v. refl) (λ u v. refl)
    (given_part g.N.Num.ops c.args.sizes.now c.deref-in-PtrAdd.ensures c.in_ok-x-in-PtrAdd.ensures) (given_part
    g.N.Num.ops c.args.sizes.now c.deref-in-PtrAdd-2.ensures c.in_ok-y-in-PtrAdd.ensures) v f)) c.sum.ensures.value
    c.sum.ensures.faults

pub address-returns-in-Block : goal.address-returns-in-Block
address-returns-in-Block g t c =
    IfOk-weaker c.block.result _ _ (λ r v. place_whole g.N.Num.ops c.args.sizes.now c.in-Block.is (none_given refl
    v)) c.block.ensures

pub address-returns-in_ok-x-in-Deref : goal.address-returns-in_ok-x-in-Deref
address-returns-in_ok-x-in-Deref g t c =
    IfOk-weaker c.same_pointer.result _ _ (λ r v. place_whole g.N.Num.ops c.args.sizes.now c.in-Deref.is (one_plain
    (same_given g.N.Num.ops [] c.args.mode) refl (λ u. refl) (λ u. refl) (given_part g.N.Num.ops c.args.sizes.now
    c.deref.ensures c.in_ok-x-in-Deref.ensures) v)) c.same_pointer.ensures

pub address-returns-in_ok-x-in-Member : goal.address-returns-in_ok-x-in-Member
address-returns-in_ok-x-in-Member g t c =
    if_both c.member.result _ _ (λ r v f. place_whole g.N.Num.ops c.args.sizes.now c.in-Member.is (one_given
    (member_given g.N.Num.ops c.args.sizes.now c.in-Member.offset c.args.mode) refl (λ u. refl) (λ u. refl)
    (place_part g.N.Num.ops c.args.sizes.now c.deref-in-Member.ensures c.in_ok-x-in-Member.ensures) v f))
    c.member.ensures.value c.member.ensures.faults

pub address-returns-in_ok-y-in-Element : goal.address-returns-in_ok-y-in-Element
address-returns-in_ok-y-in-Element g t c =
    if_both c.element.result _ _ (λ r v f. place_whole g.N.Num.ops c.args.sizes.now c.in-Element.is (two_given
    (element_given g.N.Num.ops [] c.in-Element.bound c.in-Element.unit c.args.mode) refl (λ u v. refl) (λ u v. refl)
    (place_part g.N.Num.ops c.args.sizes.now c.deref-in-Element.ensures c.in_ok-x-in-Element.ensures) (given_part
    g.N.Num.ops c.args.sizes.now c.deref-in-Element-2.ensures c.in_ok-y-in-Element.ensures) v f))
    c.element.ensures.value c.element.ensures.faults

pub eval-returns-in_ok-y-in-And : goal.eval-returns-in_ok-y-in-And
eval-returns-in_ok-y-in-And g t c =
    let i = first_part g.N.Num.ops c.args.sizes.now c.deref.ensures c.in_ok-x-in-And.ensures in
    given_whole g.N.Num.ops c.args.sizes.now c.in-And.is (short_gives g.N.Num.ops c.args.mode c.args.state.now (meant
    g.N.Num.ops c.args.sizes.now c.in-And.a.value) (meant g.N.Num.ops c.args.sizes.now c.in-And.b.value)
    c.in_ok-x-in-And.x.mode_true (left_of c.args.state.now c.in_ok-x-in-And.x.when_true) true refl (of_first i)
    (i.yes c.when_true.ensures) (later_part g.N.Num.ops c.args.sizes.now c.in_ok-x-in-And.x.mode_true (left_of
    c.args.state.now c.in_ok-x-in-And.x.when_true) c.deref-in-And.ensures c.in_ok-y-in-And.ensures) c.short.ensures)

pub eval-returns-in_ok-y-in-Or : goal.eval-returns-in_ok-y-in-Or
eval-returns-in_ok-y-in-Or g t c =
    let i = first_part g.N.Num.ops c.args.sizes.now c.deref-in-Or.ensures c.in_ok-x-in-Or.ensures in
    given_whole g.N.Num.ops c.args.sizes.now c.in-Or.is (short_gives g.N.Num.ops c.args.mode c.args.state.now (meant
    g.N.Num.ops c.args.sizes.now c.in-Or.a.value) (meant g.N.Num.ops c.args.sizes.now c.in-Or.b.value)
    c.in_ok-x-in-Or.x.mode_false (left_of c.args.state.now c.in_ok-x-in-Or.x.when_false) false refl (of_first i)
    (i.no c.when_false.ensures) (later_part g.N.Num.ops c.args.sizes.now c.in_ok-x-in-Or.x.mode_false (left_of
    c.args.state.now c.in_ok-x-in-Or.x.when_false) c.deref-in-Or-2.ensures c.in_ok-y-in-Or.ensures)
    c.short-in-Or.ensures)

pub eval-returns-in_ok-z-in-Cond : goal.eval-returns-in_ok-z-in-Cond
eval-returns-in_ok-z-in-Cond g t c =
    let i = first_part g.N.Num.ops c.args.sizes.now c.deref-in-Cond.ensures c.in_ok-x-in-Cond.ensures in
    IfOk-weaker c.chosen.result _ _ (λ r v. given_whole g.N.Num.ops c.args.sizes.now c.in-Cond.is (chosen_gives
    g.N.Num.ops c.args.mode c.args.state.now (meant g.N.Num.ops c.args.sizes.now c.in-Cond.c.value) (meant
    g.N.Num.ops c.args.sizes.now c.in-Cond.a.value) c.in_ok-x-in-Cond.x.mode_true (left_of c.args.state.now
    c.in_ok-x-in-Cond.x.when_true) (meant g.N.Num.ops c.args.sizes.now c.in-Cond.b.value)
    c.in_ok-x-in-Cond.x.mode_false (left_of c.args.state.now c.in_ok-x-in-Cond.x.when_false) refl (of_first i) (i.yes
    c.both.ensures.yes) (i.no c.both.ensures.no) (later_part g.N.Num.ops c.args.sizes.now
    c.in_ok-x-in-Cond.x.mode_true (left_of c.args.state.now c.in_ok-x-in-Cond.x.when_true) c.deref-in-Cond-2.ensures
    c.in_ok-y-in-Cond.ensures) (later_part g.N.Num.ops c.args.sizes.now c.in_ok-x-in-Cond.x.mode_false (left_of
    c.args.state.now c.in_ok-x-in-Cond.x.when_false) c.deref-in-Cond-3.ensures c.in_ok-z-in-Cond.ensures) v))
    c.chosen.ensures

pub first-returns-in-Both : goal.first-returns-in-Both
first-returns-in-Both g t c =
    IfOk-weaker c.first_of_both.result _ _ (λ r h. first_mode g.N.Num.ops c.in-Both.is h) c.first_of_both.ensures

pub first-returns-in-Left : goal.first-returns-in-Left
first-returns-in-Left g t c =
    IfOk-weaker c.first_alone.result _ _ (λ r h. first_mode g.N.Num.ops c.in-Left.is h) c.first_alone.ensures

pub first-returns-in-Right : goal.first-returns-in-Right
first-returns-in-Right g t c =
    IfOk-weaker c.first_alone-in-Right.result _ _ (λ r h. first_mode g.N.Num.ops c.in-Right.is h)
    c.first_alone-in-Right.ensures

pub first_alone-returns : goal.first_alone-returns
first_alone-returns g t c =
    first_alone g.N.Num.ops (side_of c.args.side) c.args.state.now (meant g.N.Num.ops c.args.sizes.now c.args.e.now)
    c.in_ok-x.ensures refl (c.mode_where-mode_true.ensures ∙ ap (λ m. mode_where m (λ s. may_be g.N.Num.ops (on
    c.in_ok-x.x.value s).value true)) c.mode.ensures) (c.mode_where-mode_false.ensures ∙ ap (λ m. mode_where m (λ s.
    may_be g.N.Num.ops (on c.in_ok-x.x.value s).value false)) c.mode-2.ensures) refl refl

pub first_of_both-returns : goal.first_of_both-returns
first_of_both-returns g t c =
    first_both g.N.Num.ops c.args.state.now (meant g.N.Num.ops c.args.sizes.now c.args.e.now)
    c.has_one_truth-stable.result c.in_ok-value.ensures refl c.has_one_truth-stable.ensures
    c.mode_where-mode_true.ensures c.mode_where-mode_false.ensures c.in_ok-when_true.ensures
    c.in_ok-when_false.ensures

pub assumed_on-returns : goal.assumed_on-returns
assumed_on-returns g t c =
    left_is c.args.truth c.in_ok-x.ensures (λ e. e) (λ e. ap not e) c.left_where.ensures.yes c.left_where.ensures.no

pub later-returns-in-None : goal.later-returns-in-None
later-returns-in-None g t c =
    later_none g.N.Num.ops (meant g.N.Num.ops c.args.sizes.now c.args.e.now) (left_of c.args.state.now c.args.after)
    c.in-None.is

pub later-returns-in-Some : goal.later-returns-in-Some
later-returns-in-Some g t c =
    IfOk-weaker c.later_in.result _ _ (λ r h. later_some g.N.Num.ops (meant g.N.Num.ops c.args.sizes.now
    c.args.e.now) (left_of c.args.state.now c.args.after) c.in-Some.mode c.in-Some.is h) c.later_in.ensures

pub later_in-returns-in-Nothing : goal.later_in-returns-in-Nothing
later_in-returns-in-Nothing g t c =
    later_nothing g.N.Num.ops (meant g.N.Num.ops c.args.sizes.now c.args.e.now) c.args.mode (ap (left_of
    c.args.state.now) c.in-Nothing.is)

pub later_in-returns-in_ok-y-in-Unchanged : goal.later_in-returns-in_ok-y-in-Unchanged
later_in-returns-in_ok-y-in-Unchanged g t c =
    later_left g.N.Num.ops (meant g.N.Num.ops c.args.sizes.now c.args.e.now) c.args.mode (ap (left_of
    c.args.state.now) c.in-Unchanged.is) c.in_ok-y-in-Unchanged.ensures

pub later_in-returns-in_ok-y-in-Changed : goal.later_in-returns-in_ok-y-in-Changed
later_in-returns-in_ok-y-in-Changed g t c =
    later_left g.N.Num.ops (meant g.N.Num.ops c.args.sizes.now c.args.e.now) c.args.mode (ap (left_of
    c.args.state.now) c.in-Changed.is) c.in_ok-y-in-Changed.ensures

pub test-returns-in_ok-y-in-And : goal.test-returns-in_ok-y-in-And
test-returns-in_ok-y-in-And g t c =
    if_three c.conjunction.result _ _ _ _ (λ r v p q. tested_whole g.N.Num.ops c.args.sizes.now c.in-And.is
    (and_tested g.N.Num.ops (side_of c.args.side) c.args.state.now (meant g.N.Num.ops c.args.sizes.now
    c.in-And.a.value) (meant g.N.Num.ops c.args.sizes.now c.in-And.b.value) c.may_be-runs.result (tested_part
    g.N.Num.ops c.args.sizes.now c.deref.ensures c.in_ok-x-in-And.ensures) c.with_true.ensures.yes (λ e.
    c.with_true.ensures.no ∙ e) (c.may_be-runs.ensures ∙ ap (λ z. may_be g.N.Num.ops z.value true) c.of.ensures)
    (second_part g.N.Num.ops c.args.sizes.now c.deref-in-And.ensures c.in_ok-y-in-And.ensures) v p q))
    c.conjunction.ensures.value c.conjunction.ensures.yes c.conjunction.ensures.no

pub test-returns-in_ok-y-in-Or : goal.test-returns-in_ok-y-in-Or
test-returns-in_ok-y-in-Or g t c =
    if_three c.disjunction.result _ _ _ _ (λ r v p q. tested_whole g.N.Num.ops c.args.sizes.now c.in-Or.is (or_tested
    g.N.Num.ops (side_of c.args.side) c.args.state.now (meant g.N.Num.ops c.args.sizes.now c.in-Or.a.value) (meant
    g.N.Num.ops c.args.sizes.now c.in-Or.b.value) c.may_be-runs-in-Or.result (tested_part g.N.Num.ops
    c.args.sizes.now c.deref-in-Or.ensures c.in_ok-x-in-Or.ensures) c.with_false.ensures.no (λ e.
    c.with_false.ensures.yes ∙ e) (c.may_be-runs-in-Or.ensures ∙ ap (λ z. may_be g.N.Num.ops z.value false)
    c.of-in-Or.ensures) (second_part g.N.Num.ops c.args.sizes.now c.deref-in-Or-2.ensures c.in_ok-y-in-Or.ensures) v
    q p)) c.disjunction.ensures.value c.disjunction.ensures.yes c.disjunction.ensures.no

pub test-conjunction-requires-clause-first : goal.test-conjunction-requires-clause-first
test-conjunction-requires-clause-first g t c =
    λ w. first_like g.N.Num.ops c.args.sizes.now (expr_view c.in-And.a.value) (expr_view c.in-And.b.value) (side_of
    c.args.side) c.args.state.now false _ ((tested_part g.N.Num.ops c.args.sizes.now c.deref.ensures
    c.in_ok-x-in-And.ensures).no (c.with_true.ensures.no ∙ w))

pub test-conjunction-requires-clause-second : goal.test-conjunction-requires-clause-second
test-conjunction-requires-clause-second g t c =
    second_like g.N.Num.ops c.args.sizes.now (expr_view c.in-And.a.value) (expr_view c.in-And.b.value) (side_of
    c.args.side) c.args.state.now true false c.args.wants.no (left_of c.args.state.now c.in_ok-x-in-And.x.when_true)
    (left_of c.args.state.now c.in_ok-y-in-And.y.when_false) ((tested_part g.N.Num.ops c.args.sizes.now
    c.deref.ensures c.in_ok-x-in-And.ensures).yes c.with_true.ensures.yes) (second_part g.N.Num.ops c.args.sizes.now
    c.deref-in-And.ensures c.in_ok-y-in-And.ensures).no

pub test-disjunction-requires-clause-first : goal.test-disjunction-requires-clause-first
test-disjunction-requires-clause-first g t c =
    λ w. first_like g.N.Num.ops c.args.sizes.now (expr_view c.in-Or.a.value) (expr_view c.in-Or.b.value) (side_of
    c.args.side) c.args.state.now true _ ((tested_part g.N.Num.ops c.args.sizes.now c.deref-in-Or.ensures
    c.in_ok-x-in-Or.ensures).yes (c.with_false.ensures.yes ∙ w))

pub test-disjunction-requires-clause-second : goal.test-disjunction-requires-clause-second
test-disjunction-requires-clause-second g t c =
    second_like g.N.Num.ops c.args.sizes.now (expr_view c.in-Or.a.value) (expr_view c.in-Or.b.value) (side_of
    c.args.side) c.args.state.now false true c.args.wants.yes (left_of c.args.state.now c.in_ok-x-in-Or.x.when_false)
    (left_of c.args.state.now c.in_ok-y-in-Or.y.when_true) ((tested_part g.N.Num.ops c.args.sizes.now
    c.deref-in-Or.ensures c.in_ok-x-in-Or.ensures).no c.with_false.ensures.no) (second_part g.N.Num.ops
    c.args.sizes.now c.deref-in-Or-2.ensures c.in_ok-y-in-Or.ensures).yes

pub test-returns-in_ok-x-in-Not : goal.test-returns-in_ok-x-in-Not
test-returns-in_ok-x-in-Not g t c =
    tested_whole g.N.Num.ops c.args.sizes.now c.in-Not.is (not_tested g.N.Num.ops (side_of c.args.side)
    c.args.state.now (meant g.N.Num.ops c.args.sizes.now c.in-Not.a.value) (tested_part g.N.Num.ops c.args.sizes.now
    c.deref-in-Not.ensures c.in_ok-x-in-Not.ensures) (λ e. c.turned.ensures.yes ∙ e) (λ e. c.turned.ensures.no ∙ e)
    c.opposite.ensures.value c.opposite.ensures.yes c.opposite.ensures.no)

pub test_single-returns-in_ok-y-in-Compare : goal.test_single-returns-in_ok-y-in-Compare
test_single-returns-in_ok-y-in-Compare g t c =
    if_three c.compared.result _ _ _ _ (λ r v p q. tested_whole g.N.Num.ops c.args.sizes.now c.in-Compare.is
    (compare_tested g.N.Num.ops (side_of c.args.side) c.args.state.now (meant g.N.Num.ops c.args.sizes.now
    c.in-Compare.a.value) (meant g.N.Num.ops c.args.sizes.now c.in-Compare.b.value) c.are_sure-sure.result
    c.len-from.result c.in-Compare.c (operand_part g.N.Num.ops c.args.sizes.now c.deref.ensures
    c.in_ok-x-in-Compare.ensures) (operand_part g.N.Num.ops c.args.sizes.now c.deref-in-Compare.ensures
    c.in_ok-y-in-Compare.ensures) (c.len-from.ensures ∙ c.args.faults.now.ok.0) (c.are_sure-sure.ensures ∙ ap (λ fs.
    are_sure (drop c.len-from.result fs)) c.deref-in-Compare-2.ensures.value) v p q)) c.compared.ensures.value
    c.compared.ensures.yes c.compared.ensures.no

pub test_single-returns-in_ok-y-in-PtrCompare : goal.test_single-returns-in_ok-y-in-PtrCompare
test_single-returns-in_ok-y-in-PtrCompare g t c =
    if_four c.pointers_compared.result _ _ _ _ (λ r v f p q. tested_whole g.N.Num.ops c.args.sizes.now
    c.in-PtrCompare.is (pointers_tested g.N.Num.ops (side_of c.args.side) c.args.state.now (meant g.N.Num.ops
    c.args.sizes.now c.in-PtrCompare.a.value) (meant g.N.Num.ops c.args.sizes.now c.in-PtrCompare.b.value)
    c.are_sure-sure-in-PtrCompare.result c.len-from-in-PtrCompare.result c.in-PtrCompare.c (operand_part g.N.Num.ops
    c.args.sizes.now c.deref-in-PtrCompare.ensures c.in_ok-x-in-PtrCompare.ensures) (operand_part g.N.Num.ops
    c.args.sizes.now c.deref-in-PtrCompare-2.ensures c.in_ok-y-in-PtrCompare.ensures)
    (c.len-from-in-PtrCompare.ensures ∙ c.args.faults.now.ok.0) (c.are_sure-sure-in-PtrCompare.ensures ∙ ap (λ fs.
    are_sure (drop c.len-from-in-PtrCompare.result fs)) c.deref-in-PtrCompare-3.ensures.value) v f p q))
    c.pointers_compared.ensures.value c.pointers_compared.ensures.faults c.pointers_compared.ensures.yes
    c.pointers_compared.ensures.no

pub test_single-compared-requires : goal.test_single-compared-requires
test_single-compared-requires g t c =
    c.in_ok-x-in-Compare.ensures.sort

pub test_single-pointers_compared-requires : goal.test_single-pointers_compared-requires
test_single-pointers_compared-requires g t c =
    c.in_ok-x-in-PtrCompare.ensures.sort

pub test_single-returns-in_default : goal.test_single-returns-in_default
test_single-returns-in_default g t c =
    IfOk-weaker c.test_value.result _ _ (λ r h. record {
      value = h.value;
      faults = h.faults;
      yes = λ w. h.yes w ∙
          plain_left g.N.Num.ops c.args.sizes.now (side_of c.args.side) c.args.state.now true c.args.e.now
          c.requires.single c.in_default.not-Compare c.in_default.not-PtrCompare;
      no = λ w. h.no w ∙ plain_left g.N.Num.ops
          c.args.sizes.now (side_of c.args.side) c.args.state.now false c.args.e.now c.requires.single
          c.in_default.not-Compare c.in_default.not-PtrCompare;
    }) c.test_value.ensures

pub test_value-returns : goal.test_value-returns
test_value-returns g t c =
    if_three c.value_tested.result _ _ _ _ (λ r v p q. value_tested g.N.Num.ops (side_of c.args.side)
    c.args.state.now (meant g.N.Num.ops c.args.sizes.now c.args.e.now) c.are_sure-sure.result c.len-from.result
    c.in_ok-x.ensures (c.len-from.ensures ∙ c.args.faults.now.ok.0) (c.are_sure-sure.ensures ∙ ap (λ fs. are_sure
    (drop c.len-from.result fs)) c.deref.ensures.value) v p q) c.value_tested.ensures.value
    c.value_tested.ensures.yes c.value_tested.ensures.no

pub test_value-value_tested-requires : goal.test_value-value_tested-requires
test_value-value_tested-requires g t c =
    c.in_ok-x.ensures.sort

pub second-returns-in-Nothing : goal.second-returns-in-Nothing
second-returns-in-Nothing g t c =
    second_nothing g.N.Num.ops (side_of c.args.side) c.args.state.now (meant g.N.Num.ops c.args.sizes.now
    c.args.e.now) c.args.runs (ap (left_of c.args.state.now) c.in-Nothing.is) refl refl refl

pub second-returns-in-Unchanged : goal.second-returns-in-Unchanged
second-returns-in-Unchanged g t c =
    IfOk-weaker c.second_in.result _ _ (λ r h. second_in g.N.Num.ops (side_of c.args.side) c.args.state.now (meant
    g.N.Num.ops c.args.sizes.now c.args.e.now) c.args.runs (ap (left_of c.args.state.now) c.in-Unchanged.is) h)
    c.second_in.ensures

pub second-returns-in_ok-x-in-Changed : goal.second-returns-in_ok-x-in-Changed
second-returns-in_ok-x-in-Changed g t c =
    if_three c.second_behind.result _ _ _ _ (λ r v y n. second_changed g.N.Num.ops (side_of c.args.side)
    c.args.state.now (meant g.N.Num.ops c.args.sizes.now c.args.e.now) c.args.runs (ap (left_of c.args.state.now)
    c.in-Changed.is) c.in_ok-x-in-Changed.ensures v (y c.args.state.now) (n c.args.state.now))
    c.second_behind.ensures.value c.second_behind.ensures.yes c.second_behind.ensures.no

pub second_in-returns-then-runs : goal.second_in-returns-then-runs
second_in-returns-then-runs g t c =
    second_runs g.N.Num.ops (side_of c.args.side) c.args.state.now (meant g.N.Num.ops c.args.sizes.now c.args.e.now)
    c.args.runs c.if-runs.true c.in_ok-x.ensures refl refl refl

pub second_in-returns : goal.second_in-returns
second_in-returns g t c =
    second_unseen g.N.Num.ops (side_of c.args.side) c.args.state.now (meant g.N.Num.ops c.args.sizes.now
    c.args.e.now) c.args.runs c.if-runs.false c.in_ok-x-2.ensures refl refl refl

pub operand-returns-in_ok-x-in-Load : goal.operand-returns-in_ok-x-in-Load
operand-returns-in_ok-x-in-Load g t c =
    if_four c.loaded.result _ _ _ _ (λ r v f l o. operand_whole g.N.Num.ops c.args.sizes.now c.in-Load.is
    (load_operand g.N.Num.ops (side_of c.args.side) c.args.state.now c.args.sizes.now (place g.N.Num.ops
    c.args.sizes.now (place_view c.in-Load.a.value)) c.in-Load.what c.are_sure-sure.result c.len-from.result
    (given_mode c.mode.ensures (place_part g.N.Num.ops c.args.sizes.now c.deref.ensures c.in_ok-x-in-Load.ensures))
    (c.len-from.ensures ∙ c.args.faults.now.ok.0) (c.are_sure-sure.ensures ∙ ap (λ fs. are_sure (drop
    c.len-from.result fs)) c.deref-in-Load.ensures.value) v f l o)) c.loaded.ensures.value c.loaded.ensures.faults
    c.loaded.ensures.cell c.loaded.ensures.sort

pub operand-returns-in_ok-x-in-Convert : goal.operand-returns-in_ok-x-in-Convert
operand-returns-in_ok-x-in-Convert g t c =
    operand_whole g.N.Num.ops c.args.sizes.now c.in-Convert.is (convert_operand g.N.Num.ops (side_of c.args.side)
    c.args.state.now (meant g.N.Num.ops c.args.sizes.now c.in-Convert.a.value) (int_type_of (expr_view
    c.in-Convert.a.value)) c.in-Convert.t (operand_part g.N.Num.ops c.args.sizes.now c.deref-in-Convert.ensures
    c.in_ok-x-in-Convert.ensures) (c.converted_operand.ensures.value ∙ ap (λ v. (convert_given g.N.Num.ops
    (int_type_of (expr_view v)) c.in-Convert.t (alone (side_of c.args.side)) (faultless
    c.in_ok-x-in-Convert.x.value)).pair) c.deref-in-Convert-2.ensures) c.converted_operand.ensures.cell
    c.converted_operand.ensures.sort)

pub operand-converted_operand-requires-clause-first : goal.operand-converted_operand-requires-clause-first
operand-converted_operand-requires-clause-first g t c =
    (operand_part g.N.Num.ops c.args.sizes.now (c.deref-in-Convert.ensures ∙ sym c.deref-in-Convert-2.ensures)
    c.in_ok-x-in-Convert.ensures).value

pub operand-converted_operand-requires-clause-sort : goal.operand-converted_operand-requires-clause-sort
operand-converted_operand-requires-clause-sort g t c =
    c.in_ok-x-in-Convert.ensures.sort

pub operand-returns-in_default : goal.operand-returns-in_default
operand-returns-in_default g t c =
    IfOk-weaker c.without_cell.result _ _ (λ r h. record {
      value = h.value;
      faults = h.faults;
      cell = h.cell ∙
          cell_nowhere g.N.Num.ops c.args.sizes.now (side_of c.args.side) c.args.state.now c.args.e.now
          c.in_default.not-Load c.in_default.not-Convert;
      sort = h.sort;
    }) c.without_cell.ensures

pub without_cell-returns : goal.without_cell-returns
without_cell-returns g t c =
    let i = given_mode c.mode.ensures c.in_ok-value.ensures in
    record { value = i.value; faults = i.faults; cell = refl; sort = tt }
