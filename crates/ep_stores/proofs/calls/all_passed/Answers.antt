use Rattle.std.proofs.Common.{◌≡◌, ℕ, ◌+◌, ◌∙◌, [], length, map, List, Option, Ok, Result, ap, sym}
use Rattle.std.proofs.lemmas.List.{append-nil, nil_from_length}
use Rattle.std.specs.Option.{option_map}
use Rattle.std.specs.Vec.Iter.{into_iter_items}
use Rattle.ep_ast.specs.Kind.{number_of}
use Rattle.ep_ast.specs.declared.kinds.RefusalKind.{RefusalKind}
use Rattle.std.proofs.Math.Nat.{min-le_right}
use Rattle.ep_ast.specs.declared.refusals.Halt.TheVariants as halts
use Rattle.ep_core.specs.Program.{Expr}
use Rattle.ep_core.specs.View.{expr_view}
use Rattle.ep_typing.specs.Calls as rule
use Rattle.ep_typing.specs.Results.{at}
use Rattle.ep_stores.specs.declared.calls.Parameter.TheVariants.{AnyPointer}
use Rattle.ep_stores.specs.Passing.{after, lower}
use Rattle.ep_stores.specs.View as view
use Rattle.ep_stores.proofs.PassingLemmas.{enough, passed_on, stops_at, too_few}
use Rattle.ep_stores.proofs.calls.all_passed.Goals as goal

pub loop-value-preserved : goal.loop-value-preserved
loop-value-preserved c =
    let all = rule.all_passed (map view.parameter c.args.parameters.now) (map view.value c.args.values.items) in
    let next = passed_on (option_map number_of c.loop-value.kind) (map expr_view c.loop-value.arguments.items) c.loop-value.place c.args.parameters.now c.in-Some.value
    (into_iter_items c.loop-value.value-iterator) (into_iter_items c.next.new.self) all c.in-Some.ensures.steps.0 c.loop-value.invariant.means
    (option_map number_of c.in_ok-kind.kind) (map expr_view c.pass.new.arguments.items) c.parameter_at-parameter.result (sym c.parameter_at-parameter.ensures) c.in_ok-kind.ensures in
    record {
      within = rw c.place_after-place.ensures (min-le_right (c.loop-value.place + 1) (length c.args.parameters.now));
      means = rw c.place_after-place.ensures next;
    }

pub returns-then-place-parameters : goal.returns-then-place-parameters
returns-then-place-parameters c =
    let all = rule.all_passed (map view.parameter c.args.parameters.now) (map view.value c.args.values.items) in
    let none : into_iter_items c.loop-value.value-iterator ≡ [] = nil_from_length (into_iter_items c.loop-value.value-iterator) (sym c.loop-value.value-iterator.rest.ok.0 ∙ c.in-None.ensures.steps.0) in
    stops_at all c.args.line (lower (option_map number_of c.loop-value.kind) 39) c.refused.result
    (too_few (option_map number_of c.loop-value.kind) (map expr_view c.loop-value.arguments.items) c.loop-value.place c.args.parameters.now
    (into_iter_items c.loop-value.value-iterator) all none c.loop-value.invariant.means AnyPointer c.if-place-parameters.true)
    (c.refused.ensures
    ∙ ap (λ (k : ℕ). halts.Refused (record { kind = k; line = c.args.line; word = 0 })) c.lower.ensures)

pub returns-in-Some-kind : goal.returns-in-Some-kind
returns-in-Some-kind c =
    let all = rule.all_passed (map view.parameter c.args.parameters.now) (map view.value c.args.values.items) in
    let done = map expr_view c.loop-value.arguments.items in
    let none : into_iter_items c.loop-value.value-iterator ≡ [] = nil_from_length (into_iter_items c.loop-value.value-iterator) (sym c.loop-value.value-iterator.rest.ok.0 ∙ c.in-None.ensures.steps.0) in
    stops_at all c.args.line (number_of c.in-Some-kind.k) c.refused-in-Some-kind.result
    (sym (enough (option_map number_of c.loop-value.kind) done c.loop-value.place c.args.parameters.now (into_iter_items c.loop-value.value-iterator) all none
    c.loop-value.invariant.means c.if-place-parameters.false) ∙ ap (λ (o : Option RefusalKind). after (option_map number_of o) done (Ok [])) c.in-Some-kind.is)
    c.refused-in-Some-kind.ensures

pub returns-in-None-kind : goal.returns-in-None-kind
returns-in-None-kind c =
    let all = rule.all_passed (map view.parameter c.args.parameters.now) (map view.value c.args.values.items) in
    let done = map expr_view c.loop-value.arguments.items in
    let none : into_iter_items c.loop-value.value-iterator ≡ [] = nil_from_length (into_iter_items c.loop-value.value-iterator) (sym c.loop-value.value-iterator.rest.ok.0 ∙ c.in-None.ensures.steps.0) in
    ap (λ (r : Result (List Expr) ℕ). at c.args.line r)
    (sym (enough (option_map number_of c.loop-value.kind) done c.loop-value.place c.args.parameters.now (into_iter_items c.loop-value.value-iterator) all none
    c.loop-value.invariant.means c.if-place-parameters.false) ∙ ap (λ (o : Option RefusalKind). after (option_map number_of o) done (Ok [])) c.in-None-kind.is
    ∙ ap (λ (es : List Expr). Ok es) (append-nil done))
