use Rattle.std.proofs.Common.{ℕ, false, map, sym, ap, ◌∙◌}
use Rattle.ep_layout.proofs.Basics.{grows-trans}
use Rattle.std.proofs.lemmas.Result.{err_from_is_err_and}
use Rattle.std.specs.Option.{option_map}
use Rattle.ep_ast.specs.Declaration as source
use Rattle.ep_declared.specs.View as objects
use Rattle.ep_elaboration.specs.Given.{both_given, value_given}
use Rattle.ep_scopes.specs.View.{env}
use Rattle.ep_given.specs.Appended.{all_behind}
use Rattle.ep_given.specs.View as view
use Rattle.ep_given.proofs.ListLemmas.{list_is, list_stops, listed_tree, same_gives_in, stopped_on, went}
use Rattle.ep_given.proofs.values.+given.Goals as goal

pub add_value-returns-in_ok-whole-in-List-clause-means : goal.add_value-returns-in_ok-whole-in-List-clause-means
add_value-returns-in_ok-whole-in-List-clause-means t c =
    same_gives_in _ _ _ _ c.add_values.result
    (list_is (env c.args.env.now) c.args.global c.args.may_call c.args.line (option_map objects.object c.args.x) (view.given c.args.given.now)
    (source.value_of c.args.value.now) c.in-List.field-0 (source.to_values (map source.value_of c.deref-list.result.now))
    (objects.object c.in_ok-whole-in-List.whole)
    (listed_tree c.in-List.field-0 c.args.value.now c.in-List.values c.deref-list.result.now c.in-List.is c.deref-list.ensures.value)
    c.in_ok-whole-in-List.ensures)
    c.add_values.ensures.means

pub add_values-loop-number-preserved : goal.add_values-loop-number-preserved
add_values-loop-number-preserved t c =
    let G = env c.loop-number.env in
    let v = c.index-values-number.result in
    let done = view.given c.loop-number.given in
    let o = option_map objects.object c.in_ok-part.part in
    record {
      known = c.in_ok-add_value.ensures.known;
      grown = grows-trans (env c.args.env.now).types G.types (env c.add_value.new.env).types c.loop-number.invariant.grown
          c.in_ok-add_value.ensures.grown;
      means = went G c.args.global (objects.object c.args.whole.now) c.loop-number.number c.args.values.now v o done _ c.loop-number-test.true
          c.index-values-number.is c.in_ok-part.ensures c.loop-number.invariant.means (view.given c.add_value.new.given)
          (env c.add_value.new.env)
          (ap (λ (n : ℕ). all_behind both_given done (value_given G c.args.global false n o (source.value_of v))) (sym c.line_of_value.ensures)
          ∙ c.in_ok-add_value.ensures.means);
    }

pub add_values-returns-in_err-add_value-clause-means : goal.add_values-returns-in_err-add_value-clause-means
add_values-returns-in_err-add_value-clause-means t c =
    let p = err_from_is_err_and c.from_residual-in_err-add_value.result c.from_residual-in_err-add_value.ensures.1 in
    rw (p.1, p.2) (stopped_on (env c.loop-number.env) c.args.global (objects.object c.args.whole.now) c.loop-number.number
    c.args.values.now c.index-values-number.result (option_map objects.object c.in_ok-part.part) (view.given c.loop-number.given) _
    c.loop-number-test.true c.index-values-number.is c.in_ok-part.ensures c.loop-number.invariant.means _ _
    c.line_of_value.ensures c.in_err-add_value.ensures.means)

pub add_value-returns-in_err-whole-in-List-clause-means : goal.add_value-returns-in_err-whole-in-List-clause-means
add_value-returns-in_err-whole-in-List-clause-means t c =
    let p = err_from_is_err_and c.from_residual.result c.from_residual.ensures.1 in
    rw (p.1, p.2) (list_stops (env c.args.env.now) c.args.global c.args.may_call c.args.line (option_map objects.object c.args.x)
    (view.given c.args.given.now) (source.value_of c.args.value.now) c.in-List.field-0
    (source.to_values (map source.value_of c.deref-list.result.now)) _
    (listed_tree c.in-List.field-0 c.args.value.now c.in-List.values c.deref-list.result.now c.in-List.is c.deref-list.ensures.value)
    c.in_err-whole-in-List.ensures)
