use Rattle.std.proofs.Common.{ap, sym, ◌∙◌}
use Rattle.std.specs.Option.{option_map}
use Rattle.ep_ast.specs.Expression as source
use Rattle.ep_declared.specs.View as objects
use Rattle.ep_scopes.specs.View.{env}
use Rattle.ep_given.specs.View as view
use Rattle.ep_given.proofs.FirstLemmas.{begins_as_field, begins_as_value}
use Rattle.ep_given.proofs.ListLemmas.{mentions_grow, on_always}
use Rattle.ep_typer_exprs.specs.View.{field_place}
use Rattle.ep_given.proofs.first.single_begun.Goals as goal

pub returns-in-Some-clause-means : goal.returns-in-Some-clause-means
returns-in-Some-clause-means c =
    begins_as_field view.given (env c.args.env.now) c.args.global c.args.may_call c.args.line (objects.object c.args.x.now)
    (source.expr c.args.tree.now) (env c.mention.new.env) (field_place c.in-Some.field) c.field_begun.result
    c.in_ok-mention.ensures.means (sym (ap (option_map field_place) c.in-Some.is) ∙ c.in_ok-found.ensures.is) c.field_begun.ensures

pub returns-in-Some-clause-grown : goal.returns-in-Some-clause-grown
returns-in-Some-clause-grown c =
    on_always c.field_begun.result
    (mentions_grow (env c.args.env.now) (env c.mention.new.env) (source.expr c.args.tree.now) c.in_ok-mention.ensures.means)

pub returns-in-None-clause-means : goal.returns-in-None-clause-means
returns-in-None-clause-means c =
    begins_as_value view.given (env c.args.env.now) c.args.global c.args.may_call c.args.line (objects.object c.args.x.now)
    (source.expr c.args.tree.now) (env c.mention.new.env) c.value_begun.result c.in_ok-mention.ensures.means
    (sym (ap (option_map field_place) c.in-None.is) ∙ c.in_ok-found.ensures.is) c.value_begun.ensures

pub returns-in-None-clause-grown : goal.returns-in-None-clause-grown
returns-in-None-clause-grown c =
    on_always c.value_begun.result
    (mentions_grow (env c.args.env.now) (env c.mention.new.env) (source.expr c.args.tree.now) c.in_ok-mention.ensures.means)
