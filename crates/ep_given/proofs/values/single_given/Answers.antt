use Rattle.std.proofs.Common.{ap, None, Some}
use Rattle.std.specs.Option.{option_map}
use Rattle.ep_ast.specs.Expression as source
use Rattle.ep_declared.specs.View as objects
use Rattle.ep_scopes.specs.View.{env}
use Rattle.ep_given.specs.View as view
use Rattle.ep_given.proofs.ListLemmas.{mentions_grow, on_always, single_means, single_stops}
use Rattle.ep_given.proofs.values.single_given.Goals as goal

pub returns-in-Some-clause-means : goal.returns-in-Some-clause-means
returns-in-Some-clause-means c =
    single_means (env c.args.env.now) c.args.global c.args.may_call c.args.line (option_map objects.object c.args.x)
    (view.given c.args.given.now) (env c.mention.new.env) (Some (objects.object c.in-Some.object)) (source.expr c.args.tree.now)
    (view.given c.expression_given.new.given) c.expression_given.result c.in_ok-mention.ensures.means
    (ap (option_map objects.object) c.in-Some.is) c.expression_given.ensures

pub returns-in-Some-clause-grown : goal.returns-in-Some-clause-grown
returns-in-Some-clause-grown c =
    on_always c.expression_given.result
    (mentions_grow (env c.args.env.now) (env c.mention.new.env) (source.expr c.args.tree.now) c.in_ok-mention.ensures.means)

pub returns-in-None-clause-means : goal.returns-in-None-clause-means
returns-in-None-clause-means c =
    single_stops (env c.args.env.now) c.args.global c.args.may_call c.args.line (option_map objects.object c.args.x)
    (view.given c.args.given.now) (env c.mention.new.env) None (source.expr c.args.tree.now) c.expression_refused.result
    c.in_ok-mention.ensures.means (ap (option_map objects.object) c.in-None.is)
    (c.expression_refused.ensures c.args.global c.args.may_call)
