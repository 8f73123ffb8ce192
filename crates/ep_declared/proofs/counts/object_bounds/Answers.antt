use Rattle.std.proofs.Common.{◌∙◌, map, sym}
use Rattle.std.specs.Option.{option_map}
use Rattle.ep_ast.specs.Expression.{expr}
use Rattle.ep_scopes.specs.View.{env}
use Rattle.ep_declared.proofs.CountLemmas.{listed_not_lacking, none_before, unlisted}
use Rattle.ep_declared.proofs.counts.object_bounds.Goals as goal

pub returns-in-None-clause-means : goal.returns-in-None-clause-means
returns-in-None-clause-means c =
    unlisted (env c.args.env.now) c.args.line c.args.listed (map (option_map expr) c.args.list.now) (env
    c.bounds_behind.new.env)
    c.bounds_behind.result c.in-None.is
    (none_before c.new.result.items _ (env c.bounds_behind.new.env) c.bounds_behind.result c.new.ensures.items
    c.bounds_behind.ensures.means)

pub returns-else-lacks_first-clause-means : goal.returns-else-lacks_first-clause-means
returns-else-lacks_first-clause-means c =
    listed_not_lacking (env c.args.env.now) c.args.line c.in-Some.n c.args.listed (map (option_map expr)
    c.args.list.now)
    (env c.bounds_behind-in-Some.new.env) c.bounds_behind-in-Some.result c.in-Some.is (sym c.lacks_first.ensures
    ∙ c.if-lacks_first.false)
    (none_before c.new-in-Some.result.items _ (env c.bounds_behind-in-Some.new.env) c.bounds_behind-in-Some.result
    c.new-in-Some.ensures.items
    c.bounds_behind-in-Some.ensures.means)
