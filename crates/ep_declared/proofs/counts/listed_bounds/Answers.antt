use Rattle.std.proofs.Common.{◌∙◌, ◌++◌, ◌∷◌, [], List, ℕ, ap, map}
use Rattle.std.proofs.lemmas.Result.{err_from_is_err_and}
use Rattle.std.specs.Option.{option_map}
use Rattle.ep_ast.specs.Expression.{expr}
use Rattle.ep_scopes.specs.View.{env}
use Rattle.ep_declared.proofs.CountLemmas.{listed_gives, listed_stops, some_listed}
use Rattle.ep_declared.proofs.counts.listed_bounds.Goals as goal

pub behind_first-requires : goal.behind_first-requires
behind_first-requires c = some_listed c.args.list.now c.requires.lacking

pub returns-in_err-first-clause-means : goal.returns-in_err-first-clause-means
returns-in_err-first-clause-means c =
    let p = err_from_is_err_and c.from_residual.result c.from_residual.ensures.1 in
    rw (p.1, p.2) (listed_stops (env c.args.env.now) c.args.line c.args.n (map (option_map expr) c.args.list.now) _
    c.requires.lacking c.in_err-first.ensures)

pub returns-clause-means : goal.returns-clause-means
returns-clause-means c =
    listed_gives (env c.args.env.now) c.args.line c.args.n c.in_ok-first.first c.args.list.now
    c.behind_first.result.now _ (env c.bounds_behind.new.env)
    c.bounds_behind.result c.requires.lacking c.in_ok-first.ensures
    (c.in_ok-push.ensures.items ∙ ap (λ (ns : List ℕ). ns ++ c.in_ok-first.first ∷ []) c.new-counts.ensures.items)
    c.behind_first.ensures c.bounds_behind.ensures.means
