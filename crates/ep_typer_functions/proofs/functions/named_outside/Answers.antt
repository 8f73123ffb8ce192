use Rattle.std.proofs.Common.{◌∙◌, ◌++◌, ap, List}
use Rattle.std.proofs.lemmas.Result.{err_from_is_err_and}
use Rattle.ep_ast.specs.Declaration.{head_of}
use Rattle.ep_typing.specs.Env as rule
use Rattle.ep_elaboration.specs.Functions.{results}
use Rattle.ep_scopes.specs.View.{env, scope, scopes}
use Rattle.ep_typer_functions.specs.View.{headed, signature}
use Rattle.ep_typer_functions.proofs.Outside.{all_done, outside_known, outside_stops, same_outer}
use Rattle.ep_typer_functions.proofs.functions.named_outside.Goals as goal

pub returns-clause-known : goal.returns-clause-known
returns-clause-known c =
    let all = all_done c.args.done.now in
    let G : rule.Env = env c.args.env.now in
    let K : rule.Env = env c.add_blocks_if.new.env in
    outside_known G (record G { scopes = scopes c.take-scope.new.self }) (env c.function_declared.new.env) K
    (record K { scopes = scopes c.put.new.self }) c.args.own all.0 c.args.head.now.line c.in_ok-number.number
    (scope c.take-scope.result) (signature c.deref.result.now c.args.ty.now)
    (results (headed c.args.ty.now) ++ c.args.ty.now.params.items) c.requires c.take-scope.ensures.taken
    (ap (λ (ss : List rule.Scope). record G { scopes = ss })
    (c.take-scope.ensures.left ∙ same_outer (scopes c.args.env.now.scopes))) (c.in_ok-number.ensures.means all.0 all.1)
    c.in_ok-add_blocks_if.ensures.means c.in_ok-add_blocks_if.ensures.known
    (ap (λ (ss : List rule.Scope). record K { scopes = ss }) c.in_ok-put.ensures)

pub returns-in_err-number-clause-means : goal.returns-in_err-number-clause-means
returns-in_err-number-clause-means c ds done =
    let G : rule.Env = env c.args.env.now in
    let p = err_from_is_err_and c.from_residual.result c.from_residual.ensures.1 in
    rw (p.1, p.2) (outside_stops G (record G { scopes = scopes c.take-scope.new.self }) c.args.own ds (head_of c.args.head.now)
    (headed c.args.ty.now) c.deref.result.now _ c.deref.ensures.value
    (ap (λ (ss : List rule.Scope). record G { scopes = ss })
    (c.take-scope.ensures.left ∙ same_outer (scopes c.args.env.now.scopes))) (c.in_err-number.ensures.means ds done))
