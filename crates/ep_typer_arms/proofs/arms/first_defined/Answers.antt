use Rattle.std.proofs.Common.{List, map, sym, ◌∙◌, subst}
use Rattle.ep_ast.specs.Statement.{function_of}
use Rattle.ep_defined.specs.View.{defined}
use Rattle.ep_typing.specs.Env as rule
use Rattle.ep_scopes.specs.Known.{AreKnownScopes}
use Rattle.ep_scopes.specs.View.{env, scopes}
use Rattle.ep_typer_functions.proofs.Outside.{all_done}
use Rattle.ep_typer_arms.proofs.Grown.{arm_known, first_is, scopes_rewound}
use Rattle.ep_typer_arms.proofs.arms.first_defined.Goals as goal

pub returns-clause-means : goal.returns-clause-means
returns-clause-means c ds h =
    let G = env c.args.env.now in
    let H = env c.functions_defined.new.env in
    let fs = map function_of c.args.list.now in
    let xs = map defined c.in_ok-all.all.items in
    first_is G H ds fs xs (scopes c.rewind.new.self) (c.in_ok-all.ensures.means ds h)
    (c.in_ok-rewind.ensures
    ∙ scopes_rewound G H ds fs xs c.mark-mark.result.names c.mark-mark.result.tags c.requires.file (c.in_ok-all.ensures.means ds h)
    c.mark-mark.ensures.names c.mark-mark.ensures.tags)

pub returns-clause-known : goal.returns-clause-known
returns-clause-known c =
    let all = all_done c.args.done.now in
    let G = env c.args.env.now in
    let H = env c.functions_defined.new.env in
    let fs = map function_of c.args.list.now in
    let xs = map defined c.in_ok-all.all.items in
    let means = c.in_ok-all.ensures.means all.0 all.1 in
    subst (λ (ss : List rule.Scope). AreKnownScopes H.types ss)
    (sym (c.in_ok-rewind.ensures
    ∙ scopes_rewound G H all.0 fs xs c.mark-mark.result.names c.mark-mark.result.tags c.requires.file means c.mark-mark.ensures.names
    c.mark-mark.ensures.tags))
    (arm_known G H all.0 fs xs c.requires.file c.requires.known means)
