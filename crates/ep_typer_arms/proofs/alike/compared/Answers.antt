use Rattle.std.proofs.Common.{◌∙◌, sym, subst}
use Rattle.std.proofs.lemmas.Result.{IfOk-weaker}
use Rattle.ep_ast.specs.Declaration.{head_of}
use Rattle.ep_scopes.specs.Comes.{Comes}
use Rattle.ep_scopes.specs.Known.{IsKnownEnv}
use Rattle.ep_scopes.specs.View.{env}
use Rattle.ep_scopes.proofs.Coming.{comes_on, comes_types}
use Rattle.ep_typer_functions.proofs.Outside.{all_done}
use Rattle.ep_typer_functions.specs.View.{headed}
use Rattle.ep_typer_arms.proofs.Alone.{compared, first_refused}
use Rattle.ep_typer_arms.proofs.Grown.{alone_known, came, where_ok}
use Rattle.ep_typer_arms.proofs.alike.compared.Goals as goal

pub is_alike-requires : goal.is_alike-requires
is_alike-requires c =
    let G = env c.args.env.now in
    let H = env c.stands_alone.new.env in
    let all = all_done c.args.done.now in
    let back = c.in_ok-rewind_names-in-Ok.ensures G
    (came c.args.mark G H c.requires.file c.requires.mark c.requires.built c.in-Ok.ensures.comes) in
    subst IsKnownEnv (sym back)
    (alone_known G all.0 (head_of c.args.first.now) (headed c.in-Ok.ty) H.types c.requires.file c.requires.known
    (c.in-Ok.ensures.means all.0 all.1))

pub returns-in_ok-rewind_names-in-Ok-clause-means : goal.returns-in_ok-rewind_names-in-Ok-clause-means
returns-in_ok-rewind_names-in-Ok-clause-means c ds done =
    let G = env c.args.env.now in
    let H = env c.stands_alone.new.env in
    let h = head_of c.args.first.now in
    let back = c.in_ok-rewind_names-in-Ok.ensures G
    (came c.args.mark G H c.requires.file c.requires.mark c.requires.built c.in-Ok.ensures.comes) in
    IfOk-weaker c.is_alike.result _ _
    (λ b q. q ∙ compared G (env c.rewind_names.new.self) ds h (head_of c.args.second.now) (headed c.in-Ok.ty) H.types
    (c.in-Ok.ensures.means ds done) back)
    (c.is_alike.ensures.means ds done h G)

pub returns-in_ok-rewind_names-in-Ok-clause-comes : goal.returns-in_ok-rewind_names-in-Ok-clause-comes
returns-in_ok-rewind_names-in-Ok-clause-comes c =
    let G = env c.args.env.now in
    let H = env c.stands_alone.new.env in
    let T = env c.rewind_names.new.self in
    let K = env c.is_alike.new.env in
    let back = c.in_ok-rewind_names-in-Ok.ensures G
    (came c.args.mark G H c.requires.file c.requires.mark c.requires.built c.in-Ok.ensures.comes) in
    let first = subst (Comes G) (sym back) (comes_types G H.types c.in-Ok.ensures.comes.types) in
    where_ok c.is_alike.result (Comes T K) (Comes G K) (λ d. comes_on G T K first d) c.is_alike.ensures.comes

pub returns-in-Refused-clause-means : goal.returns-in-Refused-clause-means
returns-in-Refused-clause-means c ds done =
    first_refused (env c.args.env.now) ds (head_of c.args.first.now) (head_of c.args.second.now) c.in-Err.stop
    c.in-Refused.field-0 c.in-Refused.is (c.in-Err.ensures.means ds done)
