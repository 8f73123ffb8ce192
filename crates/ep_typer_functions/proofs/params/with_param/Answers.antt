use Rattle.std.proofs.Common.{Err, sym, ◌∙◌}
use Rattle.std.proofs.lemmas.Result.{err_from_is_err_and}
use Rattle.std.specs.Option.{option_map}
use Rattle.ep_ast.specs.Declaration.{text_of}
use Rattle.ep_layout.specs.Grown.{GrownFrom}
use Rattle.ep_typing.specs.declared.types.CType.{CType}
use Rattle.ep_typing.specs.Env.{Env}
use Rattle.ep_scopes.specs.Comes.{Comes}
use Rattle.ep_scopes.specs.View.{env}
use Rattle.ep_scopes.proofs.Coming.{comes_itself, comes_types}
use Rattle.ep_declared.proofs.Answering.{answered, on_stop}
use Rattle.ep_declared.proofs.Growth.{table_known}
use Rattle.ep_typer_functions.specs.View.{counts_of}
use Rattle.ep_typer_functions.proofs.Coming.{param_comes}
use Rattle.ep_typer_functions.proofs.NotPassed.{not_passed}
use Rattle.ep_typer_functions.proofs.params.with_param.Goals as goal

pub name_param-requires-clause-known : goal.name_param-requires-clause-known
name_param-requires-clause-known c = table_known (env c.args.env.now) c.param_type.new.types c.in_ok-d.ensures.grown c.requires.known

pub returns-in_err-passable-clause-means : goal.returns-in_err-passable-clause-means
returns-in_err-passable-clause-means c =
    let p = err_from_is_err_and c.from_residual-in_err-passable.result c.from_residual-in_err-passable.ensures.1 in
    rw (p.1, p.2) (not_passed (env c.args.env.now) (option_map text_of c.args.tree.now.name) c.args.block c.args.c c.in_ok-d.d
    (counts_of c.args.counts.now) c.param_type.new.types c.args.tree.now.line _
    (sym c.is_name_taken.ensures ∙ c.if-is_name_taken.false) c.in_ok-d.ensures.means c.in_err-passable.ensures)

pub returns-then-is_name_taken-clause-comes : goal.returns-then-is_name_taken-clause-comes
returns-then-is_name_taken-clause-comes c =
    let G : Env = env c.args.env.now in answered {X = CType} (Err c.refused.result) (Comes G G) (comes_itself G)

pub returns-in_err-d-clause-comes : goal.returns-in_err-d-clause-comes
returns-in_err-d-clause-comes c =
    let p = err_from_is_err_and c.from_residual.result c.from_residual.ensures.1 in
    let G : Env = env c.args.env.now in
    let H : Env = record G { types = c.param_type.new.types } in
    rw (p.1, p.2) (on_stop CType CType _ (GrownFrom G.types H.types) (Comes G H) (comes_types G H.types)
    c.in_err-d.ensures.comes)

pub returns-in_err-passable-clause-comes : goal.returns-in_err-passable-clause-comes
returns-in_err-passable-clause-comes c =
    let G : Env = env c.args.env.now in
    let H : Env = record G { types = c.param_type.new.types } in
    answered c.from_residual-in_err-passable.result (Comes G H) (comes_types G H.types c.in_ok-d.ensures.comes)

pub returns-clause-comes : goal.returns-clause-comes
returns-clause-comes c =
    param_comes (env c.args.env.now) (env c.name_param.new.env) c.param_type.new.types c.args.block c.in_ok-d.d
    (option_map text_of c.args.tree.now.name) c.in_ok-d.ensures.comes c.in_ok-name_param.ensures.means
