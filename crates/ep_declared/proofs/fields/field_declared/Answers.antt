use Rattle.std.proofs.lemmas.Result.{err_from_is_err_and}
use Rattle.ep_core.proofs.Tables.{more_types}
use Rattle.ep_ast.specs.Expression.{expr}
use Rattle.ep_scopes.specs.View.{env}
use Rattle.ep_declared.proofs.FieldLemmas.{follows_mentioned}
use Rattle.ep_declared.proofs.Growth.{follows_more, type_known}
use Rattle.ep_declared.proofs.MemberLemmas.{types_stay}
use Rattle.ep_scopes.proofs.Coming.{comes_on}
use Rattle.ep_declared.proofs.Coming.{come_answered, come_stop, mentioned_left}
use Rattle.ep_declared.proofs.fields.field_declared.Goals as goal

pub with_field-requires-clause-inside : goal.with_field-requires-clause-inside
with_field-requires-clause-inside c =
    let f = follows_mentioned (env c.args.env.now) (env c.mention.new.env) (expr c.args.width.now)
    c.in_ok-mention.ensures.means c.in_ok-mention.ensures.known in
    type_known c.args.env.now.types c.mention.new.env.types f.grown c.args.c c.requires.inside

pub with_field-requires-clause-members : goal.with_field-requires-clause-members
with_field-requires-clause-members c =
    let f = follows_mentioned (env c.args.env.now) (env c.mention.new.env) (expr c.args.width.now)
    c.in_ok-mention.ensures.means c.in_ok-mention.ensures.known in
    types_stay c.args.env.now.types c.mention.new.env.types
    (more_types c.args.env.now.types c.mention.new.env.types f.grown) c.args.named.now c.requires.members

pub returns-clause-after : goal.returns-clause-after
returns-clause-after c =
    let f = follows_mentioned (env c.args.env.now) (env c.mention.new.env) (expr c.args.width.now)
    c.in_ok-mention.ensures.means c.in_ok-mention.ensures.known in
    follows_more (env c.args.env.now) (env c.mention.new.env) (env c.with_field.new.env) f
    c.in_ok-with_field.ensures.after

pub returns-in_err-x-clause-comes : goal.returns-in_err-x-clause-comes
returns-in_err-x-clause-comes c =
    come_answered c.from_residual-in_err-x.result (env c.args.env.now) (env c.mention.new.env)
    (mentioned_left (env c.args.env.now) (env c.mention.new.env)
    (expr c.args.width.now) c.in_ok-mention.ensures.means)

pub returns-in_err-with_field-clause-comes : goal.returns-in_err-with_field-clause-comes
returns-in_err-with_field-clause-comes c =
    let p = err_from_is_err_and c.from_residual-in_err-with_field.result
    c.from_residual-in_err-with_field.ensures.1 in
    rw (p.1, p.2) (come_stop _ (env c.args.env.now) (env c.mention.new.env) (env c.with_field.new.env)
    (mentioned_left (env c.args.env.now) (env c.mention.new.env)
    (expr c.args.width.now) c.in_ok-mention.ensures.means) c.in_err-with_field.ensures.comes)

pub returns-clause-comes : goal.returns-clause-comes
returns-clause-comes c =
    comes_on (env c.args.env.now) (env c.mention.new.env) (env c.with_field.new.env)
    (mentioned_left (env c.args.env.now) (env c.mention.new.env)
    (expr c.args.width.now) c.in_ok-mention.ensures.means) c.in_ok-with_field.ensures.comes
