use Rattle.std.proofs.Common.{◌≡◌, ◌∙◌, is_some, refl}
use Rattle.std.proofs.lemmas.Result.{err_from_is_err_and}
use Rattle.std.specs.Option.{option_map}
use Rattle.ep_ast.specs.Declaration.{text_of}
use Rattle.ep_typing.specs.Operand.{value_of}
use Rattle.ep_operands.specs.View.{operand}
use Rattle.ep_scopes.specs.View.{env}
use Rattle.ep_declared.proofs.FieldLemmas.{width_stops}
use Rattle.ep_declared.proofs.NameLemmas.{seen_some}
use Rattle.ep_scopes.proofs.Coming.{comes_itself}
use Rattle.ep_declared.proofs.Coming.{come_answered, come_stop}
use Rattle.ep_declared.proofs.fields.with_field.Goals as goal

pub returns-in_err-width-clause-means : goal.returns-in_err-width-clause-means
returns-in_err-width-clause-means c =
    let p = err_from_is_err_and c.from_residual.result c.from_residual.ensures.1 in
    let has_name : c.is_some.result ≡ is_some (option_map text_of c.args.name.now) = c.is_some.ensures
    ∙ seen_some text_of c.args.name.now (option_map text_of c.args.name.now) refl in
    rw (p.1, p.2) (width_stops c.args.line (env c.args.env.now) c.args.with_union c.args.named.now c.args.c
    (option_map text_of c.args.name.now) (value_of c.args.env.now.types (operand c.args.x))
    (rw c.is_field_type.ensures at c.if-with_union-is_field_type.false) _
    (rw (c.int_of.ensures, has_name) at c.in_err-width.ensures.means))

pub returns-then-with_union-is_field_type-clause-comes : goal.returns-then-with_union-is_field_type-clause-comes
returns-then-with_union-is_field_type-clause-comes c =
    rw c.refused.ensures (comes_itself (env c.args.env.now))

pub returns-in_err-width-clause-comes : goal.returns-in_err-width-clause-comes
returns-in_err-width-clause-comes c =
    come_answered c.from_residual.result (env c.args.env.now) (env c.args.env.now) (comes_itself (env c.args.env.now))

pub returns-in_err-field_added-clause-comes : goal.returns-in_err-field_added-clause-comes
returns-in_err-field_added-clause-comes c =
    let p = err_from_is_err_and c.from_residual-in_err-field_added.result
    c.from_residual-in_err-field_added.ensures.1 in
    rw (p.1, p.2) (come_stop _ (env c.args.env.now) (env c.args.env.now) (env c.field_added.new.env)
    (comes_itself (env c.args.env.now)) c.in_err-field_added.ensures.comes)
