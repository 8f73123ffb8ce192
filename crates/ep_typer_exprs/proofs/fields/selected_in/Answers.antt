use Rattle.std.proofs.Common.{◌∙◌, sym}
use Rattle.ep_typing.specs.Fields.{field_in, selected_in}
use Rattle.ep_typing.specs.Parts.{selected}
use Rattle.ep_operands.specs.View as view
use Rattle.ep_scopes.specs.View.{env}
use Rattle.ep_typer_exprs.proofs.FieldLemmas.{field_refused, without_field}
use Rattle.ep_typer_exprs.proofs.fields.selected_in.Goals as goal

pub returns-then-is_field : goal.returns-then-is_field
unfolding selected_in
returns-then-is_field c =
    let G = env c.args.env.now in
    let x = view.operand c.args.x in
    let f = field_refused (field_in G x c.args.name.now) (selected G.types x c.args.name.now) c.args.line (sym c.is_field.ensures ∙ c.if-is_field.true) in
    rw c.refused.ensures f

pub returns : goal.returns
unfolding selected_in
returns c =
    let G = env c.args.env.now in
    let x = view.operand c.args.x in
    without_field view.operand (field_in G x c.args.name.now) (selected G.types x c.args.name.now) c.args.line _
    (sym c.is_field.ensures ∙ c.if-is_field.false) c.selected.ensures
