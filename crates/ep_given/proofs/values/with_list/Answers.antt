use Rattle.std.proofs.Common.{map, sym, ◌∙◌}
use Rattle.std.proofs.lemmas.Result.{err_from_is_err_and}
use Rattle.std.specs.Option.{option_map}
use Rattle.ep_ast.specs.Declaration as source
use Rattle.ep_declared.specs.View as objects
use Rattle.ep_scopes.specs.View.{env}
use Rattle.ep_given.proofs.FieldLemmas.{has_fields_listed, has_no_parts, is_listed}
use Rattle.ep_given.proofs.values.with_list.Goals as goal

pub returns-in_err-whole : goal.returns-in_err-whole
returns-in_err-whole c =
    let p = err_from_is_err_and c.from_residual.result c.from_residual.ensures.1 in
    rw (p.1, p.2) (has_no_parts (env c.args.env.now) c.args.line (option_map objects.object c.args.x)
    (source.to_values (map source.value_of c.args.values.now)) _ c.in_err-whole.ensures)

pub returns-then-lists_fields : goal.returns-then-lists_fields
returns-then-lists_fields c =
    rw c.refused.ensures (has_fields_listed (env c.args.env.now) c.args.line (option_map objects.object c.args.x)
    (source.to_values (map source.value_of c.args.values.now)) (objects.object c.in_ok-whole.whole) c.in_ok-whole.ensures
    (sym c.if-lists_fields.true ∙ c.lists_fields.ensures))

pub returns : goal.returns
returns c =
    is_listed (env c.args.env.now) c.args.line (option_map objects.object c.args.x)
    (source.to_values (map source.value_of c.args.values.now)) (objects.object c.in_ok-whole.whole) c.in_ok-whole.ensures
    (sym c.if-lists_fields.false ∙ c.lists_fields.ensures)
