use Rattle.std.specs.Option.{option_map}
use Rattle.ep_ast.specs.Declaration.{text_of}
use Rattle.ep_scopes.specs.View.{env}
use Rattle.ep_declared.proofs.FieldLemmas.{field_types}
use Rattle.ep_declared.proofs.ObjectLemmas.{type_follows}
use Rattle.ep_scopes.proofs.Coming.{comes_itself}
use Rattle.ep_declared.proofs.Coming.{type_left}
use Rattle.ep_declared.proofs.fields.field_added.Goals as goal

pub returns-clause-after : goal.returns-clause-after
returns-clause-after c =
    type_follows (env c.args.env.now) c.add_type.new.types c.args.c c.in_ok-add_type.ensures c.requires.known

pub returns-clause-members : goal.returns-clause-members
returns-clause-members c =
    field_types c.args.env.now.types c.add_type.new.types c.args.named.now c.add_field.new.self c.args.c
    (option_map text_of c.args.name.now) c.args.width c.type_number-number.result c.int_of.result c.requires.inside
    c.requires.members c.in_ok-add_type.ensures c.type_number-number.ensures c.in_ok-add_field.ensures

pub returns-then-is_taken_name-clause-comes : goal.returns-then-is_taken_name-clause-comes
returns-then-is_taken_name-clause-comes c =
    rw c.refused.ensures (comes_itself (env c.args.env.now))

pub returns-clause-comes : goal.returns-clause-comes
returns-clause-comes c =
    type_left (env c.args.env.now) c.add_type.new.types c.args.c c.in_ok-add_type.ensures
