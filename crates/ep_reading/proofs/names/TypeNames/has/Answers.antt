use Rattle.ep_ast.specs.TypeWords.{is_built_in_type}
use Rattle.ep_reading.proofs.NameLemmas.{has_then, has_else}
use Rattle.ep_reading.proofs.names.TypeNames.has.Goals as goal

pub returns-then-is_built_in : goal.returns-then-is_built_in
returns-then-is_built_in c = has_then is_built_in_type c.args.self.now.added.keys c.args.name.now c.is_built_in.result
    c.is_built_in.ensures c.if-is_built_in.true

pub returns-else-is_built_in : goal.returns-else-is_built_in
returns-else-is_built_in c = has_else is_built_in_type c.args.self.now.added.keys c.args.name.now c.is_built_in.result
    c.is_added.result c.is_built_in.ensures c.if-is_built_in.false c.is_added.ensures
