use Rattle.std.proofs.Common.{refl, sym, rules}
use Rattle.ep_ast.specs.TypeWords.{built_in_types}
use Rattle.ep_reading.proofs.NameLemmas.{none_long}
use Rattle.ep_reading.proofs.names.is_built_in.Goals as goal

pub returns-then-name-lt6 : goal.returns-then-name-lt6
returns-then-name-lt6 c = sym (none_long built_in_types c.args.name.now refl (search rules))
