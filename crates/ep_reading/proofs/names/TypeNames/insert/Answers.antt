use Rattle.ep_ast.specs.TypeWords.{is_built_in_type}
use Rattle.ep_reading.proofs.NameLemmas.{one_more, one_added}
use Rattle.ep_reading.proofs.names.TypeNames.insert.Goals as goal

pub returns-clause-added : goal.returns-clause-added
returns-clause-added c = λ text. one_more is_built_in_type text c.args.name.now c.in_ok-text.text
    c.args.self.now.added.keys _ c.in_ok-text.ensures.items c.in_ok-insert.ensures.keys

pub returns-clause-named : goal.returns-clause-named
returns-clause-named c = λ out. one_added is_built_in_type c.args.name.now c.in_ok-text.text c.args.self.now.added.keys
    _ c.in_ok-text.ensures.items c.in_ok-insert.ensures.keys out
