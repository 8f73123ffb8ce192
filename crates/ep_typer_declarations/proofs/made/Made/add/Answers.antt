use Rattle.std.proofs.Common.{map, refl}
use Rattle.ep_typer_declarations.specs.View as view
use Rattle.ep_typer_declarations.proofs.VariableLemmas.{one_added}
use Rattle.ep_typer_declarations.proofs.made.Made.add.Goals as goal

pub returns : goal.returns
returns c =
    one_added c.append.result (view.made c.args.self.now) c.args.line c.args.given.statements.items c.args.self.now.values.items
    c.args.given.values.items c.append.new.self.items (map view.line c.add_statements.new.lines.items) c.in_ok-add_statements.ensures refl
    c.append.ensures.items
