use Rattle.ep_typer_lines.proofs.Rows.{scope_is}
use Rattle.ep_typer_lines.proofs.nodes.scoped.Goals as goal

pub returns : goal.returns
returns c = scope_is c.args.blocks c.args.body
