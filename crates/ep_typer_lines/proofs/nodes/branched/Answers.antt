use Rattle.ep_typer_lines.proofs.Rows.{if_is}
use Rattle.ep_typer_lines.proofs.nodes.branched.Goals as goal

pub returns : goal.returns
returns c = if_is c.args.test c.args.then c.args.otherwise
