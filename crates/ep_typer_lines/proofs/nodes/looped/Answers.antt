use Rattle.ep_typer_lines.proofs.Rows.{loop_is}
use Rattle.ep_typer_lines.proofs.nodes.looped.Goals as goal

pub returns : goal.returns
returns c = loop_is c.args.tests_first c.args.test c.args.turn c.args.next
