use Rattle.std.proofs.Common.{sym, ◌∙◌}
use Rattle.ep_core.specs.Exec.{leaves, returned}
use Rattle.ep_simple_steps.proofs.statements.put_result.Goals as goal

pub returns-in-Some-clause-fits : goal.returns-in-Some-clause-fits
returns-in-Some-clause-fits c = c.left_by.ensures.fits c.args.on.now

pub returns-in-Some-clause-comes : goal.returns-in-Some-clause-comes
returns-in-Some-clause-comes c left =
    rw (c.in-Some.is)
    (c.left_by.ensures.comes c.args.on.now left _ ∙ sym (c.put.ensures.puts c.args.line (leaves returned left)))
