use Rattle.ep_simple_steps.proofs.statements.assign.Goals as goal

pub returns-in-Ok-value-clause-fits : goal.returns-in-Ok-value-clause-fits
returns-in-Ok-value-clause-fits c = c.left_by.ensures.fits c.args.on.now
