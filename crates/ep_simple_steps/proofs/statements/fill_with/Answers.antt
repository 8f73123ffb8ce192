use Rattle.ep_machine.specs.Settings.{program_in}
use Rattle.ep_simple_steps.proofs.statements.fill_with.Goals as goal

pub returns-in-Ok-clause-fits : goal.returns-in-Ok-clause-fits
returns-in-Ok-clause-fits c = c.left_by.ensures.fits c.args.on.now

pub fill-requires-clause-there : goal.fill-requires-clause-there
fill-requires-clause-there c = c.in-Ok.ensures.there (program_in c.args.on.now) c.requires.to
