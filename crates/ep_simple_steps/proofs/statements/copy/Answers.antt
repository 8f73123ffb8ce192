use Rattle.ep_machine.specs.Settings.{program_in}
use Rattle.ep_simple_steps.proofs.statements.copy.Goals as goal

pub returns-in-Ok-pointed-clause-fits : goal.returns-in-Ok-pointed-clause-fits
returns-in-Ok-pointed-clause-fits c = c.left_by.ensures.fits c.args.on.now

pub copy-requires-clause-to : goal.copy-requires-clause-to
copy-requires-clause-to c = c.in-Ok.ensures.there (program_in c.args.on.now) c.requires.to

pub copy-requires-clause-from : goal.copy-requires-clause-from
copy-requires-clause-from c = c.in-Ok-pointed.ensures.there (program_in c.args.on.now) c.requires.from
