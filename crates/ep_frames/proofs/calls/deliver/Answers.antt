use Rattle.ep_frames.proofs.calls.deliver.Goals as goal

pub returns-in-Ok-clause-fits : goal.returns-in-Ok-clause-fits
returns-in-Ok-clause-fits c = c.left_by.ensures.fits c.args.on.now
