use Rattle.ep_frames.proofs.leaving.next_part.Goals as goal

pub returns-clause-fits : goal.returns-clause-fits
returns-clause-fits c m h = (h.next, λ g. c.in_ok-push.ensures.fits m g h)
