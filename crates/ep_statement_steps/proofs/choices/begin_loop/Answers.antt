use Rattle.ep_statement_steps.proofs.choices.begin_loop.Goals as goal

pub returns-then-tests_first-clause-fits : goal.returns-then-tests_first-clause-fits
returns-then-tests_first-clause-fits c m h = (tt, λ g. c.in_ok-push.ensures.fits m g h)
