use Rattle.ep_steps.proofs.Rests.{rest_fits}
use Rattle.ep_steps.proofs.moves.open_list.Goals as goal

pub returns-in-None-clause-pile : goal.returns-in-None-clause-pile
returns-in-None-clause-pile c g =
    c.in_ok-push.ensures.fits c.args.on.now g (rest_fits c.args.on.now c.args.here c.args.list.now c.requires.typed)

pub returns-in_ok-push-in-Some-clause-pile : goal.returns-in_ok-push-in-Some-clause-pile
returns-in_ok-push-in-Some-clause-pile c g =
    c.in_ok-push-in-Some.ensures.fits c.args.on.now
    (c.in_ok-push.ensures.fits c.args.on.now g (rest_fits c.args.on.now c.args.here c.args.list.now c.requires.typed)) tt
