use Rattle.std.proofs.Common.{◌∙◌}
use Rattle.std.proofs.lemmas.Result.{IfOk-weaker}
use Rattle.ep_transfer_places.specs.Room.{view}
use Rattle.ep_transfer_pieces.proofs.pieces.copied_by_pieces.Goals as goal

pub put_all-requires : goal.put_all-requires
put_all-requires g c = record { fits = (c.args.bytes, (c.in_ok-puts.ensures.fits, c.requires.to)) }

pub returns-in-None-clause-value : goal.returns-in-None-clause-value
returns-in-None-clause-value g c =
    IfOk-weaker c.put_all.result _ _ (λ s h. h ∙ c.in_ok-puts.ensures.value (view c.args.to.now) c.args.state)
    c.put_all.ensures.value

pub returns-in-Some-clause-value : goal.returns-in-Some-clause-value
returns-in-Some-clause-value g c =
    IfOk-weaker c.put_at_each.result _ _ (λ s h. h ∙ c.in_ok-puts.ensures.value (view c.args.to.now) c.args.state)
    c.put_at_each.ensures.value
