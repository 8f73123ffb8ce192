use Rattle.std.proofs.Common.{◌++◌, ◌∷◌, [], subst, sym}
use Rattle.ep_state_steps.specs.Met.{with_last, IsOneMore}
use Rattle.ep_state_steps.proofs.Adjoining.{last_grown}
use Rattle.ep_state_steps.proofs.runs.with_place.Goals as goal

pub returns-in-Some-joined : goal.returns-in-Some-joined
returns-in-Some-joined c =
    subst (λ o. IsOneMore (with_last c.args.places.now.items o) c.args.p (c.args.places.now.items ++ c.in-Some-joined.u ∷ []))
    (sym c.in-Some.is)
    (last_grown c.args.places.now.items c.in-Some.q c.args.p c.in-Some-joined.u c.in-Some-joined.ensures)
