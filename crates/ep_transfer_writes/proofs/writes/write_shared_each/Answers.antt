use Rattle.std.proofs.Common.{true, ap, sym, ◌∙◌}
use Rattle.std.proofs.lemmas.Result.{IfOk-weaker}
use Rattle.ep_int.specs.Types.{size_of}
use Rattle.ep_state_ranges.specs.HeldForms.{at_spot}
use Rattle.ep_transfers.specs.Writes as spec
use Rattle.ep_transfer_writes.specs.Waiting.{view}
use Rattle.ep_transfer_writes.proofs.Standing.{stands_at_each}
use Rattle.ep_transfer_writes.proofs.writes.write_shared_each.Goals as goal

pub weakly_each-requires-clause-fits : goal.weakly_each-requires-clause-fits
weakly_each-requires-clause-fits g c =
    stands_at_each c.args.u.state c.in_ok-c.c (size_of c.args.u.state.model c.args.what) true c.args.spots.now
    c.in_ok-c.ensures.stands (ap (λ x. size_of c.args.u.state.model x.what)
    (sym c.in_ok-c.ensures.value)) c.requires.room
    (λ e. ap (λ x. x.side) c.in_ok-c.ensures.value)

pub weakly_each-requires-clause-stays : goal.weakly_each-requires-clause-stays
weakly_each-requires-clause-stays g c = λ e. ap (λ x. x.side) c.in_ok-c.ensures.value

pub returns-clause-value : goal.returns-clause-value
returns-clause-value g c =
    IfOk-weaker c.weakly_each.result _ _
    (λ r h. h ∙ ap (λ x. spec.weakly_each g.N.Num.ops (at_spot x) true c.args.spots.now (view c.args.u))
    c.in_ok-c.ensures.value)
    c.weakly_each.ensures.value
