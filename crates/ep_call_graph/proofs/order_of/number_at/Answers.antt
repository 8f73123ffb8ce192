use Rattle.std.proofs.Common.{sym, length, ltb-true, ltb-false}
use Rattle.ep_int.proofs.Basics.{slice_get-here}
use Rattle.std.proofs.lemmas.Option.{slice_get_past}
use Rattle.ep_call_graph.proofs.order_of.number_at.Goals as goal

pub returns-in-Some : goal.returns-in-Some
returns-in-Some c =
    sym (slice_get-here c.args.numbers.now c.args.i c.in-Some.number.now
    (ltb-true c.args.i (length c.args.numbers.now) (sym c.in-Some.ensures.lookup.0)) c.in-Some.ensures.lookup.1)

pub returns-in-None : goal.returns-in-None
returns-in-None c =
    sym (slice_get_past c.args.numbers.now c.args.i (ltb-false c.args.i (length c.args.numbers.now) (sym c.in-None.ensures.lookup.0)))
