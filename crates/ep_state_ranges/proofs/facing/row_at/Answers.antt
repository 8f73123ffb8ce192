use Rattle.std.proofs.Common.{ap, map}
use Rattle.ep_state_ranges.proofs.Whole.{found}
use Rattle.ep_state_ranges.proofs.facing.row_at.Goals as goal

pub returns : goal.returns
returns g c =
    found g.N.Num.ops c.model-model.result c.args.c.now c.args.place c.args.state.now c.args.bytes c.args.spots.now
    (map (λ r. r.now) c.in_ok-about.about.items) (map (λ r. r.now) c.deref.result.now)
    (map (λ r. r.now) c.deref-2.result.now) c.push_all_joined.new.out.items c.new-new.result.items
    c.model-model.ensures.value c.requires.own c.requires.shared c.requires.side c.requires.bytes c.requires.row
    c.requires.some c.in_ok-about.ensures (ap (map (λ r. r.now)) c.deref.ensures.value)
    (ap (map (λ r. r.now)) c.deref-2.ensures.value) (c.are_in_row.ensures c.if-not-are_in_row.false)
    c.new-new.ensures.items c.in_ok-push_all_joined.ensures
