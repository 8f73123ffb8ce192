use Rattle.std.proofs.Common.{ap, map}
use Rattle.ep_state_rows.proofs.Walking.{found}
use Rattle.ep_state_rows.proofs.facing.row_at.Goals as goal

pub returns : goal.returns
returns g c =
    let others = rw c.in-Some.is at c.in_ok-found.ensures.others in
    let joined = rw c.in-Some.is at c.in_ok-found.ensures.joined in
    found g.N.Num.ops c.args.state.now c.model-model.result c.args.cells.now c.args.start c.args.q c.args.place
    (map (λ r. r.now) c.in_ok-about.about.items) (map (λ r. r.now) c.deref.result.now) c.in-Some.new.items
    c.model-model.ensures.value c.requires.side c.requires.block c.requires.offset c.requires.bytes
    c.in_ok-about.ensures (ap (map (λ r. r.now)) c.deref.ensures.value) others joined
