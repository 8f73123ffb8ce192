use Rattle.std.proofs.Common.{◌++◌, ◌∙◌, ap, map}
use Rattle.ep_state_ranges.proofs.Takings.{all_by_window, window_sized}
use Rattle.ep_state_ranges.proofs.taking.push_taken.Goals as goal

pub push_shares-requires : goal.push_shares-requires
push_shares-requires g c =
    window_sized c.args.state.now.model c.args.p.now c.args.state.now.cells
    (map (λ r. r.now) c.in_ok-about.about.items) (map (λ r. r.now) c.deref.result.now) c.model.ensures.cells
    c.in_ok-about.ensures (ap (map (λ r. r.now)) c.deref.ensures.value)

pub returns : goal.returns
returns g c =
    c.in_ok-push_shares.ensures
    ∙ ap (λ l. c.args.out.now.items ++ l)
    (all_by_window g.N.Num.ops c.args.share c.args.state.now c.args.p.now (map (λ r. r.now) c.in_ok-about.about.items)
    (map (λ r. r.now) c.deref.result.now) c.in_ok-about.ensures (ap (map (λ r. r.now)) c.deref.ensures.value))
