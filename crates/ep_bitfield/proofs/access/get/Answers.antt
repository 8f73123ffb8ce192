use Rattle.std.proofs.Common.{◌≡◌, rules, subst, sym}
use Rattle.ep_core.specs.View.{dest_view, place_view, what_view}
use Rattle.ep_bitfield.specs.Accesses.{Does, gets, reading}
use Rattle.ep_bitfield.proofs.Runs.{get_does, is_part}
use Rattle.ep_bitfield.proofs.access.get.Goals as goal

pub returns-clause-does : goal.returns-clause-does
returns-clause-does c =
    let l = c.args.line in
    let unit = place_view c.args.unit in
    let to = dest_view c.args.to in
    let is : what_view c.in_ok-what.what ≡ reading l unit c.args.f to = search rules in
    subst (λ w. Does l w (λ o p. gets o p l unit c.args.f to)) (sym is)
    (get_does l unit c.args.f to (is_part c.args.f c.requires))
