use Rattle.std.proofs.Common.{◌≡◌, rules, subst, sym}
use Rattle.ep_core.specs.View.{expr_view, place_view, what_view}
use Rattle.ep_bitfield.specs.Accesses.{Does, sets, writing}
use Rattle.ep_bitfield.proofs.Runs.{is_part}
use Rattle.ep_bitfield.proofs.Sets.{set_does}
use Rattle.ep_bitfield.proofs.access.set.Goals as goal

pub returns-clause-does : goal.returns-clause-does
returns-clause-does c =
    let l = c.args.line in
    let unit = place_view c.args.unit in
    let new = expr_view c.args.value in
    let is : what_view c.in_ok-what.what ≡ writing l unit c.args.f new = search rules in
    subst (λ w. Does l w (λ o p. sets o p l unit c.args.f new)) (sym is)
    (set_does l unit c.args.f new (is_part c.args.f c.requires))
