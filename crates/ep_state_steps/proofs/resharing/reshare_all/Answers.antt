use Rattle.std.proofs.Common.{◌∙◌, ap}
use Rattle.ep_state_steps.proofs.Reshares.{all_reshared}
use Rattle.ep_state_steps.proofs.resharing.reshare_all.Goals as goal

pub is_reshared_at-requires : goal.is_reshared_at-requires
is_reshared_at-requires g c = c.deref.ensures.value ∙ c.in_ok-places.ensures

pub returns-then-is_reshared_at : goal.returns-then-is_reshared_at
returns-then-is_reshared_at g c =
    ap (λ l. record c.args.state { cells = l }) (c.is_reshared_at.ensures.stays c.if-is_reshared_at.true)

pub returns : goal.returns
returns g c =
    all_reshared g.N.Num.ops c.args.state c.in_ok-after.after c.in_ok-places.places.items _
    c.deref-2.ensures.value c.in_ok-places.ensures c.in_ok-after.ensures
