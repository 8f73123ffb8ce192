use Rattle.std.proofs.Common.{arith, ap, ◌∙◌}
use Rattle.ep_shared_parts.specs.Spread.{all_items}
use Rattle.ep_shared_parts.specs.Mentions.{users_in}
use Rattle.ep_shared_parts.proofs.Mentioning.{users_window, users_step, users_end}
use Rattle.ep_shared_parts.proofs.uses.users.Goals as goal

pub loop-part-preserved : goal.loop-part-preserved
loop-part-preserved c =
    users_step c.args.from c.args.last c.wide_window-part-items.result.now c.loop-part.part-index c.part-item.result c.loop-part.out.items c.push_users.new.out.items c.deref-in-loop-part.result.now _ c.in_ok-push_users.ensures (c.deref-in-loop-part.ensures.value ∙ ap (λ v. v.items) c.deref.ensures) (omega arith) c.part-item.is c.loop-part.invariant

pub returns : goal.returns
returns c =
    users_end c.args.from c.args.last c.wide_window-part-items.result.now c.loop-part.part-index c.loop-part.out.items (users_in c.args.from c.args.last (all_items c.wide_window-part-items.result.now)) (omega arith) c.loop-part.invariant
    ∙ users_window c.args.from c.args.last c.wide_number-first.result c.wide_number-end.result c.args.parts.now c.wide_window-part-items.result.now (omega (arith, c.wide_number-first.ensures.is)) c.wide_number-end.ensures.is c.wide_window-part-items.ensures
