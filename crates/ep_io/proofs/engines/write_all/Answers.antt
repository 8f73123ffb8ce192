use Rattle.std.proofs.Common.{◌≡◌, ◌-◌, length, take, drop, ap, arith}
use Rattle.std.proofs.lemmas.Grind.{common_steps}
use Rattle.ep_io.proofs.ByteLemmas.{Appended-front, Appended-same}
use Rattle.ep_io.proofs.FaultLemmas.{NeverFalls-through}
use Rattle.ep_io.proofs.engines.write_all.Goals as goal

pub loop-done-preserved : goal.loop-done-preserved
loop-done-preserved g c =
    let text = c.args.text.now in
    let done = c.loop-done.done in
    let whole : take (length text - done) (drop done text) ≡ drop done text = grind (arith, common_steps) in (
      omega (arith, c.in_ok-done.ensures.bound),
      Appended-front _ _ _ text done c.in_ok-done.field-0 c.loop-done.invariant.1
          (Appended-same _ _ _ _ (ap (λ bytes. take c.in_ok-done.field-0 bytes) whole) c.in_ok-done.ensures.appended),
      NeverFalls-through _ _ _ c.loop-done.invariant.2 c.write.ensures.never_falls,
    )
