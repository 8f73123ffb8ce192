use Rattle.std.proofs.Common.{◌≡◌, ◌-◌, ◌≤◌, vec_len}
use Rattle.ep_io.specs.Faults.{NeverFalls}
use Rattle.ep_io.specs.Bytes.{Taken}
use Rattle.ep_io.proofs.engines.read_all.Given as goal

abbrev pub invariant-loop-text : goal.invariant-loop-text
invariant-loop-text g l =
    let source = g.S.Source in
    (source.standing l.src ≡ source.standing l.initial.src) × (vec_len l.text ≤ l.limit) × Taken (source.left l.initial.src) l.text.items (source.left l.src) × NeverFalls (source.faults l.initial.src) (source.faults l.src)

abbrev pub decreases-loop-text : goal.decreases-loop-text
decreases-loop-text g l = l.limit - vec_len l.text
