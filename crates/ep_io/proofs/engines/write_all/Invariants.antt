use Rattle.std.proofs.Common.{◌-◌, ◌≤◌, length, take}
use Rattle.ep_io.specs.Faults.{NeverFalls}
use Rattle.ep_io.specs.Bytes.{Appended}
use Rattle.ep_io.proofs.engines.write_all.Given as goal

abbrev pub invariant-loop-done : goal.invariant-loop-done
invariant-loop-done g l =
    let sink = g.K.Sink in
    (l.done ≤ length l.text) × Appended (sink.written l.initial.out) (take l.done l.text) (sink.written l.out) × NeverFalls (sink.faults l.initial.out) (sink.faults l.out)

abbrev pub decreases-loop-done : goal.decreases-loop-done
decreases-loop-done g l = length l.text - l.done
