use Rattle.ep_bytes.specs.StoreView.{IsExtended}
use Rattle.ep_bytes.proofs.store.extend.Given as goal

abbrev pub invariant-loop-byte : goal.invariant-loop-byte
invariant-loop-byte l = IsExtended l.initial.cells l.cells l._byte
