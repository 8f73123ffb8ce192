use Rattle.std.proofs.Common.{◌↔◌, map, drop}
use Rattle.ep_cert_cells.specs.Bytes.{Every}
use Rattle.ep_cert.specs.Certificate.{IsBounded}
use Rattle.ep_cert.proofs.making.are_bounded.Given as goal

abbrev pub invariant-loop-c : goal.invariant-loop-c
invariant-loop-c l =
    Every IsBounded (map (λ r. r.now) (drop l.c-index l.cells)) ↔ Every IsBounded (map (λ r. r.now) l.cells)
