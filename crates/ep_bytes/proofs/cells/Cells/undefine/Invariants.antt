use Rattle.std.proofs.Common.{◌*◌, min}
use Rattle.ep_bytes.specs.Cells.{IsCleared}
use Rattle.ep_bytes.proofs.cells.Cells.undefine.Given as goal

abbrev pub invariant-loop-page : goal.invariant-loop-page
invariant-loop-page l = IsCleared l.at (min l.end (l.page * 1024)) l.initial.self l.self
