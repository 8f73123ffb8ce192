use Rattle.std.proofs.Common.{◌≡◌, ◌-◌, ◌++◌}
use Rattle.ep_cell_changes.specs.Entry.{byte_cells}
use Rattle.ep_cell_changes.proofs.entry.push_bytes.Given as goal

-- with the bytes that are left it is all
abbrev pub invariant-loop-q : goal.invariant-loop-q
invariant-loop-q g l =
    l.out.items ++ byte_cells l.side l.block l.q (l.to - l.q) ≡ l.fn.out.items ++ byte_cells l.side l.block l.from (l.to -
    l.from)
