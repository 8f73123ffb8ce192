use Rattle.std.proofs.Common.{◌≡◌, ◌-◌, ◌++◌}
use Rattle.ep_int.specs.Types.{size_of}
use Rattle.ep_reads.specs.Split.{bytes_of_cell, byte_of}
use Rattle.ep_synthesis.proofs.split.byte_cells.Given as goal

abbrev pub invariant-loop-p : goal.invariant-loop-p
invariant-loop-p g l =
    l.out.items ++ bytes_of_cell (byte_of g.N.Num.ops l.o l.side l.f l.x l.x.what l.x.value) l.p (size_of l.fn.model
    l.x.what
    - l.p) ≡ bytes_of_cell (byte_of g.N.Num.ops l.o l.side l.f l.x l.x.what l.x.value) 0 (size_of l.fn.model l.x.what)
