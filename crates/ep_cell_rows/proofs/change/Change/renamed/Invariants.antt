use Rattle.std.proofs.Common.{◌≡◌, drop}
use Rattle.ep_bitslice.specs.Segments.{bits, IsForm}
use Rattle.ep_cell_rows.specs.Parts.{fate_of, bits_with_all}
use Rattle.ep_cell_rows.proofs.change.Change.renamed.Given as goal

-- what is left to rename
abbrev pub invariant-loop-s : goal.invariant-loop-s
invariant-loop-s l = record {
  rest : bits_with_all (fate_of l.self) (drop l.s-index l.s-items) (bits l.after) ≡ bits_with_all (fate_of l.self)
      l.s-items (bits l.form);
  form : IsForm l.after;
}
