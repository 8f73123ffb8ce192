use Rattle.std.proofs.Common.{◌≡◌, ◌++◌, [], map, drop}
use Rattle.ep_cells.specs.Cells.{each_becomes}
use Rattle.ep_state_rows.specs.Rows.{not_in_row, joined_in}
use Rattle.ep_state_rows.proofs.facing.joined_row.Given as goal

abbrev pub invariant-loop-x : goal.invariant-loop-x
invariant-loop-x g l = record {
  others : each_becomes (not_in_row l.model l.cells l.q l.place) (map (λ r. r.now) (drop l.x-index l.about)) ≡ []
      → each_becomes (not_in_row l.model l.cells l.q l.place) (map (λ r. r.now) l.about) ≡ [];
  joined : l.out.items
      ++ each_becomes (joined_in g.N.Num.ops l.model l.cells l.q l.place) (map (λ r. r.now) (drop l.x-index l.about))
      ≡ each_becomes (joined_in g.N.Num.ops l.model l.cells l.q l.place) (map (λ r. r.now) l.about);
}
