use Rattle.std.proofs.Common.{◌≡◌, map, drop}
use Rattle.ep_cells.specs.States.{Each}
use Rattle.ep_cell_ranges.specs.Ranges.{with_form, form_by_splits}
use Rattle.ep_state_steps.specs.Ones.{split_at, Has}
use Rattle.ep_state_ranges.proofs.cuts.split_each.Given as goal

abbrev pub invariant-loop-x : goal.invariant-loop-x
invariant-loop-x g l = record {
  state : split_at g.N.Num.ops l.side (drop l.x-index l.xs) l.sofar.state
      ≡ split_at g.N.Num.ops l.side l.xs l.fn.now.state;
  new : map (with_form (form_by_splits g.N.Num.ops l.sofar.state l.side (drop l.x-index l.xs) l.sofar.state.cells))
      l.sofar.new.items
      ≡ map (with_form (form_by_splits g.N.Num.ops l.fn.now.state l.side l.xs l.fn.now.state.cells)) l.fn.now.new.items;
  forms : map (form_by_splits g.N.Num.ops l.sofar.state l.side (drop l.x-index l.xs) l.sofar.state.cells)
      l.sofar.forms.items
      ≡ map (form_by_splits g.N.Num.ops l.fn.now.state l.side l.xs l.fn.now.state.cells) l.fn.now.forms.items;
  have : Each (Has l.side) (drop l.x-index l.xs);
}
