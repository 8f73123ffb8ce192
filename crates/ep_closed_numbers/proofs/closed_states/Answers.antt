use Rattle.ep_closed_numbers.proofs.Exact.{cells_are_exact}
use Rattle.ep_closed_numbers.proofs.closed_states.Goals as goal

pub returns : goal.returns
returns g c keeps p ord formed bytes closed other =
    cells_are_exact g.N.Num.ops
    (record {
      entry = c.single_entry.ensures;
      values = c.single_values.ensures.values;
      places = c.single_values.ensures.places;
      tests = c.single_tests.ensures;
      stores = c.single_assigned.ensures;
      clears = c.single_clears.ensures;
      copies = c.single_copies.ensures;
      stills = c.single_outputs.ensures;
      byte_copies = c.single_byte_copies.ensures;
      fills = c.single_fills.ensures;
      calls = c.single_calls.ensures;
      ends = c.single_ends.ensures;
      blocks = c.single_states.ensures;
      reshares = c.single_reshares.ensures;
    })
    keeps p ord formed bytes other
