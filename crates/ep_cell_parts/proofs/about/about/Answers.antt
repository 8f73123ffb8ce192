use Rattle.ep_cell_parts.proofs.Abouts.{about_of}
use Rattle.ep_cell_parts.proofs.about.about.Goals as goal

pub returns : goal.returns
returns g c = λ d a.
    about_of d c.args.place.now c.reach-range.result.0 c.reach-range.result.1 c.args.parts.now c.window.result.now _ (record { first = c.reach-range.ensures.from; end = c.reach-range.ensures.last }) a c.window.ensures c.in_ok-cells.ensures
