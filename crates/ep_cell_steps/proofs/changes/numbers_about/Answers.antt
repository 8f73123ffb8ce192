use Rattle.std.proofs.Common.{subst}
use Rattle.ep_cell_steps.specs.Planned.{IsReached}
use Rattle.ep_cell_steps.proofs.changes.numbers_about.Goals as goal

pub returns-clause-reached : goal.returns-clause-reached
returns-clause-reached g c =
    subst (λ z. IsReached z c.reach-range.result.0 c.reach-range.result.1) c.place_of-place.ensures (record {
      first = c.reach-range.ensures.from;
      end = c.reach-range.ensures.last;
    })
