use Rattle.std.proofs.Common.{map}
use Rattle.ep_eval_loads.proofs.Covered.{about_in}
use Rattle.ep_eval_loads.proofs.near.about_run.Goals as goal

pub returns : goal.returns
returns g c = about_in c.args.state.now.model _ c.args.state.now.cells (map (λ r. r.now) c.in_ok-cells.cells.items) c.in_ok-cells.ensures
