use Rattle.ep_bits.proofs.Machine.{low_results}
use Rattle.ep_bits.proofs.operators.results_of.Goals as goal

pub returns-in-Add : goal.returns-in-Add
returns-in-Add c =
    low_results c.args.op c.args.t c.args.x.now c.args.y.now c.by_low_bits.result c.in-Add.is c.by_low_bits.ensures
