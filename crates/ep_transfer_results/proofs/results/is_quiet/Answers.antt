use Rattle.std.proofs.Common.{arith}
use Rattle.ep_transfer_results.proofs.Loading.{not_quiet}
use Rattle.ep_transfer_results.proofs.results.is_quiet.Goals as goal

pub returns-in-len1-up : goal.returns-in-len1-up
returns-in-len1-up c = not_quiet c.args.faults.now (omega (arith, c.in-len1-up.len_at_least))
