use Rattle.std.proofs.Common.{◌++◌, take}
use Rattle.ep_io.proofs.ByteLemmas.{Taken-more}
use Rattle.ep_io.proofs.engines.read_all.Goals as goal

pub returns-then-count-limit-clause-taken : goal.returns-then-count-limit-clause-taken
returns-then-count-limit-clause-taken g c = (
  c.loop-text.text.items ++ take c.in_ok-count.count c.read.new.buf,
  Taken-more _ _ _ _ _ c.loop-text.invariant.2 c.in_ok-count.ensures.taken,
)

pub returns-in_err-extend_from_slice-clause-taken : goal.returns-in_err-extend_from_slice-clause-taken
returns-in_err-extend_from_slice-clause-taken g c = (
  c.loop-text.text.items ++ take c.in_ok-count.count c.read.new.buf,
  Taken-more _ _ _ _ _ c.loop-text.invariant.2 c.in_ok-count.ensures.taken,
)
