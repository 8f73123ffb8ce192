use Rattle.std.proofs.Common.{◌∙◌, sym, arith}
use Rattle.ep_congruence_laws.proofs.Multiples.{gcd_step, gcd_end}
use Rattle.ep_congruence.proofs.gcd.gcd.Goals as goal

pub loop-y-preserved : goal.loop-y-preserved
loop-y-preserved c = gcd_step c.loop-y.x c.loop-y.y ∙ c.loop-y.invariant

pub returns : goal.returns
returns c = sym (gcd_end c.loop-y.x c.loop-y.y (omega arith)) ∙ c.loop-y.invariant
