use Rattle.ep_simple_steps.proofs.Solid.{IsSolidAt}
use Rattle.ep_simple_steps.proofs.clearing.is_solid.Given as goal

abbrev pub invariant-loop-depth : goal.invariant-loop-depth
invariant-loop-depth l = IsSolidAt l.types l.inner → IsSolidAt l.types l.ty
