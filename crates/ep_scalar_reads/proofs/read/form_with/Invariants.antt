use Rattle.ep_scalar_reads.proofs.Bytes.{FormSoFar}
use Rattle.ep_scalar_reads.proofs.read.form_with.Given as goal

abbrev pub invariant-loop-r : goal.invariant-loop-r
invariant-loop-r g l = FormSoFar l.fn.first l.bytes l.form l.r-index
