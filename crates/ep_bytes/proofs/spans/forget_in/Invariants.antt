use Rattle.ep_bytes.proofs.Sweeps.{IsSwept}
use Rattle.ep_bytes.proofs.spans.forget_in.Given as goal

abbrev pub invariant-loop-page : goal.invariant-loop-page
invariant-loop-page l = IsSwept l.block l.span l.page l.initial.bytes.items l.bytes.items
