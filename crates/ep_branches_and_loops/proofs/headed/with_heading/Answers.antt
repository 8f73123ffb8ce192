use Rattle.std.proofs.Common.{refl, arith}
use Rattle.ep_statement_parts.proofs.DepthLemmas.{tall, low}
use Rattle.ep_branches_and_loops.proofs.HeadedLemmas.{headed_shows}
use Rattle.ep_branches_and_loops.proofs.headed.with_heading.Goals as goal

pub returns-then-height-gt64 : goal.returns-then-height-gt64
returns-then-height-gt64 c = λ n p s k h i. rw (tall c.args.height n k (omega arith)) refl

pub returns : goal.returns
returns c = λ n p s k h i. rw c.and.ensures
    (headed_shows n c.args.line c.args.heading c.args.inner p s (low c.args.height n k (omega arith)) h i)
