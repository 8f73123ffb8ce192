use Rattle.std.proofs.Common.{refl, arith}
use Rattle.ep_statement_parts.proofs.DepthLemmas.{tall, low}
use Rattle.ep_branches_and_loops.proofs.HeadedLemmas.{tested_shows}
use Rattle.ep_branches_and_loops.proofs.headed.with_test.Goals as goal

pub returns-then-height-gt64 : goal.returns-then-height-gt64
returns-then-height-gt64 c = λ n e s k h i. rw (tall c.args.height n k (omega arith)) refl

pub returns : goal.returns
returns c = λ n e s k h i. rw c.and.ensures
    (tested_shows n c.args.line c.args.test c.args.inner e s (low c.args.height n k (omega arith)) h i)
