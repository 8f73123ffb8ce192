use Rattle.ep_branches_and_loops.proofs.HeadedLemmas.{both_shows}
use Rattle.ep_branches_and_loops.proofs.headed.with_else.Goals as goal

pub returns : goal.returns
returns c = λ n l e s t h i. rw c.and.ensures (both_shows n l c.args.parts c.args.otherwise e s t h i)
