use Rattle.ep_tame_statements.proofs.Statements.{statements_keep_good}
use Rattle.ep_tame_statements.proofs.statement_laws.Goals as goal

pub returns : goal.returns
returns g c keeps products small p formed built tame ord =
    statements_keep_good g.N.Num.ops g.met.N.Num.laws keeps products small p formed built tame ord
