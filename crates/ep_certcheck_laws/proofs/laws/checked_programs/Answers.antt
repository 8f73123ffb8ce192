use Rattle.ep_certcheck_laws.proofs.Yes.{checked_agree}
use Rattle.ep_certcheck_laws.proofs.laws.checked_programs.Goals as goal

pub returns : goal.returns
returns g c = checked_agree g.S.States.ops g.S.States.In g.S.States.laws
