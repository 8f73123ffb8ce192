use Rattle.ep_tame_laws.proofs.Tame.{tame_report}
use Rattle.ep_tame_laws.proofs.laws.tame_reports.Goals as goal

pub returns : goal.returns
returns g c p ord formed built tame other u =
    tame_report p (g.S.TameStates.ops p ord) (g.S.TameStates.Good p ord) (g.S.TameStates.rank p)
    (g.S.TameStates.limit p) (g.S.TameStates.laws p ord formed built tame other) formed tame u ord
