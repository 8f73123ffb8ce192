use Rattle.ep_core.specs.Runs.{left, right}
use Rattle.ep_mover_laws.proofs.Reports.{same_symbols, agreeing_nothing, mover_form}
use Rattle.ep_mover_laws.proofs.laws.mover_reports.Goals as goal

pub returns-clause-same : goal.returns-clause-same
returns-clause-same g c p ord formed form other os e f u limit =
    same_symbols p formed ord (g.S.MoverStates.ops p ord) (g.S.MoverStates.Concretises p ord)
    (g.S.MoverStates.lawful p ord formed other) (g.S.MoverStates.Moved p ord)
    (g.S.MoverStates.laws p ord formed form other) form os e f u limit

pub returns-clause-agreeing : goal.returns-clause-agreeing
returns-clause-agreeing g c p ord formed text other agree u limit =
    agreeing_nothing p formed ord (g.S.MoverStates.ops p ord) (g.S.MoverStates.Concretises p ord)
    (g.S.MoverStates.lawful p ord formed other) (g.S.MoverStates.Moved p ord)
    (g.S.MoverStates.laws p ord formed (mover_form p (ord left) (ord right) text) other) text agree u limit
