use Rattle.std.specs.Prelude.{[]}
use Rattle.ep_core.specs.Runs.{left, right}
use Rattle.ep_closed_laws.proofs.Steps.{ends_alike}
use Rattle.ep_closed_laws.specs.Closely.{ConcretisesOneTyped}
use Rattle.ep_closed_laws.proofs.Inside.{Inside}
use Rattle.ep_closed_laws.proofs.Lift.{exactly}
use Rattle.ep_closed_laws.proofs.Exact.{closed_report}
use Rattle.ep_closed_laws.proofs.laws.closed_reports.Goals as goal

pub returns : goal.returns
returns g c p ord formed bytes other u limit some closed steady =
    closed_report p ord (g.S.ExactStates.ops p ord) (ConcretisesOneTyped p (Inside p (g.S.ExactStates.ConcretisesOne p ord)))
    (exactly p formed ord (g.S.ExactStates.ops p ord) (g.S.ExactStates.ConcretisesOne p ord)
    (g.S.ExactStates.laws p ord formed bytes closed.text other)) formed closed.text u limit some []
    (ends_alike p formed (ord left) (ord right) u [] closed.left_turns closed.right_turns steady)
