-- Where cells of both sides become one, a state stands for two memories alone still.
use Rattle.ep_int.specs.declared.types.Order.{Order}
use Rattle.ep_int.specs.Memory.{Memory}
use Rattle.ep_domain.specs.Domain.{Ops, Lawful}
use Rattle.ep_cells.specs.States.{Known}
use Rattle.ep_cells.specs.Reshare.{reshared}
use Rattle.ep_core.specs.Program.{Program}
use Rattle.ep_core.specs.Runs.{Side}
use Rattle.ep_transfers.specs.Cells.{cell_ops}
use Rattle.ep_transfers.specs.Laws.{memories}
use Rattle.ep_singles.specs.Numbers.{KeepsSingles}
use Rattle.ep_singles.specs.Cells.{IsOne}
use Rattle.ep_single_shared.proofs.Shares.{reshares_keep_one}
use Rattle.ep_single_states.specs.Laws.{ConcretisesOne}

pub reshares_are_exact : {N : Type 0} (D : Ops N) → Lawful D → KeepsSingles D → (p : Program) (ord : Side → Order)
    (s : Known N) (m k : Memory) → ConcretisesOne D p ord s m k
    → ConcretisesOne D p ord ((cell_ops D p ord).reshared s) m k
reshares_are_exact D law keeps p ord s m k h =
    let o : IsOne D (record s { cells = reshared D s.cells }) (memories m k)
    = reshares_keep_one D law keeps s (memories m k) h.one in
    record { state = record { orders = h.state.orders; model = h.state.model; cells = o.cells }; one = o }
