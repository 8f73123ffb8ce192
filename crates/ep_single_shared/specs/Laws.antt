-- Cells of both sides that become one where a state stands for one pair of memories alone.
use Rattle.ep_domain.specs.Domain.{Ops}
use Rattle.ep_cells.specs.Reshare.{reshared}
use Rattle.ep_cells.specs.States.{Known}
use Rattle.ep_cells.specs.Meaning.{Memories}
use Rattle.ep_singles.specs.Numbers.{KeepsSingles}
use Rattle.ep_singles.specs.Cells.{IsOne}

abbrev pub ResharesKeepOne : {N : Type 0} → Ops N → Type 0
ResharesKeepOne {N = N} D =
    KeepsSingles D → (k : Known N) (m : Memories) → IsOne D k m → IsOne D (record k { cells = reshared D k.cells }) m
