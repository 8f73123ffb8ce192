-- What a state of the analysis stands for.
use Rattle.ep_int.specs.declared.types.Order.{Order}
use Rattle.ep_int.specs.Memory.{Memory}
use Rattle.ep_domain.specs.Domain.{Ops, Lawful}
use Rattle.ep_cells.specs.States.{Known}
use Rattle.ep_cells.specs.Meaning.{Memories, In}
use Rattle.ep_cells.specs.Laws.{WriteLaws, WeakWriteLaws, KillLaws}
use Rattle.ep_reads.specs.Laws.{ReadLaws}
use Rattle.ep_reads.specs.SplitLaws.{SplitLaws}
use Rattle.ep_cell_ranges.specs.Laws.{MoreSplitLaws, MoreWriteLaws, MoreWeakWriteLaws, SharedLaws}
use Rattle.ep_core.specs.Program.{Program}
use Rattle.ep_core.specs.Runs.{Side}
use Rattle.ep_evaluation.specs.Laws.{IsState}

abbrev pub memories : Memory → Memory → Memories
memories m n = record { left = m; right = n }

-- It is a state of these machines and this program, and says what holds of the two memories.
pub record StandsFor {N : Type 0} (D : Ops N) (p : Program) (ord : Side → Order) (k : Known N) (m n : Memory) : Type 0
  where
    pub state : IsState D p ord k
    pub holds : In D k (memories m n)

-- the laws of cells that statements rest on
pub record CellLaws {N : Type 0} (D : Ops N) : Type 0 where
  pub domain : Lawful D
  pub reads : ReadLaws D
  pub splits : SplitLaws D
  pub more_splits : MoreSplitLaws D
  pub writes : WriteLaws D
  pub more_writes : MoreWriteLaws D
  pub weak_writes : WeakWriteLaws D
  pub more_weak_writes : MoreWeakWriteLaws D
  pub kills : KillLaws D
  pub shared : SharedLaws D
