use Rattle.ep_tame_cells.proofs.Unparted.{reshared_shared, unified_shared, had_stays}
use Rattle.ep_tame_cells.proofs.Over.{both_alike, written_alike, weakened_alike, alike_shared}
use Rattle.ep_tame_cells.proofs.shared_laws.Goals as goal

pub returns : goal.returns
returns g c = record {
  reshared = reshared_shared g.N.Num.ops;
  unified = unified_shared g.N.Num.ops;
  stays = had_stays;
  both = both_alike;
  written = written_alike;
  weakened = weakened_alike g.N.Num.ops;
  alike = alike_shared;
}
