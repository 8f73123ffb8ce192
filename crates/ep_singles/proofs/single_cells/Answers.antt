use Rattle.ep_singles.proofs.Kills.{kills_keep_one}
use Rattle.ep_singles.proofs.Narrows.{narrows_keep_one}
use Rattle.ep_singles.proofs.Overwrites.{overwrites_keep_one}
use Rattle.ep_singles.proofs.single_cells.Goals as goal

pub returns-clause-kills : goal.returns-clause-kills
returns-clause-kills g c = kills_keep_one g.N.Num.ops g.met.N.Num.laws

pub returns-clause-narrows : goal.returns-clause-narrows
returns-clause-narrows g c = narrows_keep_one g.N.Num.ops

pub returns-clause-overwrites : goal.returns-clause-overwrites
returns-clause-overwrites g c = overwrites_keep_one g.N.Num.ops
