use Rattle.ep_tame_laws.proofs.Parts.{part_fits, part_has_leaves, scalar_is_leaf}
use Rattle.ep_tame_laws.proofs.part_laws.part_laws.Goals as goal

pub returns-clause-fit : goal.returns-clause-fit
returns-clause-fit c t built whole o ty n s at hn hs = part_fits t built whole o ty n s at hn hs

pub returns-clause-leaves : goal.returns-clause-leaves
returns-clause-leaves c t built tame whole o ty at q w h = part_has_leaves t built tame whole o ty at q w h

pub returns-clause-scalars : goal.returns-clause-scalars
returns-clause-scalars c t built tame whole o ty at w h = scalar_is_leaf t built tame whole o ty at w h
