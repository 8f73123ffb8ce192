use Rattle.ep_tame_laws.proofs.Laid.{laid}
use Rattle.ep_tame_laws.proofs.Found.{place_has_row}
use Rattle.ep_tame_laws.proofs.Along.{addresses_along}
use Rattle.ep_tame_laws.proofs.row_laws.row_laws.Goals as goal

pub returns-clause-rows : goal.returns-clause-rows
returns-clause-rows c t built tame bs seen b whole bytes a ty h begins =
    place_has_row t built tame bs seen b whole bytes a ty h begins

pub returns-clause-laid : goal.returns-clause-laid
returns-clause-laid c t b whole bytes a r w k h = laid t b whole bytes a r w k h

pub returns-clause-along : goal.returns-clause-along
returns-clause-along c t built b whole bytes a r w h z sz = addresses_along t built b whole bytes a r w h z sz
