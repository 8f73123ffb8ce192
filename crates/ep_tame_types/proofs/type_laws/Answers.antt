use Rattle.ep_tame_types.proofs.Types.{member_fits_in, array_of, no_holder_of, chain_fills}
use Rattle.ep_tame_types.proofs.type_laws.Goals as goal

pub returns-clause-members : goal.returns-clause-members
returns-clause-members c t built g q ty m = member_fits_in t built g q ty m

pub returns-clause-arrays : goal.returns-clause-arrays
returns-clause-arrays c t built tame a e n u el sz some more small =
    array_of t built tame a e n u el sz some more small

pub returns-clause-units : goal.returns-clause-units
returns-clause-units c t built ty u sz none = no_holder_of t built ty u sz none

pub returns-clause-chains : goal.returns-clause-chains
returns-clause-chains c t built whole ty s most chain sz = chain_fills t built whole ty s most chain sz
