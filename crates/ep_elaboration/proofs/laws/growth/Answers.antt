use Rattle.ep_elaboration.proofs.Growing.{place_on, sort_on}
use Rattle.ep_elaboration.proofs.laws.growth.Goals as goal

pub returns : goal.returns
returns c = record { sorts = sort_on; places = place_on }
