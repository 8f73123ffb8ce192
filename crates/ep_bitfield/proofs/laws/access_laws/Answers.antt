use Rattle.ep_bitfield.proofs.Fits.{reading_fits, writing_fits}
use Rattle.ep_bitfield.proofs.laws.access_laws.Goals as goal

pub returns-clause-readings : goal.returns-clause-readings
returns-clause-readings c = reading_fits

pub returns-clause-writings : goal.returns-clause-writings
returns-clause-writings c = writing_fits
