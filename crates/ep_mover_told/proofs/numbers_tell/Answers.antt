use Rattle.ep_mover_told.proofs.Telling.{numbers_tell_bytes}
use Rattle.ep_mover_told.proofs.numbers_tell.Goals as goal

pub returns : goal.returns
returns c = numbers_tell_bytes
