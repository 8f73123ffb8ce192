use Rattle.ep_sized_types.proofs.Sized.{programs_have_bytes}
use Rattle.ep_sized_types.proofs.sized_types.Goals as goal

pub returns : goal.returns
returns c = programs_have_bytes
