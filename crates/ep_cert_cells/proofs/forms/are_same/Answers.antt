use Rattle.std.proofs.lemmas.Slice.Eq.{slice_eq-Decides}
use Rattle.ep_bitslice.proofs.Equality.{same_segment}
use Rattle.ep_cert_cells.proofs.forms.are_same.Goals as goal

pub returns : goal.returns
returns c = slice_eq-Decides same_segment _ _ _ c.eq.ensures
