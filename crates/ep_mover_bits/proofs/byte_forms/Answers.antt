use Rattle.ep_mover_bits.proofs.Forms.{forms_follow, reads_follow}
use Rattle.ep_mover_bits.proofs.byte_forms.Goals as goal

pub returns-clause-forms : goal.returns-clause-forms
returns-clause-forms g c = λ base. forms_follow base

pub returns-clause-reads : goal.returns-clause-reads
returns-clause-reads g c = λ base rs xs h few. reads_follow base rs xs h few
