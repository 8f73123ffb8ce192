use Rattle.std.proofs.Common.{subst}
use Rattle.ep_bitslice.specs.Segments.{IsForm}
use Rattle.ep_bitslice.proofs.NormalForm.{same_form, form_is_normal}
use Rattle.ep_bitslice.proofs.form.Form.segments.Goals as goal

pub returns-clause-canonical : goal.returns-clause-canonical
returns-clause-canonical c = λ o p h. same_form o c.args.self.now p (subst IsForm c.self.view_is c.self.invariant) h

pub returns-clause-normal : goal.returns-clause-normal
returns-clause-normal c = form_is_normal c.args.self.now (subst IsForm c.self.view_is c.self.invariant)
