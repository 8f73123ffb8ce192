use Rattle.std.proofs.Common.{◌≡◌, ap, sym, ◌∙◌, subst}
use Rattle.ep_congruence_laws.specs.Results.{results_of}
use Rattle.ep_congruence_domain.specs.Congruence.{class_of, formed}
use Rattle.ep_congruence.proofs.Machine.{others}
use Rattle.ep_congruence.proofs.operators.results_of.Goals as goal

pub returns-in-Add : goal.returns-in-Add
returns-in-Add c = subst (λ o. c.sum.result ≡ formed (results_of o c.args.t (class_of c.args.x.now) (class_of c.args.y.now))) (sym c.in-Add.is) c.sum.ensures

pub returns-in-Sub : goal.returns-in-Sub
returns-in-Sub c = subst (λ o. c.difference.result ≡ formed (results_of o c.args.t (class_of c.args.x.now) (class_of c.args.y.now))) (sym c.in-Sub.is) c.difference.ensures

pub returns-in-Mul : goal.returns-in-Mul
returns-in-Mul c = subst (λ o. c.product_of.result ≡ formed (results_of o c.args.t (class_of c.args.x.now) (class_of c.args.y.now))) (sym c.in-Mul.is) c.product_of.ensures

pub returns-in-Shl : goal.returns-in-Shl
returns-in-Shl c = subst (λ o. c.shifted_of.result ≡ formed (results_of o c.args.t (class_of c.args.x.now) (class_of c.args.y.now))) (sym c.in-Shl.is) c.shifted_of.ensures

pub returns-in-Div : goal.returns-in-Div
returns-in-Div c = c.formed.ensures ∙ sym (ap formed (others c.args.op c.args.t (class_of c.args.x.now) (class_of c.args.y.now) c.in-Div.is))
