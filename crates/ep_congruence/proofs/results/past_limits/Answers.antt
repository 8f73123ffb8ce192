use Rattle.std.proofs.Common.{ap, sym, ◌∙◌}
use Rattle.std.proofs.lemmas.Int.{to_z-of_z}
use Rattle.ep_congruence_laws.specs.Results.{multiples_of}
use Rattle.ep_congruence_domain.specs.Congruence.{Congruence, class_of, formed}
use Rattle.ep_congruence.proofs.Machine.{seen, remainder_fits, past_left, past_right, past_both}
use Rattle.ep_congruence.proofs.results.past_limits.Goals as goal

pub returns-then-is_one : goal.returns-then-is_one
returns-then-is_one c =
    let f = remainder_fits (seen c.x.inside) in
    let e = simp to_z-of_z at c.multiples_of.ensures in
    e ∙ ap (λ (k : Congruence). formed (multiples_of c.args.t k.remainder)) c.x.view_is ∙ sym (ap formed (past_left c.args.t (class_of c.args.x.now) (class_of c.args.y.now) (sym c.is_one.ensures ∙ c.if-is_one.true)))

pub returns-then-is_one-2 : goal.returns-then-is_one-2
returns-then-is_one-2 c =
    let f = remainder_fits (seen c.y.inside) in
    let e = simp to_z-of_z at c.multiples_of-then-is_one-2.ensures in
    e ∙ ap (λ (k : Congruence). formed (multiples_of c.args.t k.remainder)) c.y.view_is ∙ sym (ap formed (past_right c.args.t (class_of c.args.x.now) (class_of c.args.y.now) (sym c.is_one.ensures ∙ c.if-is_one.false) (sym c.is_one-else-is_one.ensures ∙ c.if-is_one-2.true)))

pub returns-else-is_one-2 : goal.returns-else-is_one-2
returns-else-is_one-2 c =
    c.formed.ensures ∙ sym (ap formed (past_both c.args.t (class_of c.args.x.now) (class_of c.args.y.now) (sym c.is_one.ensures ∙ c.if-is_one.false) (sym c.is_one-else-is_one.ensures ∙ c.if-is_one-2.false)))
