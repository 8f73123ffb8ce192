use Rattle.std.proofs.Common.{ℕ, ◌≤◌, pos, true, ap, sym, ◌∙◌, subst}
use Rattle.std.specs.Prelude.{unsigned_abs}
use Rattle.std.proofs.lemmas.Int.{to_z-of_z}
use Rattle.ep_congruence_laws.specs.Classes.{greatest_modulus, reduced}
use Rattle.ep_congruence_laws.specs.Results.{kept_modulus}
use Rattle.ep_congruence_laws.proofs.Results.{kept_small, size_small}
use Rattle.ep_congruence_domain.specs.Congruence.{formed}
use Rattle.ep_congruence.proofs.results.multiples_of.Goals as goal

pub reduced-requires : goal.reduced-requires
reduced-requires c =
    let f = c.ranges.v in
    let e = simp to_z-of_z at c.unsigned_abs.ensures.value in
    subst (λ (n : ℕ). n ≤ greatest_modulus) (sym (c.kept_modulus.ensures ∙ ap (kept_modulus c.args.t true) e)) (kept_small c.args.t (unsigned_abs c.args.v) (size_small c.args.v c.requires))

pub returns : goal.returns
returns c =
    let f = c.ranges.v in
    let e = simp to_z-of_z at c.unsigned_abs.ensures.value in
    c.reduced.ensures ∙ ap (λ (n : ℕ). formed (reduced (pos 0) n)) (c.kept_modulus.ensures ∙ ap (kept_modulus c.args.t true) e)
