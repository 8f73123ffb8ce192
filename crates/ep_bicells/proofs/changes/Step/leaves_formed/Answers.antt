use Rattle.std.proofs.Common.{refl, sym, ◌∙◌}
use Rattle.ep_bicells.proofs.Fixed.{fixed_stays}
use Rattle.ep_bicells.proofs.changes.Step.leaves_formed.Goals as goal

pub returns-then-names_none : goal.returns-then-names_none
returns-then-names_none g c = λ h.
    fixed_stays g.N.Num.ops c.args.model c.args.self.now c.args.x.now c.args.form.now
    (c.if-names_none.ensures.none refl) c.if-names_none.ensures.normal c.requires (sym c.passes.ensures ∙ h)
