use Rattle.std.proofs.Common.{FitsSigned, rules, refl, ◌∙◌, ap, subst}
use Rattle.std.specs.Int.{w64}
use Rattle.std.proofs.lemmas.Int.{to_z-of_z}
use Rattle.ep_int.specs.Memory.{number}
use Rattle.ep_bytes.specs.declared.types.Byte.TheVariants.{Number}
use Rattle.ep_bytes.specs.StoreView.{IsPlace, block_of}
use Rattle.ep_bytes.proofs.Places.{replaced_place}
use Rattle.ep_bytes.proofs.store.Store.fill.Goals as goal

pub returns-clause-filled : goal.returns-clause-filled
returns-clause-filled c =
    let b = c.args.to.0 in
    let fits : FitsSigned w64 c.args.to.1 = search rules in
    let place = subst (λ z. IsPlace c.args.self.now b z c.args.n c.in_ok-place.place)
    (to_z-of_z w64 c.args.to.1 fits) c.in_ok-place.ensures.ok in
    let whole = c.block_at-size.ensures ∙ ap (λ xs. block_of xs b) c.deref.ensures.value in
    replaced_place c.self.view_is c.replace.new.self b c.args.to.1 c.args.n c.in_ok-place.place c.block_at-size.result
    (λ k. Number c.args.value) (λ k. number c.args.value) c.self.invariant c.requires place whole
    c.replace.ensures (λ k h. refl)
