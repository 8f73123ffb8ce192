use Rattle.std.proofs.Common.{FitsSigned, rules, subst, ◌∙◌, ap}
use Rattle.std.specs.Int.{w64}
use Rattle.std.proofs.lemmas.Int.{to_z-of_z}
use Rattle.ep_int.specs.Types.{size_of}
use Rattle.ep_int.specs.Memory.{bytes_of_value}
use Rattle.ep_bytes.specs.View.{value_in}
use Rattle.ep_bytes.specs.Cells.{content_at}
use Rattle.ep_bytes.specs.StoreView.{IsPlace, block_of}
use Rattle.ep_bytes.proofs.Places.{replaced_place}
use Rattle.ep_bytes.proofs.store.Store.store.Goals as goal

pub returns-clause-stored : goal.returns-clause-stored
returns-clause-stored c =
    let b = c.args.block in
    let now = c.args.self.now in
    let n = size_of now.model c.args.what in
    let fits : FitsSigned w64 c.args.offset = search rules in
    let place =
    subst (λ z. IsPlace now b z n c.in_ok-place.place) (to_z-of_z w64 c.args.offset fits) c.in_ok-place.ensures.ok in
    let whole = c.block_at-size.ensures ∙ ap (λ xs. block_of xs b) c.deref.ensures.value in
    replaced_place c.self.view_is c.replace.new.self b c.args.offset n c.in_ok-place.place c.block_at-size.result
    (content_at c.content.result) (bytes_of_value c.args.order c.args.what (value_in c.args.d)) c.self.invariant
    c.requires.block place whole c.replace.ensures (c.content.ensures now.model)
