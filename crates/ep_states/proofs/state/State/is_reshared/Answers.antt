use Rattle.std.proofs.Common.{◌≡◌, ◌∙◌, ap, subst}
use Rattle.ep_cells.specs.Reshare.{places, reshared}
use Rattle.ep_shared_parts.specs.Spread.{all_items}
use Rattle.ep_cell_parts.specs.Alike.{are_different}
use Rattle.ep_cell_parts.proofs.Staying.{all_stay}
use Rattle.ep_states.proofs.state.State.is_reshared.Goals as goal

pub returns-clause-value : goal.returns-clause-value
returns-clause-value g c =
    subst (λ cs. c.are_different.result ≡ are_different g.N.Num.ops cs (places cs))
    (ap (λ k. k.cells) c.self.view_is)
    (c.are_different.ensures
    ∙ ap (λ z. are_different g.N.Num.ops (all_items z) c.deref-2.result.now) c.deref-3.ensures.value
    ∙ ap (are_different g.N.Num.ops (all_items c.self.inside.parts.cells.items)) c.deref-2.ensures.value
    ∙ ap (are_different g.N.Num.ops (all_items c.self.inside.parts.cells.items))
    (c.in_ok-places.ensures ∙ ap (λ z. places (all_items z)) c.deref.ensures.value))

pub returns-clause-stays : goal.returns-clause-stays
returns-clause-stays g c = λ h.
    subst (λ cs. cs ≡ reshared g.N.Num.ops cs) (ap (λ k. k.cells) c.self.view_is)
    (all_stay g.N.Num.ops c.in_ok-places.places.items (all_items c.self.inside.parts.cells.items) c.are_different.result
    (c.in_ok-places.ensures ∙ ap (λ z. places (all_items z)) c.deref.ensures.value)
    (c.are_different.ensures
    ∙ ap (λ z. are_different g.N.Num.ops (all_items z) c.deref-2.result.now) c.deref-3.ensures.value
    ∙ ap (are_different g.N.Num.ops (all_items c.self.inside.parts.cells.items)) c.deref-2.ensures.value) h)
