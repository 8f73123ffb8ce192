use Rattle.std.proofs.Common.{◌≡◌, ◌∙◌, sym, ap, subst}
use Rattle.ep_cells.specs.Reshare.{places, reshared}
use Rattle.ep_shared_parts.specs.Spread.{all_items}
use Rattle.ep_cell_parts.specs.Alike.{are_different}
use Rattle.ep_cell_parts.proofs.Staying.{all_stay}
use Rattle.ep_states.proofs.state.State.is_reshared_at.Goals as goal

pub returns-clause-value : goal.returns-clause-value
returns-clause-value g c =
    c.are_different.ensures
    ∙ ap (λ z. are_different g.N.Num.ops (all_items z) c.args.at.now) c.deref.ensures.value
    ∙ ap (λ k. are_different g.N.Num.ops k.cells c.args.at.now) c.self.view_is
    ∙ ap (are_different g.N.Num.ops c.args.self.now.cells) c.requires

pub returns-clause-stays : goal.returns-clause-stays
returns-clause-stays g c = λ h.
    subst (λ cs. cs ≡ reshared g.N.Num.ops cs) (ap (λ k. k.cells) c.self.view_is)
    (all_stay g.N.Num.ops c.args.at.now (all_items c.self.inside.parts.cells.items) c.are_different.result
    (c.requires ∙ sym (ap (λ k. places k.cells) c.self.view_is))
    (c.are_different.ensures ∙ ap (λ z. are_different g.N.Num.ops (all_items z) c.args.at.now) c.deref.ensures.value) h)
