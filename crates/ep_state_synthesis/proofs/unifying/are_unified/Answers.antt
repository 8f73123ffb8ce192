use Rattle.std.proofs.Common.{◌≡◌, ◌∙◌, sym, subst, rules}
use Rattle.ep_cells.specs.Reshare.{places}
use Rattle.ep_cells.specs.States.{AreCells, HaveCellsAlike}
use Rattle.ep_state_synthesis.proofs.Alike.{unified_stays, alike_places}
use Rattle.ep_state_synthesis.proofs.unifying.are_unified.Goals as goal

pub is_reshared_at-is_so-requires : goal.is_reshared_at-is_so-requires
is_reshared_at-is_so-requires g c =
    let there : c.in-Some.places.items ≡ places c.args.a.now.cells = search rules in
    let alike : HaveCellsAlike c.args.a.now.cells c.args.b.now.cells = search rules in
    c.deref-in-Some.ensures.value ∙ there ∙ alike_places c.args.a.now.cells c.args.b.now.cells alike

pub returns-else-not-is_reshared_at : goal.returns-else-not-is_reshared_at
returns-else-not-is_reshared_at g c = λ h.
    let alike : HaveCellsAlike c.args.a.now.cells c.args.b.now.cells = search rules in
    unified_stays g.N.Num.ops c.args.a.now c.args.b.now c.model.ensures.cells
    (subst (λ d. AreCells d c.args.b.now.cells) (sym c.requires) c.model-2.ensures.cells)
    alike (c.is_reshared_at.ensures.stays c.if-not-is_reshared_at.false) (c.is_reshared_at-is_so.ensures.stays h)
