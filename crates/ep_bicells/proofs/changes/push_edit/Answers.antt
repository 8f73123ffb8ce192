use Rattle.std.proofs.Common.{[], ◌∷◌, subst, sym}
use Rattle.ep_shared_parts.specs.Plans.{AreEdits}
use Rattle.ep_bicells.specs.Steps.{after_step}
use Rattle.ep_shared_parts.proofs.Planning.{edits_append, edit_of}
use Rattle.ep_bicells.proofs.changes.push_edit.Goals as goal

pub returns-clause-edits : goal.returns-clause-edits
returns-clause-edits g c =
    let h = after_step g.N.Num.ops c.args.model c.args.step.now in
    let one = edit_of h c.args.parts.now c.args.i c.index-parts-i.result c.in_ok-part.part c.requires.within c.index-parts-i.is c.in_ok-part.ensures.start c.in_ok-part.ensures.items in
    subst (AreEdits h c.args.parts.now) (sym c.in_ok-push.ensures) (edits_append h c.args.parts.now c.args.out.now.items (record { at = c.args.i; part = c.in_ok-part.part } ∷ []) c.requires.edits (one, tt))
