use Rattle.std.proofs.Common.{◌∙◌, ap, sym, subst}
use Rattle.ep_cell_ranges.specs.Spots.{all_spots}
use Rattle.ep_state_rows.specs.Rows.{AreSpaced}
use Rattle.ep_transfer_places.specs.Room.{view}
use Rattle.ep_transfer_pieces.specs.Several.{are_many}
use Rattle.ep_transfer_pieces.proofs.AtEach.{several_is}
use Rattle.ep_transfer_pieces.proofs.several.places_apart.Goals as goal

pub returns : goal.returns
returns c =
    several_is c.args.joint (view c.args.to.now) c.args.bytes c.in_ok-all.all.items c.if-not-joint.false
    (ap are_many (sym c.deref.ensures.value) ∙ sym c.are_many.ensures ∙ c.if-not-are_many.false)
    (c.in_ok-all.ensures
    ∙ ap (λ z. all_spots z c.deref-3.result.now) c.deref-2.ensures.value
    ∙ ap (all_spots (view c.args.to.now).left) c.deref-3.ensures.value)
    (subst (AreSpaced c.args.bytes) c.deref-4.ensures.value (c.are_spaced.ensures c.if-not-are_spaced.false))
    c.requires
