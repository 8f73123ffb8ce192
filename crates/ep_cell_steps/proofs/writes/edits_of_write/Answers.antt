use Rattle.std.proofs.Common.{subst, ◌≡◌, suc}
use Rattle.ep_shared_parts.specs.Spread.{all_items, outlines, parts_to}
use Rattle.ep_shared_parts.specs.Mentions.{number_of}
use Rattle.ep_cell_steps.proofs.Writing.{written_from}
use Rattle.ep_cell_steps.proofs.writes.edits_of_write.Goals as goal

pub returns : goal.returns
returns g c =
    written_from g.N.Num.ops c.args.model c.args.c c.place_of-place.result c.reach-range.result.0 c.reach-range.result.1 (all_items c.args.uses.now) c.args.parts.now c.in_ok-edits.edits.items c.push.new.out.items c.place_for-at.result c.index-parts-at.result c.in_ok-part.part c.place_of-place.ensures (record { first = c.reach-range.ensures.from; end = c.reach-range.ensures.last }) c.in_ok-edits.ensures c.in_ok-push.ensures c.place_for-at.ensures.within (subst (λ k. suc c.place_for-at.result ≡ parts_to k (outlines number_of c.args.parts.now)) c.number_at.ensures c.place_for-at.ensures.there) c.index-parts-at.is c.in_ok-part.ensures.start c.in_ok-part.ensures.items
