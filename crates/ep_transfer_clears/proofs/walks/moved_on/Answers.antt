use Rattle.std.proofs.Common.{◌∙◌, sym, arith}
use Rattle.ep_transfer_clears.proofs.Stepping.{leaf_begins, leaf_ends}
use Rattle.ep_transfer_clears.proofs.walks.moved_on.Goals as goal

pub overflow_add-result-in-Some : goal.overflow_add-result-in-Some
overflow_add-result-in-Some c =
    let h = leaf_ends c.args.model c.args.bytes c.args.leaves.now c.args.at c.args.walk.begun c.args.walk.end
    c.requires.stands c.in-Some.what (sym c.requires.first ∙ c.in-Some.is) in
    omega (arith, h, c.size.ensures.value, c.ranges.bytes.fits)

pub returns-in-Some : goal.returns-in-Some
returns-in-Some c =
    leaf_begins c.args.model c.args.bytes c.args.leaves.now c.args.at c.args.walk.begun c.args.walk.end
    c.requires.stands c.in-Some.what c.size.result c.size.ensures.value (sym c.requires.first ∙ c.in-Some.is)
