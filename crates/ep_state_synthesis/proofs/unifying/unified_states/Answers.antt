use Rattle.ep_state_synthesis.proofs.Both.{models, both_unified, both_alike}
use Rattle.ep_state_synthesis.proofs.unifying.unified_states.Goals as goal

pub returns-then-is_like-clause-left : goal.returns-then-is_like-clause-left
returns-then-is_like-clause-left g c =
    (both_alike g.N.Num.ops c.args.a c.args.b c.in_ok-left.left c.in_ok-right.right c.requires.model
    c.in_ok-left.ensures c.in_ok-right.ensures c.model.ensures.cells c.model-2.ensures.cells
    (c.is_like.ensures.0 c.if-is_like.true)).0

pub returns-then-is_like-clause-right : goal.returns-then-is_like-clause-right
returns-then-is_like-clause-right g c =
    (both_alike g.N.Num.ops c.args.a c.args.b c.in_ok-left.left c.in_ok-right.right c.requires.model
    c.in_ok-left.ensures c.in_ok-right.ensures c.model.ensures.cells c.model-2.ensures.cells
    (c.is_like.ensures.0 c.if-is_like.true)).1

pub returns-clause-left : goal.returns-clause-left
returns-clause-left g c =
    (both_unified g.N.Num.ops c.args.a c.args.b c.in_ok-left.left c.in_ok-right.right c.in_ok-parted.parted.left
    c.in_ok-parted.parted.right c.in_ok-both.both.left c.in_ok-both.both.right c.requires.model c.requires.orders
    c.in_ok-left.ensures c.in_ok-right.ensures c.in_ok-parted.ensures.first c.in_ok-parted.ensures.second
    c.in_ok-both.ensures.first c.in_ok-both.ensures.second).0

pub returns-clause-right : goal.returns-clause-right
returns-clause-right g c =
    (both_unified g.N.Num.ops c.args.a c.args.b c.in_ok-left.left c.in_ok-right.right c.in_ok-parted.parted.left
    c.in_ok-parted.parted.right c.in_ok-both.both.left c.in_ok-both.both.right c.requires.model c.requires.orders
    c.in_ok-left.ensures c.in_ok-right.ensures c.in_ok-parted.ensures.first c.in_ok-parted.ensures.second
    c.in_ok-both.ensures.first c.in_ok-both.ensures.second).1

pub part_both-requires : goal.part_both-requires
part_both-requires g c =
    models c.args.a c.args.b c.in_ok-left.left c.in_ok-right.right _ _ c.requires.model c.in_ok-left.ensures
    c.in_ok-right.ensures

pub level_both-requires : goal.level_both-requires
level_both-requires g c =
    models c.in_ok-left.left c.in_ok-right.right c.in_ok-parted.parted.left c.in_ok-parted.parted.right _ _
    (models c.args.a c.args.b c.in_ok-left.left c.in_ok-right.right _ _ c.requires.model c.in_ok-left.ensures
    c.in_ok-right.ensures) c.in_ok-parted.ensures.first c.in_ok-parted.ensures.second
