use Rattle.std.proofs.Common.{sym, ◌∙◌}
use Rattle.ep_state_steps.proofs.Both.{crossing_is, crossed_are, level_cells, level_now, level_then}
use Rattle.ep_state_steps.proofs.levelling.level_both.Goals as goal

pub returns-then-are_none-clause-first : goal.returns-then-are_none-clause-first
returns-then-are_none-clause-first g c =
    level_now c.args.a c.in_ok-same.same.left c.args.b.cells _ _
    (level_cells g.N.Num.ops c.args.a c.args.b c.in_ok-lacked.lacked.left.items c.in_ok-lefts.lefts.items _ _ c.requires
    c.model-2.ensures.cells c.in_ok-lacked.ensures.left c.deref.ensures.value c.in_ok-lefts.ensures
    c.deref-3.ensures.value (c.are_none.ensures.first c.if-are_none.true))
    (level_cells g.N.Num.ops c.args.b c.args.a c.in_ok-lacked.lacked.right.items c.in_ok-rights.rights.items _ _
    (sym c.requires) c.model.ensures.cells c.in_ok-lacked.ensures.right c.deref-2.ensures.value c.in_ok-rights.ensures
    c.deref-4.ensures.value (c.are_none.ensures.second c.if-are_none.true)) c.in_ok-same.ensures.first

pub returns-then-are_none-clause-second : goal.returns-then-are_none-clause-second
returns-then-are_none-clause-second g c =
    level_now c.args.b c.in_ok-same.same.right c.args.a.cells _ _
    (level_cells g.N.Num.ops c.args.b c.args.a c.in_ok-lacked.lacked.right.items c.in_ok-rights.rights.items _ _
    (sym c.requires) c.model.ensures.cells c.in_ok-lacked.ensures.right c.deref-2.ensures.value c.in_ok-rights.ensures
    c.deref-4.ensures.value (c.are_none.ensures.second c.if-are_none.true))
    (level_cells g.N.Num.ops c.args.a c.args.b c.in_ok-lacked.lacked.left.items c.in_ok-lefts.lefts.items _ _ c.requires
    c.model-2.ensures.cells c.in_ok-lacked.ensures.left c.deref.ensures.value c.in_ok-lefts.ensures
    c.deref-3.ensures.value (c.are_none.ensures.first c.if-are_none.true)) c.in_ok-same.ensures.second

pub returns-clause-first : goal.returns-clause-first
returns-clause-first g c =
    level_then c.args.a c.in_ok-left.left c.in_ok-both.both.left c.in_ok-right.right.cells _ _
    (crossing_is g.N.Num.ops c.args.a c.args.b c.in_ok-left.left c.in_ok-lacked.lacked.left.items
    c.in_ok-lefts.lefts.items _ _ c.requires c.model-2.ensures.cells c.in_ok-lacked.ensures.left c.deref.ensures.value
    c.in_ok-lefts.ensures c.deref-5.ensures.value c.in_ok-left.ensures)
    (crossed_are g.N.Num.ops c.args.b c.args.a c.in_ok-right.right c.in_ok-lacked.lacked.right.items
    c.in_ok-rights.rights.items _ _ (sym c.requires) c.model.ensures.cells c.in_ok-lacked.ensures.right
    c.deref-2.ensures.value c.in_ok-rights.ensures c.deref-6.ensures.value c.in_ok-right.ensures)
    c.in_ok-both.ensures.first

pub returns-clause-second : goal.returns-clause-second
returns-clause-second g c =
    level_then c.args.b c.in_ok-right.right c.in_ok-both.both.right c.in_ok-left.left.cells _ _
    (crossing_is g.N.Num.ops c.args.b c.args.a c.in_ok-right.right c.in_ok-lacked.lacked.right.items
    c.in_ok-rights.rights.items _ _ (sym c.requires) c.model.ensures.cells c.in_ok-lacked.ensures.right
    c.deref-2.ensures.value c.in_ok-rights.ensures c.deref-6.ensures.value c.in_ok-right.ensures)
    (crossed_are g.N.Num.ops c.args.a c.args.b c.in_ok-left.left c.in_ok-lacked.lacked.left.items
    c.in_ok-lefts.lefts.items _ _ c.requires c.model-2.ensures.cells c.in_ok-lacked.ensures.left c.deref.ensures.value
    c.in_ok-lefts.ensures c.deref-5.ensures.value c.in_ok-left.ensures)
    c.in_ok-both.ensures.second
