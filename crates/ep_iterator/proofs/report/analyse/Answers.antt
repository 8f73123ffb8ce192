use Rattle.std.proofs.Common.{◌∙◌, sym}
use Rattle.ep_core.specs.ProgramView.{program_view}
use Rattle.ep_iterator.proofs.Reported.{alarms_are, turns_are, turns_within, turns_few, few}
use Rattle.ep_iterator.proofs.Reported.{heads_are, agreed, stand, even}
use Rattle.ep_iterator.proofs.report.analyse.Goals as goal

pub returns-clause-alarms : goal.returns-clause-alarms
returns-clause-alarms g c =
    alarms_are g.N.Num.ops (program_view c.args.program.now) c.args.orders.0 c.args.orders.1 c.args.unroll
    c.last_head.result _ c.last_head.ensures (g.met.N.Num.height_is ∙ sym c.HEIGHT.ensures)
    c.told.result.alarms (c.told.ensures.alarms ∙ c.in_ok-log.ensures.report)

pub returns-clause-turns : goal.returns-clause-turns
returns-clause-turns g c =
    turns_are g.N.Num.ops (program_view c.args.program.now) c.args.orders.0 c.args.orders.1 c.args.unroll
    c.last_head.result _ c.last_head.ensures (g.met.N.Num.height_is ∙ sym c.HEIGHT.ensures)
    c.args.turns.now c.walk.new.turns c.in_ok-log.ensures.turns

pub returns-clause-bound : goal.returns-clause-bound
returns-clause-bound g c =
    turns_few g.N.Num.ops (program_view c.args.program.now) c.args.orders.0 c.args.orders.1 c.args.unroll
    c.last_head.result _ c.last_head.ensures (g.met.N.Num.height_is ∙ sym c.HEIGHT.ensures)
    c.reports.ensures.turns c.args.turns.now c.walk.new.turns c.walk.ensures.bound

pub returns-in_err-log-clause-bound : goal.returns-in_err-log-clause-bound
returns-in_err-log-clause-bound g c =
    turns_few g.N.Num.ops (program_view c.args.program.now) c.args.orders.0 c.args.orders.1 c.args.unroll
    c.last_head.result _ c.last_head.ensures (g.met.N.Num.height_is ∙ sym c.HEIGHT.ensures)
    c.reports.ensures.turns c.args.turns.now c.walk.new.turns c.walk.ensures.bound

pub returns-clause-within : goal.returns-clause-within
returns-clause-within g c =
    turns_within g.N.Num.ops (program_view c.args.program.now) c.args.orders.0 c.args.orders.1 c.args.unroll
    c.last_head.result _ c.last_head.ensures (g.met.N.Num.height_is ∙ sym c.HEIGHT.ensures)
    c.args.turns.now c.walk.new.turns c.walk.ensures.bound

pub returns-in_err-log-clause-within : goal.returns-in_err-log-clause-within
returns-in_err-log-clause-within g c =
    turns_within g.N.Num.ops (program_view c.args.program.now) c.args.orders.0 c.args.orders.1 c.args.unroll
    c.last_head.result _ c.last_head.ensures (g.met.N.Num.height_is ∙ sym c.HEIGHT.ensures)
    c.args.turns.now c.walk.new.turns c.walk.ensures.bound

pub returns-clause-few : goal.returns-clause-few
returns-clause-few g c =
    few g.N.Num.ops (program_view c.args.program.now) c.args.orders.0 c.args.orders.1 c.args.unroll
    c.reports.ensures.turns

pub returns-in_err-log-clause-few : goal.returns-in_err-log-clause-few
returns-in_err-log-clause-few g c =
    few g.N.Num.ops (program_view c.args.program.now) c.args.orders.0 c.args.orders.1 c.args.unroll
    c.reports.ensures.turns

pub returns-in_err-sizes-clause-few : goal.returns-in_err-sizes-clause-few
returns-in_err-sizes-clause-few g c =
    few g.N.Num.ops (program_view c.args.program.now) c.args.orders.0 c.args.orders.1 c.args.unroll
    c.reports.ensures.turns

pub returns-clause-heads : goal.returns-clause-heads
returns-clause-heads g c =
    heads_are g.N.Num.ops (program_view c.args.program.now) c.args.orders.0 c.args.orders.1 c.args.unroll
    c.last_head.result _ c.last_head.ensures (g.met.N.Num.height_is ∙ sym c.HEIGHT.ensures)
    c.args.keeps_heads c.in_ok-log.log.heads c.told.result.heads.items c.told.ensures.heads c.in_ok-log.ensures.heads

pub returns-clause-agree : goal.returns-clause-agree
returns-clause-agree g c =
    agreed g.N.Num.ops (program_view c.args.program.now) c.args.orders.0 c.args.orders.1 c.args.unroll
    c.args.program.now.well_formed c.told.result.alarms (returns-clause-alarms g c) c.cell_states.ensures.agree

pub returns-clause-stand : goal.returns-clause-stand
returns-clause-stand g c =
    stand g.N.Num.ops (program_view c.args.program.now) c.args.orders.0 c.args.orders.1 c.args.unroll
    c.args.program.now.well_formed c.told.result.alarms (returns-clause-alarms g c) c.cell_alarms.ensures.cells
    c.model.ensures.built

pub returns-clause-even : goal.returns-clause-even
returns-clause-even g c =
    even g.N.Num.ops (program_view c.args.program.now) c.args.orders.0 c.args.orders.1 c.args.unroll
    c.args.program.now.well_formed c.told.result.alarms (returns-clause-alarms g c) c.cell_alarms.ensures.even
    c.model.ensures.built
