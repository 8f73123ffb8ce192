use Rattle.std.proofs.Common.{◌<◌, ◌∙◌, ap, arith, length}
use Rattle.std.specs.Global.{Vec}
use Rattle.ep_layout.specs.declared.table.AggregateEntry.{AggregateEntry}
use Rattle.ep_layout.specs.Grown.{reopened}
use Rattle.ep_layout.proofs.Grown.{undone_last, never_none}
use Rattle.ep_layout.proofs.table.marks.reopen_behind.Goals.{in-Some, in_default}
use Rattle.ep_layout.proofs.table.marks.reopen_behind.Goals as goal

pub loop-preserved : goal.loop-preserved
loop-preserved c =
    let i = c.loop.invariant in
    let cs = c.loop.completed.items in
    let less : c.args.count < length cs = omega (arith, i.2, c.loop-test.true, c.len-end.ensures) in
    elim c.match-pop.branch [
      | in-Some w ↦
          let s = undone_last reopened c.args.count c.loop.aggregates.items c.match-pop.aggregates.items cs c.pop.new.self.items c.pop.result w.in-Some.aggregate c.pop.ensures.items w.in-Some.is less (ap (λ (v : Vec AggregateEntry). v.items) w.aggregates-is ∙ w.reopen.ensures) in
          (s.0 ∙ i.0, s.1 ∙ i.1, omega (arith, s.2, i.2))
      | in_default w ↦ absurd (never_none c.pop.result (c.pop.ensures.variant.1 (omega (arith, less))) w.in_default.is)
    ]
