use Rattle.std.proofs.Common.{refl, sym, arith, ◌<◌, length}
use Rattle.std.proofs.lemmas.Option.{slice_get_read}
use Rattle.ep_layout.specs.Grown.{reopened}
use Rattle.ep_layout.proofs.Grown.{changed_set, changed_past}
use Rattle.ep_layout.proofs.table.marks.reopen.Goals as goal

pub returns-then-aggregate-len : goal.returns-then-aggregate-len
returns-then-aggregate-len c =
    let gs = c.args.aggregates.now.items in
    let g = c.index_mut.result.now in
    let below : c.args.aggregate < length gs = omega (arith, c.if-aggregate-len.true, c.len.ensures) in
    changed_set reopened gs c.args.aggregate g (slice_get_read gs _ c.args.aggregate g refl below c.index_mut.ensures.value)

pub returns-else-aggregate-len : goal.returns-else-aggregate-len
returns-else-aggregate-len c =
    sym (changed_past reopened c.args.aggregates.now.items c.args.aggregate (omega (arith, c.if-aggregate-len.false, c.len.ensures)))
